-- A history of edits, what it makes, and when a mark was born.
use Rattle.std.specs.Prelude.{ℕ, suc, zero, ◌+◌, ◌≡◌, Bool, true, false, not, ◌&&◌, List, length, ℤ, take, fold, count_by, Option, Some, None, slice_get, if◌then◌else◌, nat_eq}
use Rattle.std.specs.Ordering.{int_eq}
use Rattle.ground_model.specs.declared.limits.Limits.{Limits}
use Rattle.ground_model.specs.declared.entry.Entry.{Entry}
use Rattle.ground_model.specs.declared.mark.Mark.{Mark}
use Rattle.ground_model.specs.declared.mark.Mark.TheVariants.{Point, Tri}
use Rattle.ground_model.specs.Content.{Content, empty, after, level_of}
use Rattle.ground_model.specs.Tri.{is_facet_of}
use Rattle.ground_model.specs.Refusal.{IsLawful}

-- the content after all entries, oldest first
unfoldable pub content_of : List Entry → Content
content_of h = fold (λ c entry. after c entry.edit) empty h

-- how many entries the author has
abbrev pub entries_of : ℕ → List Entry → ℕ
entries_of author h = count_by (λ entry. nat_eq entry.author author) h

-- an entry that may come next: its edit is lawful, and it has its author's next number
abbrev pub IsNext : Limits → List Entry → Entry → Type 0
IsNext limits past entry = IsLawful (content_of past) (length past) limits entry.edit × (entry.number ≡ entries_of entry.author past + 1)

-- each entry may come after those before it
abbrev pub IsLegal : Limits → List Entry → Type 0
IsLegal limits h = (k : ℕ) (entry : Entry) → slice_get h k ≡ Some entry → IsNext limits (take k h) entry

-- whether a point's level before and after an edit is another, or there was none before
abbrev pub is_new_level : Option ℤ → Option ℤ → Bool
is_new_level before None = false
is_new_level None (Some z) = true
is_new_level (Some y) (Some z) = not (int_eq y z)

-- whether the mark is there now and was not there before: a facet as it is, a point with its level
abbrev pub is_made : Content → Content → Mark → Bool
is_made before now (Tri f) = is_facet_of now f && not (is_facet_of before f)
is_made before now (Point p) = is_new_level (level_of before p) (level_of now p)

-- whether the entry after the first k makes the mark
abbrev pub makes : List Entry → Mark → ℕ → Bool
makes h m k = is_made (content_of (take k h)) (content_of (take (suc k) h)) m

-- the last entry up to k, counted from 1, that makes the mark; 0 where none does
abbrev pub born_by : List Entry → Mark → ℕ → ℕ
born_by h m zero = 0
born_by h m (suc k) = if makes h m k then suc k else born_by h m k

-- the last entry that makes the mark
unfoldable pub born : List Entry → Mark → ℕ
born h m = born_by h m (length h)
