-- An index of lines by their places.
use Rattle.std.specs.Prelude.{ℕ, ◌≡◌, Bool, not, nat_eq, cond, List, [], ◌∷◌, ◌++◌, map, unwrap_or}
use Rattle.std.specs.List.{filter, list_any}
use Rattle.page_index.specs.Pairs.{Pairs, value_of}
use Rattle.ground_model.specs.Place.{Coords, IsPlace}
use Rattle.ground_model.specs.Height.{code}
use Rattle.ground_model.specs.Line.{Line, has_place}

-- the numbers of the lines with the place, in order
abbrev pub numbers_with : Coords → List (ℕ × Line) → List ℕ
numbers_with p entries = map (λ entry. entry.0) (filter (λ entry. has_place p entry.1) entries)

-- the numbers that an index has at the place
abbrev pub numbers_at : Coords → Pairs (List ℕ) → List ℕ
numbers_at p index = unwrap_or (value_of (code p) index) []

-- the numbers with one more at the end, unless it is among them
abbrev pub with_number : ℕ → List ℕ → List ℕ
with_number k numbers = cond (list_any (nat_eq k) numbers) numbers (numbers ++ k ∷ [])

-- the numbers but this one
abbrev pub without_number : ℕ → List ℕ → List ℕ
without_number k = filter (λ m. not (nat_eq m k))

-- the numbers at the places that pass are changed, and no others
abbrev pub IsChangedAt : (Coords → Bool) → (List ℕ → List ℕ) → Pairs (List ℕ) → Pairs (List ℕ) → Type 0
IsChangedAt passes change before after = (p : Coords) → IsPlace p → numbers_at p after ≡ cond (passes p) (change (numbers_at p before)) (numbers_at p before)

-- the index has at each place the lines with it
abbrev pub IsByPlace : List (ℕ × Line) → Pairs (List ℕ) → Type 0
IsByPlace entries index = (p : Coords) → IsPlace p → numbers_at p index ≡ numbers_with p entries
