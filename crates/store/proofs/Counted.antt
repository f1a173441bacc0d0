-- How many entries each author has, one entry more.
use Rattle.std.proofs.Common.{◌≡◌, ℕ, ◌+◌, List, [], ◌∷◌, ◌++◌, Bool, true, false, cond, Some, refl, sym, ap, ◌∙◌, arith}
use Rattle.std.specs.Prelude.{nat_eq, sum_by, unwrap_or}
use Rattle.std.specs.BTreeMap.{is_at}
use Rattle.std.specs.Map.{lookup}
use Rattle.std.specs.Ordering.{nat_cmp}
use Rattle.std.proofs.lemmas.Bool.{eqb-true}
use Rattle.std.proofs.lemmas.Bool.Decides.{nat_tests}
use Rattle.std.proofs.lemmas.List.Sums.{sum_by-append}
use Rattle.ground_model.specs.declared.entry.Entry.{Entry}
use Rattle.ground_model.specs.History.{entries_of}
use Rattle.store.specs.Births.{AreCounts}

entries-push : (author : ℕ) (h : List Entry) (x : Entry) → entries_of author (h ++ x ∷ []) ≡ entries_of author h + cond (nat_eq x.author author) 1 0
entries-push author h x = sum_by-append (λ entry. cond (nat_eq entry.author author) 1 0) h (x ∷ []) ∙ ap (λ n. entries_of author h + n) (one (nat_eq x.author author) refl)
  where
    one : (t : Bool) → nat_eq x.author author ≡ t → sum_by (λ entry. cond (nat_eq entry.author author) 1 0) (x ∷ []) ≡ cond (nat_eq x.author author) 1 0
    one true e = rw e refl
    one false e = rw e refl

-- the tests of a map at a number
pub at-equal : (a b : ℕ) → is_at (nat_cmp a) b ≡ nat_eq a b
at-equal a b = grind (arith, nat_tests)

pub counts-push : (h : List Entry) (x : Entry) (old now : List (ℕ × ℕ)) (author number : ℕ) → AreCounts h old → x.author ≡ author → number ≡ entries_of author h + 1
    → ((a : ℕ) → lookup (is_at (nat_cmp a)) now ≡ cond (is_at (nat_cmp author) a) (Some number) (lookup (is_at (nat_cmp a)) old))
    → AreCounts (h ++ x ∷ []) now
counts-push h x old now author number are by is updates a =
    ap (λ o. unwrap_or o 0) (updates a)
    ∙ ap (λ t. unwrap_or (cond t (Some number) (lookup (is_at (nat_cmp a)) old)) 0) (at-equal author a)
    ∙ chosen (nat_eq author a) refl
    ∙ ap (λ n. entries_of a h + cond (nat_eq n a) 1 0) (sym by)
    ∙ sym (entries-push a h x)
  where
    chosen : (t : Bool) → nat_eq author a ≡ t → unwrap_or (cond t (Some number) (lookup (is_at (nat_cmp a)) old)) 0 ≡ entries_of a h + cond (nat_eq author a) 1 0
    chosen true e = is ∙ ap (λ b. entries_of b h + 1) (eqb-true author a e) ∙ ap (λ t. entries_of a h + cond t 1 0) (sym e)
    chosen false e = are a ∙ plus_none (entries_of a h) ∙ ap (λ t. entries_of a h + cond t 1 0) (sym e)
      where
        plus_none : (n : ℕ) → n ≡ n + 0
        plus_none n = omega arith
