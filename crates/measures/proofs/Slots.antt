-- What was found at the slots so far.
use Rattle.std.proofs.Common.{◌≡◌, ℕ, zero, suc, ◌+◌, ◌≤◌, refl, ap, arith, List, [], ◌∷◌, ◌++◌, length, take}
use Rattle.std.specs.Prelude.{Option, Some, None, unwrap_or, slice_get}
use Rattle.std.specs.List.{filter_map, cons_option}

-- the kept ones among them
abbrev pub found_in : {X : Type 0} → List (Option X) → List X
found_in slots = filter_map (λ x. x) slots

pub found_next : {X : Type 0} (slots : List (Option X)) (i : ℕ) → found_in (take (i + 1) slots) ≡ found_in (take i slots) ++ cons_option (unwrap_or (slice_get slots i) None) []
found_next slots i = more slots i (i + 1) (omega arith)
  where
    more : {X : Type 0} (slots : List (Option X)) (i j : ℕ) → j ≡ suc i → found_in (take j slots) ≡ found_in (take i slots) ++ cons_option (unwrap_or (slice_get slots i) None) []
    more [] zero zero e = refl
    more [] zero (suc j) e = refl
    more [] (suc i) zero e = refl
    more [] (suc i) (suc j) e = refl
    more (o ∷ slots) zero zero e = absurd (omega (arith, e))
    more (o ∷ slots) (suc i) zero e = absurd (omega (arith, e))
    more (None ∷ slots) zero (suc zero) e = refl
    more (Some x ∷ slots) zero (suc zero) e = refl
    more (o ∷ slots) zero (suc (suc j)) e = absurd (omega (arith, e))
    more (None ∷ slots) (suc i) (suc j) e = more slots i j (omega (arith, e))
    more (Some x ∷ slots) (suc i) (suc j) e = ap (λ k. x ∷ k) (more slots i j (omega (arith, e)))

pub found_some : {X : Type 0} (slots : List (Option X)) (i : ℕ) → length (found_in (take i slots)) ≤ length (found_in slots)
found_some [] zero = omega arith
found_some [] (suc i) = omega arith
found_some (o ∷ slots) zero = omega arith
found_some (None ∷ slots) (suc i) = found_some slots i
found_some (Some x ∷ slots) (suc i) = let rest = found_some slots i in omega (arith, rest)
