-- What stands in a list that was written at one index, by `slice_get`.
use Rattle.std.proofs.Common.{◌≡◌, ℕ, suc, zero, Some, ◌<◌, List, [], ◌∷◌, length, set, refl, ap, arith}
use Rattle.std.specs.List.{slice_get}

pub slice_get-set_same : {X : Type 0} (xs : List X) (i : ℕ) (y : X) → i < length xs → slice_get (set xs i y) i ≡ Some y
slice_get-set_same [] i y h = absurd (omega (arith, h))
slice_get-set_same (x ∷ xs) zero y h = refl
slice_get-set_same (x ∷ xs) (suc i) y h = slice_get-set_same xs i y (omega (arith, h))

pub slice_get-set_other : {X : Type 0} (xs : List X) (i : ℕ) (y : X) (k : ℕ) → (k ≡ i → ⊥) → slice_get (set xs i y) k ≡ slice_get xs k
slice_get-set_other [] i y k ne = refl
slice_get-set_other (x ∷ xs) zero y zero ne = absurd (ne refl)
slice_get-set_other (x ∷ xs) zero y (suc k) ne = refl
slice_get-set_other (x ∷ xs) (suc i) y zero ne = refl
slice_get-set_other (x ∷ xs) (suc i) y (suc k) ne = slice_get-set_other xs i y k (λ e. ne (ap suc e))
