-- A list with an item exchanged: its items, its tests and its sums.
use Rattle.std.proofs.Common.{◌≡◌, ℕ, zero, suc, ◌⊎◌, inl, inr, refl, sym, ap, ◌∙◌, arith, List, [], ◌∷◌}
use Rattle.std.specs.Prelude.{ℤ, ◌+ℤ◌, Some, slice_get, slice_set}
use Rattle.std.proofs.lemmas.Int.{ints}
use Rattle.predicates.specs.Sums.{total}

-- ---- its items
pub get-set : {X : Type 0} (xs : List X) (k : ℕ) (t x : X) → slice_get xs k ≡ Some t → slice_get (slice_set xs k x) k ≡ Some x
get-set [] k t x at = cc
get-set (y ∷ ys) zero t x at = refl
get-set (y ∷ ys) (suc k) t x at = get-set ys k t x at

pub get-set_other : {X : Type 0} (xs : List X) (k j : ℕ) (x : X) → (j ≡ k → ⊥) → slice_get (slice_set xs k x) j ≡ slice_get xs j
get-set_other [] k j x differ = refl
get-set_other (y ∷ ys) zero zero x differ = absurd (differ refl)
get-set_other (y ∷ ys) zero (suc j) x differ = refl
get-set_other (y ∷ ys) (suc k) zero x differ = refl
get-set_other (y ∷ ys) (suc k) (suc j) x differ = get-set_other ys k j x (λ e. differ (ap suc e))

-- each is the new one, or one of the others at its index
pub set-item : {X : Type 0} (xs : List X) (k j : ℕ) (x y : X) → slice_get (slice_set xs k x) j ≡ Some y → (y ≡ x) ⊎ (slice_get xs j ≡ Some y)
set-item [] k j x y at = cc
set-item (z ∷ zs) zero zero x y at = let same : y ≡ x = cc in inl same
set-item (z ∷ zs) zero (suc j) x y at = inr at
set-item (z ∷ zs) (suc k) zero x y at = inr at
set-item (z ∷ zs) (suc k) (suc j) x y at = set-item zs k j x y at

-- ---- its sums
pub total-set : {X : Type 0} (f : X → ℤ) (xs : List X) (k : ℕ) (t x : X) → slice_get xs k ≡ Some t → total f (slice_set xs k x) +ℤ f t ≡ total f xs +ℤ f x
total-set f [] k t x at = cc
total-set f (y ∷ ys) zero t x at = let same : y ≡ t = cc in first (f x) (total f ys) (f t) (f y) (ap f same)
  where
    first : (x s t y : ℤ) → y ≡ t → (x +ℤ s) +ℤ t ≡ (y +ℤ s) +ℤ x
    first x s t y e = omega (arith, ints, e)
total-set f (y ∷ ys) (suc k) t x at = later (f y) (total f (slice_set ys k x)) (f t) (total f ys) (f x) (total-set f ys k t x at)
  where
    later : (y s t u x : ℤ) → s +ℤ t ≡ u +ℤ x → (y +ℤ s) +ℤ t ≡ (y +ℤ u) +ℤ x
    later y s t u x e = omega (arith, ints, e)

-- two items exchanged
pub total-exchanged : {X : Type 0} (f : X → ℤ) (xs : List X) (j k : ℕ) (t u x y : X) → slice_get xs j ≡ Some t → slice_get xs k ≡ Some u → (j ≡ k → ⊥)
    → total f (slice_set (slice_set xs j x) k y) +ℤ (f t +ℤ f u) ≡ total f xs +ℤ (f x +ℤ f y)
total-exchanged f xs j k t u x y at_j at_k apart =
    both (total f (slice_set (slice_set xs j x) k y)) (total f (slice_set xs j x)) (total f xs) (f t) (f u) (f x) (f y)
    (total-set f (slice_set xs j x) k u y (get-set_other xs j k x (λ e. apart (sym e)) ∙ at_k)) (total-set f xs j t x at_j)
  where
    both : (s r q t u x y : ℤ) → s +ℤ u ≡ r +ℤ y → r +ℤ t ≡ q +ℤ x → s +ℤ (t +ℤ u) ≡ q +ℤ (x +ℤ y)
    both s r q t u x y e f = omega (arith, ints, e, f)
