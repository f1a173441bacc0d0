-- Sums of whole numbers over a list.
use Rattle.std.proofs.Common.{◌≡◌, refl, sym, ap, ◌∙◌, arith, List, [], ◌∷◌, ◌++◌, map}
use Rattle.std.specs.Prelude.{ℤ, pos, ◌+ℤ◌}
use Rattle.std.specs.List.{flat_map}
use Rattle.std.proofs.lemmas.Int.{ints}
use Rattle.ground_model.proofs.ZLaws.{add_assoc}
use Rattle.predicates.specs.Sums.{total}

zero_add : (x : ℤ) → x ≡ pos 0 +ℤ x
zero_add x = omega (arith, ints)

pub total-append : {X : Type 0} (f : X → ℤ) (xs ys : List X) → total f (xs ++ ys) ≡ total f xs +ℤ total f ys
total-append f [] ys = zero_add (total f ys)
total-append f (x ∷ xs) ys = ap (λ k. f x +ℤ k) (total-append f xs ys) ∙ sym (add_assoc (f x) (total f xs) (total f ys))

pub total-map : {X Y : Type 0} (f : Y → ℤ) (g : X → Y) (xs : List X) → total f (map g xs) ≡ total (λ x. f (g x)) xs
total-map f g [] = refl
total-map f g (x ∷ xs) = ap (λ k. f (g x) +ℤ k) (total-map f g xs)

pub total-flat_map : {X Y : Type 0} (f : Y → ℤ) (g : X → List Y) (xs : List X) → total f (flat_map g xs) ≡ total (λ x. total f (g x)) xs
total-flat_map f g [] = refl
total-flat_map f g (x ∷ xs) = total-append f (g x) (flat_map g xs) ∙ ap (λ k. total f (g x) +ℤ k) (total-flat_map f g xs)

pub total-same : {X : Type 0} (f g : X → ℤ) → ((x : X) → f x ≡ g x) → (xs : List X) → total f xs ≡ total g xs
total-same f g same [] = refl
total-same f g same (x ∷ xs) = ap (λ k. k +ℤ total f xs) (same x) ∙ ap (λ k. g x +ℤ k) (total-same f g same xs)

-- opposite terms have opposite sums
pub total-opposite : {X : Type 0} (f g : X → ℤ) → ((x : X) → f x +ℤ g x ≡ pos 0) → (xs : List X) → total f xs +ℤ total g xs ≡ pos 0
total-opposite f g opposite [] = refl
total-opposite f g opposite (x ∷ xs) = both (f x) (g x) (total f xs) (total g xs) (opposite x) (total-opposite f g opposite xs)
  where
    both : (a b s t : ℤ) → a +ℤ b ≡ pos 0 → s +ℤ t ≡ pos 0 → (a +ℤ s) +ℤ (b +ℤ t) ≡ pos 0
    both a b s t h k = omega (arith, ints, h, k)
