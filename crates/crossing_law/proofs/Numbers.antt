-- Signs of numbers that an equation of products gives.
use Rattle.std.proofs.Common.{◌≡◌, [], ◌∷◌, refl, arith}
use Rattle.std.specs.Prelude.{ℤ, pos, ◌-ℤ◌, ◌*ℤ◌, ◌<ℤ◌, ◌≤ℤ◌}
use Rattle.std.proofs.lemmas.Int.{ints, by_lt_z}
use Rattle.ground_model.proofs.Ring.{var, num, ◌⊖◌, ◌⊗◌, ring}
use Rattle.ground_model.proofs.ZOrder.{mul-positive}
use Rattle.predicates.proofs.Signs.{mul-nonneg, mul-nonpos, weaken}

-- x times something less than 0 is less than 0
pub positive_by : (x y s : ℤ) → x *ℤ y ≡ s → y <ℤ pos 0 → s <ℤ pos 0 → pos 0 <ℤ x
positive_by x y s e low h = by_lt_z (pos 0) x (λ lt. lt) (λ le. absurd (none (x *ℤ y) s e (mul-nonpos x y le (below y low)) h))
  where
    below : (y : ℤ) → y <ℤ pos 0 → y ≤ℤ pos 0
    below y h = omega (arith, ints, h)

    none : (t s : ℤ) → t ≡ s → pos 0 ≤ℤ t → s <ℤ pos 0 → ⊥
    none t s e h k = omega (arith, ints, e, h, k)

-- x times something more than 0 is less than 0
pub negative_by : (x y s : ℤ) → x *ℤ y ≡ s → pos 0 <ℤ y → s <ℤ pos 0 → x <ℤ pos 0
negative_by x y s e high h = by_lt_z x (pos 0) (λ lt. lt) (λ le. absurd (none (x *ℤ y) s e (mul-nonneg x y le (weaken y high)) h))
  where
    none : (t s : ℤ) → t ≡ s → pos 0 ≤ℤ t → s <ℤ pos 0 → ⊥
    none t s e h k = omega (arith, ints, e, h, k)

-- a product with one factor more and one less than 0
pub mul-low : (x y : ℤ) → pos 0 <ℤ x → y <ℤ pos 0 → (x *ℤ y) <ℤ pos 0
mul-low x y h k = below (x *ℤ y) (x *ℤ (pos 0 -ℤ y)) (opposite x y) (mul-positive x (pos 0 -ℤ y) h (over y k))
  where
    over : (y : ℤ) → y <ℤ pos 0 → pos 0 <ℤ (pos 0 -ℤ y)
    over y k = omega (arith, ints, k)

    opposite : (x y : ℤ) → x *ℤ (pos 0 -ℤ y) ≡ pos 0 -ℤ x *ℤ y
    opposite x y = ring (x ∷ y ∷ []) (var 0 ⊗ (num (pos 0) ⊖ var 1)) (num (pos 0) ⊖ var 0 ⊗ var 1) refl

    below : (s t : ℤ) → t ≡ pos 0 -ℤ s → pos 0 <ℤ t → s <ℤ pos 0
    below s t e h = omega (arith, ints, e, h)
