-- Signs of whole numbers and of products.
use Rattle.std.proofs.Common.{◌≡◌, ℕ, zero, suc, ap, arith}
use Rattle.std.specs.Prelude.{ℤ, pos, negsuc, neg_ℤ, ◌-ℤ◌, ◌*ℤ◌, ◌<ℤ◌, ◌≤ℤ◌}
use Rattle.std.proofs.lemmas.Int.{ints}

-- ---- signs that are weaker
pub weaken : (x : ℤ) → pos 0 <ℤ x → pos 0 ≤ℤ x
weaken x h = omega (arith, ints, h)

pub weaken-neg : (x : ℤ) → x <ℤ pos 0 → x ≤ℤ pos 0
weaken-neg x h = omega (arith, ints, h)

pub level-up : (x : ℤ) → x ≡ pos 0 → pos 0 ≤ℤ x
level-up x e = omega (arith, ints, e)

pub level-down : (x : ℤ) → x ≡ pos 0 → x ≤ℤ pos 0
level-down x e = omega (arith, ints, e)

-- ---- signs that clash
pub never-level : (x : ℤ) → pos 0 <ℤ x → x ≡ pos 0 → ⊥
never-level x h e = omega (arith, ints, h, e)

pub never-flat : (x : ℤ) → x <ℤ pos 0 → x ≡ pos 0 → ⊥
never-flat x h e = omega (arith, ints, h, e)

pub never-both : (x : ℤ) → pos 0 <ℤ x → x <ℤ pos 0 → ⊥
never-both x h k = omega (arith, ints, h, k)

pub never-low : (x : ℤ) → pos 0 <ℤ x → x ≤ℤ pos 0 → ⊥
never-low x h k = omega (arith, ints, h, k)

pub never-high : (x : ℤ) → pos 0 ≤ℤ x → x <ℤ pos 0 → ⊥
never-high x h k = omega (arith, ints, h, k)

-- ---- signs along an equation
pub positive-along : (x y : ℤ) → x ≡ y → pos 0 <ℤ y → pos 0 <ℤ x
positive-along x y e h = omega (arith, ints, e, h)

pub negative-along : (x y : ℤ) → x ≡ y → y <ℤ pos 0 → x <ℤ pos 0
negative-along x y e h = omega (arith, ints, e, h)

pub positive-neg : (x y : ℤ) → y ≡ neg_ℤ x → x <ℤ pos 0 → pos 0 <ℤ y
positive-neg x y e h = omega (arith, ints, e, h)

pub negative-neg : (x y : ℤ) → y ≡ neg_ℤ x → pos 0 <ℤ x → y <ℤ pos 0
negative-neg x y e h = omega (arith, ints, e, h)

pub positive-less : (x : ℤ) → x <ℤ pos 0 → pos 0 <ℤ (pos 0 -ℤ x)
positive-less x h = omega (arith, ints, h)

-- ---- signs of products

pub mul-nonneg : (x y : ℤ) → pos 0 ≤ℤ x → pos 0 ≤ℤ y → pos 0 ≤ℤ (x *ℤ y)
mul-nonneg (pos m) (pos n) h k = omega (arith, ints)
mul-nonneg (negsuc m) y h k = absurd (omega (arith, ints, h))
mul-nonneg x (negsuc n) h k = absurd (omega (arith, ints, k))

pub mul-nonpos : (x y : ℤ) → x ≤ℤ pos 0 → y ≤ℤ pos 0 → pos 0 ≤ℤ (x *ℤ y)
mul-nonpos (negsuc m) (negsuc n) h k = omega (arith, ints)
mul-nonpos (pos zero) y h k = omega (arith, ints)
mul-nonpos x (pos zero) h k = omega (arith, ints)
mul-nonpos (pos (suc m)) y h k = absurd (omega (arith, ints, h))
mul-nonpos x (pos (suc n)) h k = absurd (omega (arith, ints, k))

pub mul-mixed : (x y : ℤ) → pos 0 ≤ℤ x → y ≤ℤ pos 0 → (x *ℤ y) ≤ℤ pos 0
mul-mixed (pos m) (negsuc n) h k = omega (arith, ints)
mul-mixed x (pos zero) h k = omega (arith, ints)
mul-mixed (negsuc m) y h k = absurd (omega (arith, ints, h))
mul-mixed x (pos (suc n)) h k = absurd (omega (arith, ints, k))

pub mul-negative : (x y : ℤ) → pos 0 <ℤ x → y <ℤ pos 0 → (x *ℤ y) <ℤ pos 0
mul-negative (pos (suc m)) (negsuc n) h k = omega (arith, ints)
mul-negative (pos zero) y h k = absurd (omega (arith, ints, h))
mul-negative (negsuc m) y h k = absurd (omega (arith, ints, h))
mul-negative x (pos n) h k = absurd (omega (arith, ints, k))

-- a number times a positive one
pub mul-at-least : (h x : ℤ) (big : ℕ) → h ≡ pos big → pos 0 <ℤ x → pos big ≤ℤ (h *ℤ x)
mul-at-least h (pos zero) big e k = absurd (omega (arith, ints, k))
mul-at-least h (pos (suc n)) big e k = by (h *ℤ pos (suc n)) (ap (λ t. t *ℤ pos (suc n)) e)
  where
    by : (z : ℤ) → z ≡ pos big *ℤ pos (suc n) → pos big ≤ℤ z
    by z e = omega (arith, ints, e)
mul-at-least h (negsuc n) big e k = absurd (omega (arith, ints, k))
