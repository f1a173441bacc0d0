-- Powers of the base by multiples of the greatest code: each outweighs all products of lesser ones that occur.
use Rattle.std.proofs.Common.{◌≡◌, ℕ, suc, ◌+◌, ◌*◌, ◌^◌, ◌≤◌, ◌<◌, refl, sym, ap, ◌∙◌, arith}
use Rattle.std.proofs.lemmas.Nat.{pow-add}
use Rattle.std.proofs.Math.Nat.{pow-le-pow_right, pow-succ', one-le-pow}
use Rattle.ground_model.specs.Height.{base, top}
use Rattle.ground_model.specs.Corner.{far, far_height}
use Rattle.ground_model.proofs.Lifted.{base_is}

some_base : 0 < base
some_base = omega (arith, base_is)

-- a power whose exponent is greater by 2 or more is greater by more than 2 ^ 120
pub outgrows : (i j : ℕ) → i + 2 ≤ j → 2 ^ 120 * base ^ i < base ^ j
outgrows i j le =
    steps base (base ^ i) (base ^ suc i) (base ^ suc (suc i)) (base ^ j) base_is (pow-succ' base i) (pow-succ' base (suc i))
    (pow-le-pow_right some_base (omega (arith, le))) (one-le-pow i base some_base)
  where
    steps : (b x y z w : ℕ) → b ≡ 2 ^ 64 → y ≡ b * x → z ≡ b * y → z ≤ w → 1 ≤ x → 2 ^ 120 * x < w
    steps b x y z w eb ey ez le some =
        let ey' : y ≡ 2 ^ 64 * x = ey ∙ ap (λ k. k * x) eb in
        let ez' : z ≡ 2 ^ 64 * y = ez ∙ ap (λ k. k * y) eb in
        omega (arith, ey', ez', le, some)

-- ---- far and the heights as such powers
pub far_is : far ≡ base ^ (2 * top)
unfolding far
far_is = refl

pub height0_is : far_height 0 ≡ base ^ (24 * top)
unfolding far_height
height0_is = refl

pub height1_is : far_height 1 ≡ base ^ (16 * top)
unfolding far_height
height1_is = refl

pub height2_is : far_height 2 ≡ base ^ (8 * top)
unfolding far_height
height2_is = refl

-- far by itself
pub far-square : far * far ≡ base ^ (4 * top)
far-square = ap (λ k. k * k) far_is ∙ sym (pow-add base (2 * top) (2 * top)) ∙ ap (λ k. base ^ k) (omega arith)

-- a power by 2 ^ 67 times the square of far, three times: this is below a power that is greater enough
pub outweighed : (i j : ℕ) → i + 4 * top + 2 ≤ j → 3 * (base ^ i * (2 ^ 67 * (far * far))) < base ^ j
outweighed i j le =
    small (base ^ i * (2 ^ 67 * (far * far))) (base ^ (i + 4 * top)) (base ^ j)
    (ap (λ k. base ^ i * (2 ^ 67 * k)) far-square ∙ omega arith ∙ ap (λ k. 2 ^ 67 * k) (sym (pow-add base i (4 * top))))
    (outgrows (i + 4 * top) j le)
  where
    small : (x y z : ℕ) → x ≡ 2 ^ 67 * y → 2 ^ 120 * y < z → 3 * x < z
    small x y z e lt = omega (arith, e, lt)
