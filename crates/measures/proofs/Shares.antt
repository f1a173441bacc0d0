-- How large the parts of a facet are.
use Rattle.std.proofs.Common.{ℕ, ◌≤◌, arith}
use Rattle.std.specs.Prelude.{ℤ, pos, negsuc, neg_ℤ, ◌+ℤ◌, ◌*ℤ◌, ◌<ℤ◌, ◌≤ℤ◌, unsigned_abs}
use Rattle.std.proofs.lemmas.Int.{ints}
use Rattle.ground_model.specs.Rounding.{floor_div, ceil_div}
use Rattle.ground_model.proofs.Floor.{floor_div-le, floor_div-more}
use Rattle.ground_model.proofs.Ring.{mul-neg}
use Rattle.measures.proofs.Means.{mul-le, cancelled}

-- a quotient is no larger than what is divided
pub floor_size : (a b : ℤ) → unsigned_abs (floor_div a b) ≤ unsigned_abs a
floor_size (pos a) b = omega (arith, ints)
floor_size (negsuc a) b = omega (arith, ints)

-- a part of a size, by a height of a whole one, is no larger than the size
between : (m : ℕ) (s h w f : ℤ) → unsigned_abs s ≤ m → pos 0 <ℤ h → h ≤ℤ w → (w *ℤ f) ≤ℤ neg_ℤ (s *ℤ h) → neg_ℤ (s *ℤ h) <ℤ (w *ℤ f +ℤ w) → unsigned_abs (neg_ℤ f) ≤ m
between m s h w f size some part le more =
    let top = mul-le s (pos m) h (omega (arith, ints, size)) (omega (arith, ints, some)) in
    let bottom = mul-le (neg_ℤ (pos m)) s h (omega (arith, ints, size)) (omega (arith, ints, some)) in
    let wide = mul-le h w (pos m) part (omega (arith, ints)) in
    let high : neg_ℤ f ≤ℤ pos m = cancelled (neg_ℤ f) (pos m) w (omega (arith, ints, some, part)) (omega (arith, ints, top, wide, more, mul-neg w f)) in
    let low : f ≤ℤ pos m = cancelled f (pos m) w (omega (arith, ints, some, part)) (omega (arith, ints, bottom, wide, le, some, part, mul-neg h (pos m))) in
    omega (arith, ints, high, low)

pub share_size : (m : ℕ) (s h w : ℤ) → unsigned_abs s ≤ m → pos 0 <ℤ h → h ≤ℤ w → unsigned_abs (ceil_div (s *ℤ h) w) ≤ m
share_size m s h w size some part =
    let whole : pos 0 <ℤ w = omega (arith, ints, some, part) in
    between m s h w (floor_div (neg_ℤ (s *ℤ h)) w) size some part (floor_div-le (neg_ℤ (s *ℤ h)) w whole) (floor_div-more (neg_ℤ (s *ℤ h)) w whole)
