-- The height of a far corner outweighs those of all lower corners.
use Rattle.std.proofs.Common.{◌≡◌, ℕ, ◌*◌, ◌^◌, ◌≤◌, ◌<◌, refl, arith}
use Rattle.std.specs.Prelude.{pos, unsigned_abs}
use Rattle.ground_model.specs.declared.corner.Corner.{Corner}
use Rattle.ground_model.specs.Height.{base, top}
use Rattle.ground_model.specs.Corner.{far_height}
use Rattle.ground_model.proofs.Lifted.{top_is}
use Rattle.predicates.specs.Far.{rank}
use Rattle.predicates.proofs.Valid.{IsValid, Place, Far0, Far1, Far2}
use Rattle.predicates.proofs.Heights.{corner_height}
use Rattle.predicates.proofs.FarNumbers.{outgrows, outweighed, height0_is, height1_is, height2_is}
use Rattle.predicates.proofs.NoFourInPlane.{most, at-most, place-height, place-below}

pub record Highest (f : Corner) : Type 0 where
  pub big : ℕ
  pub rest : ℕ
  pub high : corner_height f ≡ pos big
  pub outweighs : 3 * (rest * most) < big
  pub lower : (z : Corner) → IsValid z → rank f < rank z → unsigned_abs (corner_height z) ≤ rest

lower0 : (z : Corner) → IsValid z → 0 < rank z → unsigned_abs (corner_height z) ≤ base ^ (16 * top)
lower0 z (Place p h) lt = place-below p (16 * top) h (omega (arith, top_is))
lower0 z Far0 lt = absurd (omega (arith, lt))
lower0 z Far1 lt = omega (arith, height1_is)
lower0 z Far2 lt = at-most (far_height 2) (base ^ (8 * top)) (base ^ (16 * top)) height2_is (outgrows (8 * top) (16 * top) (omega (arith, top_is)))

lower1 : (z : Corner) → IsValid z → 1 < rank z → unsigned_abs (corner_height z) ≤ base ^ (8 * top)
lower1 z (Place p h) lt = place-below p (8 * top) h (omega (arith, top_is))
lower1 z Far0 lt = absurd (omega (arith, lt))
lower1 z Far1 lt = absurd (omega (arith, lt))
lower1 z Far2 lt = omega (arith, height2_is)

lower2 : (z : Corner) → IsValid z → 2 < rank z → unsigned_abs (corner_height z) ≤ base ^ (2 * top)
lower2 z (Place p h) lt = place-height p h
lower2 z Far0 lt = absurd (omega (arith, lt))
lower2 z Far1 lt = absurd (omega (arith, lt))
lower2 z Far2 lt = absurd (omega (arith, lt))

above-rest : (x y z : ℕ) → z ≡ y → x < y → x < z
above-rest x y z e h = omega (arith, e, h)

pub highest : (f : Corner) → IsValid f → rank f < 3 → Highest f
highest f (Place p h) lt = absurd (omega (arith, lt))
highest f Far0 lt = record {
  big = far_height 0;
  rest = base ^ (16 * top);
  high = refl;
  outweighs = above-rest (3 * (base ^ (16 * top) * most)) (base ^ (24 * top)) (far_height 0) height0_is (outweighed (16 * top) (24 * top) (omega (arith, top_is)));
  lower = lower0;
}
highest f Far1 lt = record {
  big = far_height 1;
  rest = base ^ (8 * top);
  high = refl;
  outweighs = above-rest (3 * (base ^ (8 * top) * most)) (base ^ (16 * top)) (far_height 1) height1_is (outweighed (8 * top) (16 * top) (omega (arith, top_is)));
  lower = lower1;
}
highest f Far2 lt = record {
  big = far_height 2;
  rest = base ^ (2 * top);
  high = refl;
  outweighs = above-rest (3 * (base ^ (2 * top) * most)) (base ^ (8 * top)) (far_height 2) height2_is (outweighed (2 * top) (8 * top) (omega (arith, top_is)));
  lower = lower2;
}
