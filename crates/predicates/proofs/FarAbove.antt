-- The far corners lie above every plane of three places.
use Rattle.std.proofs.Common.{◌≡◌, ℕ, ◌*◌, ◌^◌, ◌≤◌, ◌<◌, refl, arith}
use Rattle.std.specs.Prelude.{ℤ, pos, ◌+ℤ◌, ◌-ℤ◌, ◌*ℤ◌, ◌<ℤ◌, ◌≤ℤ◌, unsigned_abs}
use Rattle.std.proofs.lemmas.Int.{ints}
use Rattle.ground_model.specs.declared.corner.Corner.{Corner}
use Rattle.ground_model.specs.declared.corner.Corner.TheVariants.{At, Far}
use Rattle.ground_model.specs.Place.{Coords, IsPlace}
use Rattle.ground_model.specs.Side.{side}
use Rattle.ground_model.specs.Height.{base, top, height}
use Rattle.ground_model.specs.Corner.{corner_side, far_height}
use Rattle.ground_model.proofs.ZOrder.{size-mul}
use Rattle.ground_model.proofs.Lifted.{top_is}
use Rattle.predicates.specs.Depth.{depth}
use Rattle.predicates.proofs.Signs.{mul-at-least}
use Rattle.predicates.proofs.FarNumbers.{outgrows, outweighed, height0_is, height1_is, height2_is}
use Rattle.predicates.proofs.Valid.{IsValid, Place, Far0, Far1, Far2}
use Rattle.predicates.proofs.Heights.{corner_height, deep}
use Rattle.predicates.proofs.NoFourInPlane.{most, side-size, place-height}

-- ---- a far corner lies above the plane of three places
far-above : (a b c : Coords) (f : Corner) (big : ℕ) → IsPlace a → IsPlace b → IsPlace c → IsValid f → pos 0 <ℤ side a b c → corner_height f ≡ pos big → base ^ (8 * top) ≤ big
    → deep (At a) (At b) (At c) f <ℤ pos 0
unfolding depth
far-above a b c f big ha hb hc vf turned high le =
    sum (height a *ℤ corner_side (At b) (At c) f) (height b *ℤ corner_side (At c) (At a) f) (height c *ℤ corner_side (At a) (At b) f) (corner_height f *ℤ side a b c) big (base ^ (2 * top) * most) (base ^ (8 * top))
    (size-mul (height a) (corner_side (At b) (At c) f) (base ^ (2 * top)) most (place-height a ha) (side-size (At b) (At c) f (Place b hb) (Place c hc) vf))
    (size-mul (height b) (corner_side (At c) (At a) f) (base ^ (2 * top)) most (place-height b hb) (side-size (At c) (At a) f (Place c hc) (Place a ha) vf))
    (size-mul (height c) (corner_side (At a) (At b) f) (base ^ (2 * top)) most (place-height c hc) (side-size (At a) (At b) f (Place a ha) (Place b hb) vf))
    (mul-at-least (corner_height f) (side a b c) big high turned) (outweighed (2 * top) (8 * top) (omega (arith, top_is))) le
  where
    sum : (p q s t : ℤ) (big n w : ℕ) → unsigned_abs p ≤ n → unsigned_abs q ≤ n → unsigned_abs s ≤ n → pos big ≤ℤ t → 3 * n < w → w ≤ big → (p +ℤ q +ℤ s -ℤ t) <ℤ pos 0
    sum p q s t big n w h i j k lt le = omega (arith, ints, h, i, j, k, lt, le)

pub data IsFar : Corner → Type 0 where
  IsFar0 : IsFar (Far 0)
  IsFar1 : IsFar (Far 1)
  IsFar2 : IsFar (Far 2)

above-highest : (h m n : ℕ) → h ≡ m → 2 ^ 120 * n < m → n ≤ h
above-highest h m n e lt = omega (arith, e, lt)

pub far_above : (a b c : Coords) (f : Corner) → IsPlace a → IsPlace b → IsPlace c → IsFar f → pos 0 <ℤ side a b c → deep (At a) (At b) (At c) f <ℤ pos 0
far_above a b c f ha hb hc IsFar0 turned = far-above a b c (Far 0) (far_height 0) ha hb hc Far0 turned refl (above-highest (far_height 0) (base ^ (24 * top)) (base ^ (8 * top)) height0_is (outgrows (8 * top) (24 * top) (omega (arith, top_is))))
far_above a b c f ha hb hc IsFar1 turned = far-above a b c (Far 1) (far_height 1) ha hb hc Far1 turned refl (above-highest (far_height 1) (base ^ (16 * top)) (base ^ (8 * top)) height1_is (outgrows (8 * top) (16 * top) (omega (arith, top_is))))
far_above a b c f ha hb hc IsFar2 turned = far-above a b c (Far 2) (far_height 2) ha hb hc Far2 turned refl (omega (arith, height2_is))
