-- Sums of places lie strictly inside the far triangle, so the sheet covers them.
use Rattle.std.proofs.Common.{◌≡◌, arith, List, [], ◌∷◌}
use Rattle.std.specs.Prelude.{ℤ, pos, ◌+ℤ◌, ◌<ℤ◌}
use Rattle.std.specs.List.{All}
use Rattle.std.proofs.lemmas.Int.{ints}
use Rattle.std.proofs.lemmas.List.Elements.{All-head, All-tail}
use Rattle.ground_model.specs.Place.{Coords, IsPlace}
use Rattle.ground_model.specs.Side.{side}
use Rattle.predicates.specs.Weighted.{Weighted, weighted_side, once, joined, gathered}
use Rattle.predicates.specs.Tiling.{IsInside, far_triangle, Covers}
use Rattle.predicates.proofs.WeightedSides.{weighted_side-once, weighted_side-joined}
use Rattle.predicates.proofs.FarSides.{f0, f1, f2, far-side01, far-side12, far-side20}
use Rattle.predicates.proofs.Tiling.{covered_inside}
use Rattle.predicates.proofs.Signs.{positive-along}

pub once-far : (p : Coords) → IsPlace p → IsInside far_triangle (once p)
once-far p h = record {
  ab = positive-along (weighted_side f0 f1 (once p)) (side f0 f1 p) (weighted_side-once f0 f1 p) (far-side01 p h);
  bc = positive-along (weighted_side f1 f2 (once p)) (side f1 f2 p) (weighted_side-once f1 f2 p) (far-side12 p h);
  ca = positive-along (weighted_side f2 f0 (once p)) (side f2 f0 p) (weighted_side-once f2 f0 p) (far-side20 p h);
}

pub joined-far : (x y : Weighted) → IsInside far_triangle x → IsInside far_triangle y → IsInside far_triangle (joined x y)
joined-far x y h k = record { ab = by f0 f1 h.ab k.ab; bc = by f1 f2 h.bc k.bc; ca = by f2 f0 h.ca k.ca }
  where
    sum : (s t u : ℤ) → s ≡ t +ℤ u → pos 0 <ℤ t → pos 0 <ℤ u → pos 0 <ℤ s
    sum s t u e h k = omega (arith, ints, e, h, k)

    by : (a b : Coords) → pos 0 <ℤ weighted_side a b x → pos 0 <ℤ weighted_side a b y → pos 0 <ℤ weighted_side a b (joined x y)
    by a b h k = sum (weighted_side a b (joined x y)) (weighted_side a b x) (weighted_side a b y) (weighted_side-joined a b x y) h k

pub gathered-far : (p : Coords) (ps : List Coords) → All IsPlace (p ∷ ps) → IsInside far_triangle (gathered p ps)
gathered-far p [] h = once-far p (All-head IsPlace p [] h)
gathered-far p (q ∷ ps) h = joined-far (once p) (gathered q ps) (once-far p (All-head IsPlace p (q ∷ ps) h)) (gathered-far q ps (All-tail IsPlace p (q ∷ ps) h))

pub gathered-some : (p : Coords) (ps : List Coords) → pos 0 <ℤ (gathered p ps).weight
gathered-some p [] = omega (arith, ints)
gathered-some p (q ∷ ps) = more (gathered q ps).weight (gathered-some q ps)
  where
    more : (w : ℤ) → pos 0 <ℤ w → pos 0 <ℤ (pos 1 +ℤ w)
    more w h = omega (arith, ints, h)

pub covered : Covers
covered net sheet p ps h = covered_inside net sheet (gathered p ps) (gathered-some p ps) (gathered-far p ps h)
