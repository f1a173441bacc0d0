-- The triangles of a sheet fill the far corners' triangle, and no two of them overlap.
use Rattle.std.specs.Prelude.{List, ◌∷◌, ◌≡◌, ℕ, ◌<◌, true, false, pos, ◌<ℤ◌, ◌≤ℤ◌, Some, slice_get}
use Rattle.std.specs.List.{All, list_all, list_any}
use Rattle.ground_model.specs.declared.corner.Corner.{Corner}
use Rattle.ground_model.specs.declared.corner.Corner.TheVariants.{At, Far}
use Rattle.ground_model.specs.Place.{Coords, IsPlace}
use Rattle.ground_model.specs.Side.{crosses}
use Rattle.ground_model.specs.Corner.{corner_at}
use Rattle.predicates.specs.Net.{Net, Triangle, edges_in, times_in, has, has_corner}
use Rattle.predicates.specs.Sheet.{IsSheet, IsClosed}
use Rattle.predicates.specs.Weighted.{Weighted, weighted_side, gathered}

-- the point lies strictly inside the triangle
pub record IsInside (t : Triangle) (x : Weighted) : Type 0 where
  pub ab : pos 0 <ℤ weighted_side (corner_at t.a) (corner_at t.b) x
  pub bc : pos 0 <ℤ weighted_side (corner_at t.b) (corner_at t.c) x
  pub ca : pos 0 <ℤ weighted_side (corner_at t.c) (corner_at t.a) x

-- the point lies in the closed triangle
pub record IsWithin (t : Triangle) (x : Weighted) : Type 0 where
  pub ab : pos 0 ≤ℤ weighted_side (corner_at t.a) (corner_at t.b) x
  pub bc : pos 0 ≤ℤ weighted_side (corner_at t.b) (corner_at t.c) x
  pub ca : pos 0 ≤ℤ weighted_side (corner_at t.c) (corner_at t.a) x

-- the triangle of the far corners
abbrev pub far_triangle : Triangle
far_triangle = record { a = Far 0; b = Far 1; c = Far 2 }

-- the triangle at this index of the net has the point
pub record HasWithin (net : Net) (x : Weighted) : Type 0 where
  pub index : ℕ
  pub triangle : Triangle
  pub at : slice_get net.triangles index ≡ Some triangle
  pub within : IsWithin triangle x

-- each sum of places lies in a closed triangle of the sheet
abbrev pub Covers : Type 0
Covers = (net : Net) → IsSheet net → (p : Coords) (ps : List Coords) → All IsPlace (p ∷ ps) → HasWithin net (gathered p ps)

-- no point lies strictly inside two triangles
abbrev pub Packs : Type 0
Packs = (net : Net) → IsSheet net → (x : Weighted) → pos 0 <ℤ x.weight
    → (j k : ℕ) (t u : Triangle) → slice_get net.triangles j ≡ Some t → slice_get net.triangles k ≡ Some u → IsInside t x → IsInside u x → j ≡ k

-- no two edges cross
abbrev pub NeverCross : Type 0
NeverCross = (net : Net) → IsSheet net → (a b u v : Corner) → 0 < times_in (edges_in net) (a, b) → 0 < times_in (edges_in net) (u, v)
    → crosses (corner_at a) (corner_at b) (corner_at u) (corner_at v) ≡ false

-- an edge has one triangle on its left
abbrev pub OneOnEdge : Type 0
OneOnEdge = (net : Net) → IsSheet net → (a b c d : Corner) → has net a b c ≡ true → has net a b d ≡ true → c ≡ d

-- each point is a corner, each piece an edge, and has one count in both directions
pub record IsSpanned (net : Net) : Type 0 where
  pub reached : list_all (λ p. list_any (λ t. has_corner t (At p)) net.triangles) net.points ≡ true
  pub pieces : (p q : Coords) → 0 < net.count p q → 0 < times_in (edges_in net) (At p, At q)
  pub even : (p q : Coords) → net.count p q ≡ net.count q p

-- a closed net that is spanned is a sheet: no edge occurs twice, and no triangle has a point but its corners
abbrev pub ClosedLaw : Type 0
ClosedLaw = (net : Net) → IsClosed net → IsSpanned net → IsSheet net
