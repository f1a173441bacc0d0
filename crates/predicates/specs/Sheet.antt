-- A sheet: a net whose triangles fill the far corners' triangle, each piece being an edge.
use Rattle.std.specs.Prelude.{◌≡◌, ◌<◌, ◌≤◌, Bool, true, false, not, ◌&&◌, ◌||◌, List, ◌++◌, nat_lt}
use Rattle.std.specs.List.{All, list_all, list_any}
use Rattle.ground_model.specs.declared.corner.Corner.{Corner}
use Rattle.ground_model.specs.declared.corner.Corner.TheVariants.{At, Far}
use Rattle.ground_model.specs.Place.{Coords, IsPlace, is_same}
use Rattle.ground_model.specs.Corner.{is_corner_inside}
use Rattle.predicates.specs.Net.{Net, Triangle, Edge, edges_in, rim, times_in, reversed, has, has_corner, is_turned, covers, count_of}

-- one of the points, or one of the three far corners
abbrev pub is_over : List Coords → Corner → Bool
is_over points (At p) = list_any (is_same p) points
is_over points (Far k) = nat_lt k 3

-- whether all three corners are
abbrev pub are_over : List Coords → Triangle → Bool
are_over points t = is_over points t.a && is_over points t.b && is_over points t.c

-- the triangle's edges with the rim: with these each edge has its reverse
abbrev pub rimmed : Net → List Edge
rimmed net = edges_in net ++ rim

-- the triangles are counterclockwise, over places and far corners, and with the rim each edge occurs as often as its reverse
pub record IsClosed (net : Net) : Type 0 where
  pub places : All IsPlace net.points
  pub over : list_all (are_over net.points) net.triangles ≡ true
  pub turned : list_all is_turned net.triangles ≡ true
  pub matched : (x : Edge) → times_in (rimmed net) x ≡ times_in (rimmed net) (reversed x)

-- the triangles are a triangulation of the far triangle, with the points as its vertices and the pieces among its edges
pub record IsSheet (net : Net) : Type 0 where
  -- the points are places
  pub places : All IsPlace net.points
  -- the triangles have points and far corners as corners, and are counterclockwise
  pub over : list_all (are_over net.points) net.triangles ≡ true
  pub turned : list_all is_turned net.triangles ≡ true
  -- each directed edge occurs once, and with it its reverse
  pub once : (x : Edge) → times_in (rimmed net) x ≤ 1
  pub matched : (x : Edge) → times_in (rimmed net) x ≡ times_in (rimmed net) (reversed x)
  -- each point is a corner, and lies in no closed triangle otherwise than as its corner
  pub reached : list_all (λ p. list_any (λ t. has_corner t (At p)) net.triangles) net.points ≡ true
  pub apart : list_all (λ t. list_all (λ p. not (covers t p) || has_corner t (At p)) net.points) net.triangles ≡ true
  -- each piece is an edge, and has one count in both directions
  pub pieces : (p q : Coords) → 0 < net.count p q → 0 < times_in (edges_in net) (At p, At q)
  pub even : (p q : Coords) → net.count p q ≡ net.count q p

-- of two triangles over an edge that is no piece, the third corner of the one is not inside the circle of the other
abbrev pub IsLocallyDelaunay : Net → Type 0
IsLocallyDelaunay net = (a b c d : Corner) → has net a b c ≡ true → has net b a d ≡ true → count_of net a b ≡ 0 → is_corner_inside a b c d ≡ false
