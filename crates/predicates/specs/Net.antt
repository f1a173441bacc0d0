-- A net: points, the count of each pair of them, and triangles of corners.
use Rattle.std.specs.Prelude.{ℕ, pos, int_lt, Bool, not, ◌&&◌, ◌||◌, List, [], ◌∷◌, count_by, Option, Some, None, if◌then◌else◌}
use Rattle.std.specs.List.{list_any, filter_map, flat_map}
use Rattle.ground_model.specs.declared.corner.Corner.{Corner}
use Rattle.ground_model.specs.declared.corner.Corner.TheVariants.{At, Far}
use Rattle.ground_model.specs.declared.facet.Facet.{Facet}
use Rattle.ground_model.specs.Place.{Coords, is_before}
use Rattle.ground_model.specs.Content.{Content, points_of, count}
use Rattle.ground_model.specs.Table.{pieces_by}
use Rattle.ground_model.specs.Tri.{facets}
use Rattle.ground_model.specs.Corner.{corner_side, is_same_corner}

-- three corners, counterclockwise
pub record Triangle : Type 0 where
  pub a : Corner
  pub b : Corner
  pub c : Corner

-- from one corner to another
abbrev pub Edge : Type 0
Edge = Corner × Corner

-- its three directed edges
abbrev pub edges_of : Triangle → List Edge
edges_of t = (t.a, t.b) ∷ (t.b, t.c) ∷ (t.c, t.a) ∷ []

-- whether two directed edges are one
abbrev pub is_same_edge : Edge → Edge → Bool
is_same_edge x y = is_same_corner x.0 y.0 && is_same_corner x.1 y.1

-- the edge the other way
abbrev pub reversed : Edge → Edge
reversed x = (x.1, x.0)

-- how often the edge occurs
abbrev pub times_in : List Edge → Edge → ℕ
times_in es x = count_by (is_same_edge x) es

-- whether a, b, c are the triangle's corners, in this turn
abbrev pub is_triangle : Corner → Corner → Corner → Triangle → Bool
is_triangle a b c t =
    is_same_corner t.a a && is_same_corner t.b b && is_same_corner t.c c
    || is_same_corner t.a b && is_same_corner t.b c && is_same_corner t.c a
    || is_same_corner t.a c && is_same_corner t.b a && is_same_corner t.c b

-- whether the triangle is counterclockwise
abbrev pub is_turned : Triangle → Bool
is_turned t = int_lt (pos 0) (corner_side t.a t.b t.c)

-- whether the place lies strictly to the right of the edge
abbrev pub is_beyond : Corner → Corner → Coords → Bool
is_beyond a b p = int_lt (corner_side a b (At p)) (pos 0)

-- whether the closed triangle has the place
abbrev pub covers : Triangle → Coords → Bool
covers t p = not (is_beyond t.a t.b p) && not (is_beyond t.b t.c p) && not (is_beyond t.c t.a p)

-- whether the corner is one of the triangle's
abbrev pub has_corner : Triangle → Corner → Bool
has_corner t x = is_same_corner t.a x || is_same_corner t.b x || is_same_corner t.c x

-- points, how many lines run over each two of them, and triangles of points and far corners; a piece is two points with a count
pub record Net : Type 0 where
  pub points : List Coords
  pub count : Coords → Coords → ℕ
  pub triangles : List Triangle

-- the count of an edge, which is 0 where a corner is far
abbrev pub count_of : Net → Corner → Corner → ℕ
count_of net (At p) (At q) = net.count p q
count_of net (At p) (Far k) = 0
count_of net (Far j) x = 0

-- whether a, b, c are the corners of a triangle of the net, in this turn
abbrev pub has : Net → Corner → Corner → Corner → Bool
has net a b c = list_any (is_triangle a b c) net.triangles

-- the directed edges of all triangles
abbrev pub edges_in : Net → List Edge
edges_in net = flat_map edges_of net.triangles

-- the edges between the far corners, as seen from outside
abbrev pub rim : List Edge
rim = (Far 1, Far 0) ∷ (Far 2, Far 1) ∷ (Far 0, Far 2) ∷ []

-- the facet of three places, with its counts
abbrev pub facet_on : Net → Coords → Coords → Coords → Facet
facet_on net p q r = record { a = p; b = q; c = r; ab = net.count p q; bc = net.count q r; ca = net.count r p }

-- the facet with its least corner first
abbrev pub facet_turned : Net → Coords → Coords → Coords → Facet
facet_turned net p q r =
    if is_before p q && is_before p r then facet_on net p q r
    else if is_before q p && is_before q r then facet_on net q r p
    else facet_on net r p q

-- the facet of a triangle, which only one of three places has
abbrev pub facet_by : Net → Corner → Corner → Corner → Option Facet
facet_by net (At p) (At q) (At r) = Some (facet_turned net p q r)
facet_by net (At p) (At q) (Far k) = None
facet_by net (At p) (Far j) x = None
facet_by net (Far i) x y = None

-- the facets of the net's triangles
abbrev pub facets_of : Net → List Facet
facets_of net = filter_map (λ t. facet_by net t.a t.b t.c) net.triangles

-- the facets by their definition, from the points and counts alone
abbrev pub tri_of : Net → List Facet
tri_of net = facets net.points (pieces_by (λ p q. if is_before p q then net.count p q else 0) net.points)

-- how many lines of the content have the piece between two places, in either direction
abbrev pub count_between : Content → Coords → Coords → ℕ
count_between c p q = if is_before p q then count c p q else count c q p

-- the net of a content, with these triangles
abbrev pub net_over : Content → List Triangle → Net
net_over c triangles = record { points = points_of c; count = count_between c; triangles = triangles }
