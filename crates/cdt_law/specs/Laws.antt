-- The laws of constrained Delaunay triangulations.
use Rattle.std.specs.Prelude.{◌≡◌, ◌<◌, ◌≤◌, true, Bool, ◌&&◌, List, [], ◌∷◌, count_by}
use Rattle.std.specs.List.{All, list_any}
use Rattle.ground_model.specs.declared.corner.Corner.{Corner}
use Rattle.ground_model.specs.declared.corner.Corner.TheVariants.{At}
use Rattle.ground_model.specs.declared.facet.Facet.{Facet}
use Rattle.ground_model.specs.Place.{Coords, IsPlace, is_same}
use Rattle.ground_model.specs.Line.{is_point}
use Rattle.ground_model.specs.Wall.{is_walled}
use Rattle.ground_model.specs.Corner.{corner_at, is_corner_inside}
use Rattle.ground_model.specs.Content.{Content, points_of}
use Rattle.ground_model.specs.Tri.{tri}
use Rattle.ground_model.specs.Mark.{is_among, is_same_facet, edges}
use Rattle.predicates.specs.Net.{Net, Triangle, has, is_beyond, facets_of, tri_of, net_over}
use Rattle.predicates.specs.Sheet.{IsSheet, IsLocallyDelaunay}
use Rattle.predicates.specs.Tiling.{far_triangle}

-- the net of no point, whose one triangle is that of the far corners
abbrev pub first_net : Net
first_net = record { points = []; count = λ p q. 0; triangles = far_triangle ∷ [] }

-- it is a locally Delaunay sheet
abbrev pub FirstLaw : Type 0
FirstLaw = IsSheet first_net × IsLocallyDelaunay first_net

-- a piece of the net walls p from the edge ab
pub record HasWall (net : Net) (a b : Corner) (p : Coords) : Type 0 where
  pub u : Coords
  pub v : Coords
  pub piece : 0 < net.count u v
  pub walls : is_walled (corner_at a) (corner_at b) p u v ≡ true

-- in a locally Delaunay sheet each point inside the circle of a triangle, and beyond its edge ab, is walled from that edge
abbrev pub LocalLaw : Type 0
LocalLaw = (net : Net) → IsSheet net → IsLocallyDelaunay net → (a b c : Corner) (p : Coords) → has net a b c ≡ true → is_point net.points p ≡ true
    → is_corner_inside a b c (At p) ≡ true → is_beyond a b p ≡ true → HasWall net a b p

-- the triangles of three places of a locally Delaunay sheet of a content are, with their counts, the facets of the content
abbrev pub FacetLaw : Type 0
FacetLaw = (c : Content) (triangles : List Triangle) → IsSheet (net_over c triangles) → IsLocallyDelaunay (net_over c triangles)
    → (f : Facet) → is_among (facets_of (net_over c triangles)) f ≡ is_among (tri c) f

-- two nets have the same points and the same pieces
pub record AreOverOne (net other : Net) : Type 0 where
  pub points : net.points ≡ other.points
  pub count : (p q : Coords) → net.count p q ≡ other.count p q

-- two locally Delaunay sheets over the same points and pieces have the same facets
abbrev pub UniqueLaw : Type 0
UniqueLaw = (net other : Net) → IsSheet net → IsLocallyDelaunay net → IsSheet other → IsLocallyDelaunay other → AreOverOne net other
    → (f : Facet) → is_among (facets_of net) f ≡ is_among (facets_of other) f

-- whether the facet has the directed edge from p to q
abbrev pub has_edge : Facet → Coords → Coords → Bool
has_edge f p q = list_any (λ e. is_same e.0 p && is_same e.1 q) (edges f)

-- two facets of a content with a directed edge in common are one
abbrev pub EdgeLaw : Type 0
EdgeLaw = (c : Content) → All IsPlace (points_of c) → (f g : Facet) → is_among (tri c) f ≡ true → is_among (tri c) g ≡ true
    → (p q : Coords) → has_edge f p q ≡ true → has_edge g p q ≡ true → f ≡ g

-- a sheet has no facet twice
abbrev pub OnceLaw : Type 0
OnceLaw = (net : Net) → IsSheet net → (f : Facet) → count_by (is_same_facet f) (facets_of net) ≤ 1

-- the triangles of three places of a locally Delaunay sheet are, with their counts, the facets of its points and pieces
abbrev pub NetLaw : Type 0
NetLaw = (net : Net) → IsSheet net → IsLocallyDelaunay net → (f : Facet) → is_among (facets_of net) f ≡ is_among (tri_of net) f
