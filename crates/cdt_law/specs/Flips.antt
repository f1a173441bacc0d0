-- Flips of edges, and which facets they destroy.
use Rattle.std.specs.Prelude.{ℕ, ◌≡◌, ◌⊎◌, ◌<◌, ◌^◌, List, true, false, Bool, ℤ, pos, ◌+ℤ◌, ◌*ℤ◌, unsigned_abs, Some, slice_get, slice_set}
use Rattle.std.specs.List.{All}
use Rattle.ground_model.specs.declared.corner.Corner.{Corner}
use Rattle.ground_model.specs.declared.corner.Corner.TheVariants.{At, Far}
use Rattle.ground_model.specs.declared.facet.Facet.{Facet}
use Rattle.ground_model.specs.Place.{Coords, IsPlace}
use Rattle.ground_model.specs.Line.{is_point}
use Rattle.ground_model.specs.Height.{base, top, height}
use Rattle.ground_model.specs.Side.{crosses}
use Rattle.ground_model.specs.Corner.{corner_at, corner_side, far_height, is_corner_inside}
use Rattle.ground_model.specs.Mark.{is_among}
use Rattle.predicates.specs.Sums.{total}
use Rattle.predicates.specs.Net.{Net, Triangle, has, is_triangle, is_turned, count_of, covers, has_corner, tri_of}
use Rattle.predicates.specs.Sheet.{IsSheet, is_over}
use Rattle.cdt_law.specs.Laws.{AreOverOne}

-- the points are places, and pieces join points, with one count in both directions
pub record IsSound (net : Net) : Type 0 where
  pub places : All IsPlace net.points
  pub joined : (p q : Coords) → 0 < net.count p q → is_point net.points p ≡ true
  pub even : (p q : Coords) → net.count p q ≡ net.count q p

-- abc and bad are triangles over an edge that is no piece and is not locally Delaunay
pub record IsIllegal (net : Net) (a b c d : Corner) : Type 0 where
  pub left : has net a b c ≡ true
  pub right : has net b a d ≡ true
  pub free : count_of net a b ≡ 0
  pub inside : is_corner_inside a b c d ≡ true

-- the other net has all points of the net, and no piece that the net has not
pub record HasFewerPieces (other net : Net) : Type 0 where
  pub points : (p : Coords) → is_point net.points p ≡ true → is_point other.points p ≡ true
  pub pieces : (p q : Coords) → 0 < other.count p q → 0 < net.count p q

-- whether a, b, c are the facet's corners, in this turn
abbrev pub is_on : Facet → Corner → Corner → Corner → Bool
is_on f a b c = is_triangle a b c (record { a = At f.a; b = At f.b; c = At f.c })

-- why the triangle a, b, c, taken out of a sheet, is no facet of the other net
pub data IsGone (net other : Net) (a b c : Corner) : Type 0 where
  -- it was flipped over its edge ab, which is illegal, and the other net has no pieces but the sheet's
  Flipped : (d : Corner) → IsIllegal net a b c d → HasFewerPieces other net → IsGone net other a b c
  -- the same, seen from the triangle on the other side of the edge
  FlippedBehind : (d : Corner) → IsIllegal net b a d c → HasFewerPieces other net → IsGone net other a b c
  -- a piece of the other net crosses its edge ab
  Crossed : (p q : Coords) → 0 < other.count p q → crosses (corner_at a) (corner_at b) p q ≡ true → IsGone net other a b c
  -- its corner a is no point of the other net
  Without : is_over other.points a ≡ false → IsGone net other a b c
  -- it has a point of the other net that is none of its corners
  Covering : (p : Coords) → is_point other.points p ≡ true → covers (record { a = a; b = b; c = c }) p ≡ true → has_corner (record { a = a; b = b; c = c }) (At p) ≡ false → IsGone net other a b c

-- a triangle that is gone is no facet of the other net
abbrev pub DestroyedLaw : Type 0
DestroyedLaw = (net other : Net) → IsSheet net → IsSound other → (a b c : Corner) → IsGone net other a b c
    → (f : Facet) → is_among (tri_of other) f ≡ true → is_on f a b c ≡ false

-- a triangle that an edit takes out of one of its sheets
pub record Step : Type 0 where
  pub net : Net
  pub a : Corner
  pub b : Corner
  pub c : Corner

-- it is no facet of the net before the edit, or none of the net after it
pub record IsStep (before after : Net) (s : Step) : Type 0 where
  pub sheet : IsSheet s.net
  pub gone : IsGone s.net before s.a s.b s.c ⊎ IsGone s.net after s.a s.b s.c

-- a facet of before that an edit takes out is no facet of after
abbrev pub EditLaw : Type 0
EditLaw = (before after : Net) → IsSound before → IsSound after → (steps : List Step) → All (IsStep before after) steps
    → (f : Facet) → is_among (tri_of before) f ≡ true → is_among (tri_of after) f ≡ true → All (λ s. is_on f s.a s.b s.c ≡ false) steps

-- the flip of an illegal edge destroys no facet of the sheet's own points and pieces
abbrev pub FlipLaw : Type 0
FlipLaw = (net : Net) → IsSheet net → (a b c d : Corner) → IsIllegal net a b c d
    → (f : Facet) → is_among (tri_of net) f ≡ true → (is_on f a b c ≡ false) × (is_on f b a d ≡ false)

-- the net's triangle a, b, c, at its index
pub record HasAt (net : Net) (a b c : Corner) : Type 0 where
  pub index : ℕ
  pub triangle : Triangle
  pub at : slice_get net.triangles index ≡ Some triangle
  pub is : is_triangle a b c triangle ≡ true

-- the net after a flip of ab to cd: abc and bad are exchanged for adc and dbc
pub record IsFlip (net after : Net) (a b c d : Corner) : Type 0 where
  pub over : AreOverOne net after
  pub left : HasAt net a b c
  pub right : HasAt net b a d
  pub apart : left.index ≡ right.index → ⊥
  pub first : Triangle
  pub second : Triangle
  pub first_is : is_triangle a d c first ≡ true
  pub second_is : is_triangle d b c second ≡ true
  pub triangles : after.triangles ≡ slice_set (slice_set net.triangles left.index first) right.index second

-- a flip of an edge that is no piece, within a strictly convex quadrilateral, keeps a sheet
abbrev pub KeptLaw : Type 0
KeptLaw = (net after : Net) → IsSheet net → (a b c d : Corner) → IsFlip net after a b c d → count_of net a b ≡ 0
    → is_turned (record { a = a; b = d; c = c }) ≡ true → is_turned (record { a = d; b = b; c = c }) ≡ true → IsSheet after

-- the height of a corner over the lowest that there is
abbrev pub height_over : Corner → ℤ
height_over (At p) = height p +ℤ pos (base ^ top)
height_over (Far k) = pos (far_height k) +ℤ pos (base ^ top)

-- six times the volume below a lifted triangle
abbrev pub volume_below : Triangle → ℤ
volume_below t = corner_side t.a t.b t.c *ℤ (height_over t.a +ℤ height_over t.b +ℤ height_over t.c)

-- the volume below all lifted triangles, as a number to count down
abbrev pub lifted_sum : Net → ℕ
lifted_sum net = unsigned_abs (total volume_below net.triangles)

-- the flip of an illegal edge keeps a sheet, and lowers the sum
abbrev pub FallLaw : Type 0
FallLaw = (net after : Net) → IsSheet net → (a b c d : Corner) → IsIllegal net a b c d → IsFlip net after a b c d → IsSheet after × (lifted_sum after < lifted_sum net)
