-- What a surface shows to be written.
use Rattle.std.specs.Prelude.{◌≡◌, ℕ, ◌<◌, ℤ, Bool, true, List, Option, None, Some, slice_get}
use Rattle.std.specs.List.{list_any, list_all, find}
use Rattle.std.specs.declared.cmp.Ordering.{Ordering}
use Rattle.std.specs.Ordering.{is_lt, on, then_cmp}
use Rattle.ground_num.specs.declared.head.Head.{Head}
use Rattle.ground_num.specs.Head.{IsOrigin}
use Rattle.ground_model.specs.declared.facet.Facet.{Facet}
use Rattle.ground_model.specs.Place.{Coords, place_cmp, is_before, is_same}
use Rattle.ground_model.specs.Line.{Line}

-- a place and its level
abbrev pub Vertex : Type 0
Vertex = Coords × ℤ

-- a facet, and whether it is kept
abbrev pub Face : Type 0
Face = Facet × Bool

-- the head, the points, the lines and the facets
pub record Exported : Type 0 where
  pub head : Head
  pub points : List Vertex
  pub lines : List Line
  pub faces : List Face

-- facets by their corners
abbrev pub corners_cmp : Facet → Facet → Ordering
corners_cmp = then_cmp (on (λ f. f.a) place_cmp) (then_cmp (on (λ f. f.b) place_cmp) (on (λ f. f.c) place_cmp))

-- whether the facet's corners come after those of the given one, where one is given
abbrev pub comes_after : Option Facet → Facet → Bool
comes_after None f = true
comes_after (Some g) f = is_lt (corners_cmp g f)

-- the first face after the given facet, where one is given, and else the first of all
abbrev pub first_after : Option Facet → List Face → Option Face
first_after after faces = find (λ f. comes_after after f.0) faces

-- whether the place is one of the points
abbrev pub is_vertex : List Vertex → Coords → Bool
is_vertex points p = list_any (λ v. is_same p v.0) points

-- every element comes before each later one
abbrev pub Ascend : {X : Type 0} → (X → X → Bool) → List X → Type 0
Ascend {X} before xs = (i j : ℕ) (x y : X) → i < j → slice_get xs i ≡ Some x → slice_get xs j ≡ Some y → before x y ≡ true

-- the origin is within its limit, points and faces stand in their orders, and what lines and faces name are points
pub record IsExport (e : Exported) : Type 0 where
  pub origin : IsOrigin e.head.origin
  pub points : Ascend (λ v w. is_before v.0 w.0) e.points
  pub faces : Ascend (λ f g. is_lt (corners_cmp f.0 g.0)) e.faces
  pub places : (k : ℕ) (line : Line) → slice_get e.lines k ≡ Some line → list_all (is_vertex e.points) line.places ≡ true
  pub a : (k : ℕ) (f : Face) → slice_get e.faces k ≡ Some f → is_vertex e.points f.0.a ≡ true
  pub b : (k : ℕ) (f : Face) → slice_get e.faces k ≡ Some f → is_vertex e.points f.0.b ≡ true
  pub c : (k : ℕ) (f : Face) → slice_get e.faces k ≡ Some f → is_vertex e.points f.0.c ≡ true
