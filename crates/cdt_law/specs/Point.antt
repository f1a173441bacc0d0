-- What a point that no line has as a place does to the facets.
use Rattle.std.specs.Prelude.{ℤ, ◌≡◌, false, true, Bool, ◌&&◌, ◌||◌, IsTrue}
use Rattle.std.specs.List.{All}
use Rattle.ground_model.specs.declared.facet.Facet.{Facet}
use Rattle.ground_model.specs.declared.edit.Edit.TheVariants.{AddPoint, RemovePoint}
use Rattle.ground_model.specs.Place.{Coords, IsPlace, is_same}
use Rattle.ground_model.specs.Line.{is_point, has_place}
use Rattle.ground_model.specs.Crossings.{is_on_points}
use Rattle.ground_model.specs.Content.{Content, after, points_of, lines_of}
use Rattle.ground_model.specs.Tri.{tri}
use Rattle.ground_model.specs.Mark.{is_among}
use Rattle.ground_model.specs.Zone.{destroyed, made}

-- the points are places, and each place of a line is a point
pub record IsJoined (c : Content) : Type 0 where
  pub places : All IsPlace (points_of c)
  pub on_points : All (λ line. IsTrue (is_on_points (points_of c) line)) (lines_of c)

-- whether the place is a corner of the facet
abbrev pub is_corner_of : Coords → Facet → Bool
is_corner_of p f = is_same p f.a || is_same p f.b || is_same p f.c

-- a point that is added makes just the facets that have it as a corner, and one that no line has is removed with just those
pub record PointLaw : Type 0 where
  pub added : (c : Content) (p : Coords) (z : ℤ) → IsJoined c → IsPlace p → is_point (points_of c) p ≡ false
      → (f : Facet) → is_among (made c (AddPoint p z)) f ≡ (is_among (tri (after c (AddPoint p z))) f && is_corner_of p f)
  pub removed : (c : Content) (p : Coords) → IsJoined c → is_point (points_of c) p ≡ true → All (λ line. has_place p line ≡ false) (lines_of c)
      → (f : Facet) → is_among (destroyed c (RemovePoint p)) f ≡ (is_among (tri c) f && is_corner_of p f)
