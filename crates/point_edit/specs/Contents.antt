-- Meshes of contents.
use Rattle.std.specs.Prelude.{ℕ, ℤ, ◌≡◌, false, List}
use Rattle.std.specs.List.{All}
use Rattle.ground_model.specs.declared.edit.Edit.TheVariants.{AddPoint, RemovePoint}
use Rattle.ground_model.specs.declared.limits.Limits.{Limits}
use Rattle.ground_model.specs.declared.facet.Facet.{Facet}
use Rattle.ground_model.specs.Content.{Content, after, points_of, lines_of}
use Rattle.ground_model.specs.Line.{is_point, has_place}
use Rattle.ground_model.specs.Mark.{is_among}
use Rattle.ground_model.specs.Place.{Coords, IsPlace}
use Rattle.ground_model.specs.Planar.{IsPlanar}
use Rattle.ground_model.specs.Refusal.{IsLawful}
use Rattle.ground_model.specs.Tri.{tri}
use Rattle.predicates.specs.Net.{Net, facets_of, net_over, count_between}
use Rattle.predicates.specs.Sheet.{IsSheet, IsLocallyDelaunay}
use Rattle.cdt_law.specs.Point.{IsJoined}
use Rattle.tri_pages.specs.Slots.{State}
use Rattle.mesh.specs.Sheets.{IsSheetMesh, net_in, triangles_of}
use Rattle.locate.specs.declared.spot.Spot.{Spot}
use Rattle.locate.specs.Spots.{IsSpot}
use Rattle.point_edit.specs.Insertions.{IsPutIn}
use Rattle.point_edit.specs.Removals.{IsRemovable, IsTakenOut}

-- the net has the points of the content, and its counts
pub record IsOver (c : Content) (net : Net) : Type 0 where
  pub points : (q : Coords) → is_point net.points q ≡ is_point (points_of c) q
  pub counts : (q r : Coords) → net.count q r ≡ count_between c q r

-- the mesh is a locally Delaunay sheet over the content
pub record IsMeshOf (c : Content) (slots : List State) : Type 0 where
  pub sheet : IsSheetMesh slots
  pub delaunay : IsLocallyDelaunay (net_in slots)
  pub over : IsOver c (net_in slots)

-- the mesh's triangles are a locally Delaunay sheet of the content, and those of three places are, with their counts, its facets
pub record ShowsContent (c : Content) (slots : List State) : Type 0 where
  pub sheet : IsSheet (net_over c (triangles_of slots))
  pub delaunay : IsLocallyDelaunay (net_over c (triangles_of slots))
  pub facets : (f : Facet) → is_among (facets_of (net_over c (triangles_of slots))) f ≡ is_among (tri c) f

-- a mesh of a content shows it
abbrev pub ContentLaw : Type 0
ContentLaw = (c : Content) (slots : List State) → IsMeshOf c slots → ShowsContent c slots

-- a point put into a mesh of a content makes a mesh of the content with that point
abbrev pub AddedLaw : Type 0
AddedLaw = (c : Content) (p : Coords) (z : ℤ) (old new : List State) (spot : Spot) → IsJoined c → IsPlace p → IsSpot old p spot → IsMeshOf c old
    → IsSheetMesh new → IsLocallyDelaunay (net_in new) → IsPutIn old spot p (net_in old) (net_in new) → IsMeshOf (after c (AddPoint p z)) new

-- a point that no line has, taken out of a mesh of a content, leaves a mesh of the content without it
abbrev pub RemovedLaw : Type 0
RemovedLaw = (c : Content) (p : Coords) (old new : List State) → IsJoined c → All (λ line. has_place p line ≡ false) (lines_of c) → IsMeshOf c old
    → IsSheetMesh new → IsLocallyDelaunay (net_in new) → IsTakenOut (net_in old) (net_in new) p → IsMeshOf (after c (RemovePoint p)) new

-- a point that may be taken out of a planar content can be taken out of its mesh: of the pieces at it there are none, or two that go straight on with one count
abbrev pub RemovableLaw : Type 0
RemovableLaw = (c : Content) (entries : ℕ) (limits : Limits) (p : Coords) (slots : List State) → IsPlanar c → IsLawful c entries limits (RemovePoint p) → IsMeshOf c slots → IsRemovable (net_in slots) p
