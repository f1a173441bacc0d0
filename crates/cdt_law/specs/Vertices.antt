-- The points that an edit of a base makes of a newer net's are the corners of the triangles that it makes.
use Rattle.std.specs.Prelude.{◌≡◌, ◌⊎◌, true, false, ◌++◌}
use Rattle.std.specs.List.{list_all, list_any}
use Rattle.ground_model.specs.declared.corner.Corner.{Corner}
use Rattle.ground_model.specs.declared.corner.Corner.TheVariants.{At}
use Rattle.ground_model.specs.Place.{Coords}
use Rattle.ground_model.specs.Line.{is_point}
use Rattle.predicates.specs.Net.{Net, has_corner}
use Rattle.predicates.specs.Sheet.{IsSheet, are_over}
use Rattle.cdt_law.specs.Patch.{is_in}
use Rattle.cdt_law.specs.Hull.{Encloses}
use Rattle.cdt_law.specs.Boundary.{gone}
use Rattle.cdt_law.specs.Corners.{IsCornerOfGone}
use Rattle.cdt_law.specs.Stale.{without, IsUnchanged}

-- the edit adds to the newest net's points what it adds to the base's, and takes what it takes; it makes a facet at each point
-- that it adds, and leaves none of the newest at one that it takes
pub record AreCarried (base planned newest after : Net) : Type 0 where
  pub added : (p : Coords) → is_point planned.points p ≡ true → is_point base.points p ≡ false → is_point after.points p ≡ true
  pub kept : (p : Coords) → is_point newest.points p ≡ true → (is_point base.points p ≡ false) ⊎ (is_point planned.points p ≡ true) → is_point after.points p ≡ true
  pub only : (p : Coords) → is_point after.points p ≡ true
      → ((is_point newest.points p ≡ true) × ((is_point base.points p ≡ false) ⊎ (is_point planned.points p ≡ true))) ⊎ ((is_point planned.points p ≡ true) × (is_point base.points p ≡ false))
  pub made_at : (p : Coords) → is_point planned.points p ≡ true → is_point base.points p ≡ false → IsCornerOfGone planned base p
  pub none_at : (p : Coords) (y z : Corner) → is_point base.points p ≡ true → is_point planned.points p ≡ false → is_in (without newest (gone base planned)) (At p) y z ≡ false

-- the corners of the triangles are over the points, and each point is a corner
pub record AreCorners (net : Net) : Type 0 where
  pub over : list_all (are_over net.points) net.triangles ≡ true
  pub reached : list_all (λ p. list_any (λ t. has_corner t (At p)) net.triangles) net.points ≡ true

-- what an edit of the base makes of a newer net, whose facets in the zone have not changed, has its points as corners
abbrev pub VertexLaw : Type 0
VertexLaw = (base planned newest after : Net) → IsSheet base → IsSheet planned → IsSheet newest → Encloses base planned → Encloses planned base → IsUnchanged base planned newest
    → after.triangles ≡ gone planned base ++ without newest (gone base planned) → AreCarried base planned newest after → AreCorners after
