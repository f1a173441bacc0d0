-- The facets at a point that an edit adds or takes.
use Rattle.std.specs.Prelude.{◌≡◌, ◌⊎◌, true}
use Rattle.ground_model.specs.declared.corner.Corner.{Corner}
use Rattle.ground_model.specs.declared.corner.Corner.TheVariants.{At}
use Rattle.ground_model.specs.Place.{Coords}
use Rattle.predicates.specs.Net.{Net, has}
use Rattle.predicates.specs.Sheet.{IsSheet, IsLocallyDelaunay}
use Rattle.cdt_law.specs.Patch.{is_in}
use Rattle.cdt_law.specs.Boundary.{gone, IsInner}
use Rattle.cdt_law.specs.Enclose.{HasPointMore, HasGone}
use Rattle.cdt_law.specs.Corners.{IsCornerOfGone}
use Rattle.cdt_law.specs.Stale.{IsUnchanged}

-- a point more, within the hull, is a corner of facets; and what a newer net has at it is what is destroyed with it
pub record StarLaw : Type 0 where
  pub made : (more fewer : Net) (c : Coords) → IsSheet more → IsLocallyDelaunay more → IsSheet fewer → IsLocallyDelaunay fewer → HasPointMore more fewer c → IsInner more fewer
      → HasGone more fewer ⊎ HasGone fewer more → IsCornerOfGone more fewer c
  pub taken : (base planned newest : Net) (c : Coords) → IsSheet base → IsLocallyDelaunay base → IsSheet planned → IsLocallyDelaunay planned → IsSheet newest → HasPointMore base planned c → IsInner base planned
      → HasGone base planned ⊎ HasGone planned base → IsUnchanged base planned newest → (y z : Corner) → has newest (At c) y z ≡ true → is_in (gone base planned) (At c) y z ≡ true
