-- Two sheets of which one has a point more, and when each encloses the points of the other.
use Rattle.std.specs.Prelude.{◌≡◌, ◌⊎◌, true, not, ◌&&◌}
use Rattle.ground_model.specs.declared.corner.Corner.{Corner}
use Rattle.ground_model.specs.declared.corner.Corner.TheVariants.{At}
use Rattle.ground_model.specs.Place.{Coords, is_same}
use Rattle.ground_model.specs.Line.{is_point}
use Rattle.predicates.specs.Net.{Net}
use Rattle.predicates.specs.Sheet.{IsSheet, IsLocallyDelaunay}
use Rattle.cdt_law.specs.Patch.{is_in}
use Rattle.cdt_law.specs.Hull.{Encloses}
use Rattle.cdt_law.specs.Boundary.{gone, IsInner}

-- one net has the point c more than the other, and c is a corner of each facet that it has alone
pub record HasPointMore (more fewer : Net) (c : Coords) : Type 0 where
  pub points : (x : Coords) → is_point fewer.points x ≡ (is_point more.points x && not (is_same c x))
  pub at_c : is_point more.points c ≡ true
  pub corner : (x y z : Corner) → is_in (gone more fewer) x y z ≡ true → (At c ≡ x) ⊎ ((At c ≡ y) ⊎ (At c ≡ z))

-- the net has a facet that the other has not
pub record HasGone (net other : Net) : Type 0 where
  pub a : Corner
  pub b : Corner
  pub c : Corner
  pub there : is_in (gone net other) a b c ≡ true

-- a point more that is within the hull changes no edge of the hull: each of the sheets encloses the points of the other
abbrev pub EncloseLaw : Type 0
EncloseLaw = (more fewer : Net) (c : Coords) → IsSheet more → IsLocallyDelaunay more → IsSheet fewer → IsLocallyDelaunay fewer → HasPointMore more fewer c → IsInner more fewer
    → HasGone more fewer ⊎ HasGone fewer more → Encloses more fewer × Encloses fewer more
