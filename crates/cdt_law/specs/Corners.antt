-- The corners of what an edit destroys and makes.
use Rattle.std.specs.Prelude.{◌≡◌, true}
use Rattle.ground_model.specs.declared.corner.Corner.{Corner}
use Rattle.ground_model.specs.declared.corner.Corner.TheVariants.{At}
use Rattle.ground_model.specs.Place.{Coords}
use Rattle.ground_model.specs.Line.{is_point}
use Rattle.predicates.specs.Net.{Net}
use Rattle.predicates.specs.Sheet.{IsSheet}
use Rattle.cdt_law.specs.Patch.{is_in}
use Rattle.cdt_law.specs.Hull.{Encloses}
use Rattle.cdt_law.specs.Boundary.{gone}

-- the place is a corner of a facet that the net has and the other has not
pub record IsCornerOfGone (net other : Net) (p : Coords) : Type 0 where
  pub y : Corner
  pub z : Corner
  pub there : is_in (gone net other) (At p) y z ≡ true

-- a point of the base that is a corner of what is made is one of what is destroyed
abbrev pub CornerLaw : Type 0
CornerLaw = (base planned : Net) → IsSheet base → IsSheet planned → Encloses base planned → (p : Coords) → is_point base.points p ≡ true → IsCornerOfGone planned base p → IsCornerOfGone base planned p
