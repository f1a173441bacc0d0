-- Corners with their heights, and how far one lies below the plane of three.
use Rattle.std.specs.Prelude.{ℤ, pos}
use Rattle.ground_model.specs.declared.corner.Corner.{Corner}
use Rattle.ground_model.specs.declared.corner.Corner.TheVariants.{At, Far}
use Rattle.ground_model.specs.Height.{height}
use Rattle.ground_model.specs.Corner.{corner_at, far_height}
use Rattle.ground_model.specs.Lifted.{Lifted}
use Rattle.predicates.specs.Depth.{depth}

-- a corner's height
abbrev pub corner_height : Corner → ℤ
corner_height (At p) = height p
corner_height (Far k) = pos (far_height k)

-- a corner with its height
abbrev pub lift : Corner → Lifted
lift z = record { at = corner_at z; height = corner_height z }

-- how far p is below the plane of three corners
abbrev pub deep : Corner → Corner → Corner → Corner → ℤ
deep a b c p = depth (lift a) (lift b) (lift c) (lift p)
