-- Corners that there are: a place within the limit, or one of the three far ones.
use Rattle.ground_model.specs.declared.corner.Corner.{Corner}
use Rattle.ground_model.specs.declared.corner.Corner.TheVariants.{At, Far}
use Rattle.ground_model.specs.Place.{Coords, IsPlace}

-- a place, or one of the three far corners
pub data IsValid : Corner → Type 0 where
  Place : (p : Coords) → IsPlace p → IsValid (At p)
  Far0 : IsValid (Far 0)
  Far1 : IsValid (Far 1)
  Far2 : IsValid (Far 2)
