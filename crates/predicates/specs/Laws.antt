-- What holds of any four places.
use Rattle.std.specs.Prelude.{◌≢◌, ◌+ℤ◌, ◌*ℤ◌, IsTrue}
use Rattle.ground_model.specs.Place.{Coords, ArePlaces}
use Rattle.ground_model.specs.Side.{side, is_left}
use Rattle.ground_model.specs.Height.{height}

-- p is none of a, b, c
pub record IsNoneOf (a b c p : Coords) : Type 0 where
  pub not_a : p ≢ a
  pub not_b : p ≢ b
  pub not_c : p ≢ c

-- the lifted d is never in the plane of the lifted a, b, c, which are counterclockwise
abbrev pub NeverTies : Type 0
NeverTies = (a b c d : Coords) → ArePlaces a b c d → IsTrue (is_left a b c) → IsNoneOf a b c d
    → height d *ℤ side a b c ≢ height a *ℤ side b c d +ℤ height b *ℤ side c a d +ℤ height c *ℤ side a b d
