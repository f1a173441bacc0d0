-- How far the facets of a sheet reach: to the convex hull.
use Rattle.std.specs.Prelude.{ℕ, ◌≡◌, true, false, Bool, nat_lt}
use Rattle.ground_model.specs.declared.corner.Corner.{Corner}
use Rattle.ground_model.specs.declared.corner.Corner.TheVariants.{At, Far}
use Rattle.ground_model.specs.Place.{Coords}
use Rattle.ground_model.specs.Side.{is_left}
use Rattle.ground_model.specs.Line.{is_point}
use Rattle.ground_model.specs.Corner.{corner_at}
use Rattle.predicates.specs.Net.{Net, has}
use Rattle.predicates.specs.Sheet.{IsSheet, IsLocallyDelaunay}

-- whether the corner is lower than the far one of this number: it is a place, or a far corner of a greater number
abbrev pub is_lower : Corner → ℕ → Bool
is_lower (At p) k = true
is_lower (Far j) k = nat_lt k j

-- no point of the other net lies to the left of the edge across from a far corner of a triangle of the net, where that is its highest
abbrev pub Encloses : Net → Net → Type 0
Encloses net other = (a b : Corner) (k : ℕ) → has net a b (Far k) ≡ true → is_lower a k ≡ true → is_lower b k ≡ true
    → (p : Coords) → is_point other.points p ≡ true → is_left (corner_at a) (corner_at b) p ≡ false

-- a locally Delaunay sheet encloses its own points
abbrev pub HullLaw : Type 0
HullLaw = (net : Net) → IsSheet net → IsLocallyDelaunay net → Encloses net net
