-- Where the coordinates of a surface are counted from.
use Rattle.std.specs.Prelude.{ℤ, pos, ◌*ℤ◌, ◌-ℤ◌, List, [], ◌∷◌}
use Rattle.ground_num.specs.declared.head.Origin.{Origin}
use Rattle.ground_model.specs.Place.{Coords}
use Rattle.ground_model.specs.Rounding.{rounded_half_up}
use Rattle.landxml_read.specs.declared.raw.Triple.{Triple}
use Rattle.landxml_surface.specs.declared.origin.OriginRule.{OriginRule}
use Rattle.landxml_surface.specs.declared.origin.OriginRule.TheVariants.{Given, Nearest}
use Rattle.landxml_surface.specs.declared.spot.Spot.{Spot}

-- the multiple of 100,000,000 nearest to a number, a half going up
abbrev pub nearest : ℤ → ℤ
nearest x = pos 100000000 *ℤ rounded_half_up x (pos 100000000)

-- the given origin, or the one nearest to the first triple; without triples 0 0
abbrev pub origin_by : OriginRule → List Triple → Origin
origin_by (Given origin) ts = origin
origin_by Nearest [] = record { n = record { 0 = pos 0 }; e = record { 0 = pos 0 } }
origin_by Nearest (t ∷ ts) = record { n = record { 0 = nearest t.n.0 }; e = record { 0 = nearest t.e.0 } }

-- a place as it is seen from the origin
abbrev pub from_origin : Origin → Spot → Coords
from_origin origin p = record { e = p.e -ℤ origin.e.0; n = p.n -ℤ origin.n.0 }
