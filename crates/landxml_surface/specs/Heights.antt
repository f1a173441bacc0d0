-- The points of a surface: the first triple at each place.
use Rattle.std.specs.Prelude.{Bool, false, ◌&&◌, not, List, [], ◌∷◌, ◌++◌, map, Option, None, Some, is_none, option_map}
use Rattle.std.specs.List.{find, filter}
use Rattle.std.specs.Ordering.{int_eq}
use Rattle.ground_num.specs.declared.decimal.Thousandths.{Thousandths}
use Rattle.landxml_read.specs.declared.raw.Triple.{Triple}
use Rattle.landxml_surface.specs.declared.spot.Spot.{Spot}

abbrev pub is_same_spot : Spot → Spot → Bool
is_same_spot p q = int_eq p.n q.n && int_eq p.e q.e

-- a triple's northing and easting
abbrev pub spot_of : Triple → Spot
spot_of t = record { n = t.n.0; e = t.e.0 }

-- the level of the first of these triples at a place
abbrev pub level_at : List Triple → Spot → Option Thousandths
level_at ts p = option_map (λ t. t.z) (find (λ t. is_same_spot p (spot_of t)) ts)

-- a triple, and the level that its place has from earlier ones
abbrev pub Marked : Type 0
Marked = Triple × Option Thousandths

-- each triple with the level that its place has from these and from those before it
abbrev pub marked_after : List Triple → List Triple → List Marked
marked_after earlier [] = []
marked_after earlier (t ∷ ts) = (t, level_at earlier (spot_of t)) ∷ marked_after (earlier ++ t ∷ []) ts

unfoldable pub marked : List Triple → List Marked
marked ts = marked_after [] ts

-- whether it is the first at its place
abbrev pub is_first : Marked → Bool
is_first m = is_none m.1

-- whether the place has this very level from an earlier one
abbrev pub has_level : Option Thousandths → Thousandths → Bool
has_level None z = false
has_level (Some y) z = int_eq y.0 z.0

abbrev pub is_double : Marked → Bool
is_double m = has_level m.1 m.0.z

-- whether the place has another level from an earlier one
abbrev pub is_clash : Marked → Bool
is_clash m = not (is_first m) && not (is_double m)

-- the first triples, each a place and its level
abbrev pub heights : List Triple → List (Spot × Thousandths)
heights ts = map (λ m. (spot_of m.0, m.0.z)) (filter is_first (marked ts))
