-- The half-open crossing of an edge by the ray that goes east from a weighted point.
use Rattle.std.specs.Prelude.{ℤ, pos, ◌+ℤ◌, ◌-ℤ◌, ◌*ℤ◌, neg_ℤ, Bool, true, false, int_lt}
use Rattle.ground_model.specs.Place.{Coords}
use Rattle.predicates.specs.Weighted.{Weighted, weighted_side}

-- how far p lies north of the weighted point, as many times as that weighs
unfoldable pub rise : Weighted → Coords → ℤ
rise x p = x.weight *ℤ p.n -ℤ x.n

-- whether p lies north of the point
abbrev pub is_north : Weighted → Coords → Bool
is_north x p = int_lt (pos 0) (rise x p)

-- 1 where it is so, else 0
abbrev pub indicate : Bool → ℤ
indicate true = pos 1
indicate false = pos 0

-- the crossing by whether the ends lie north, and whether the point is to the left or to the right
abbrev pub crossing_by : Bool → Bool → Bool → Bool → ℤ
crossing_by true true left right = pos 0
crossing_by false false left right = pos 0
crossing_by false true left right = indicate left
crossing_by true false left right = neg_ℤ (indicate right)

-- 1 where the edge goes north past the point's right, -1 where it goes south there, else 0
abbrev pub crossing : Weighted → Coords → Coords → ℤ
crossing x a b = crossing_by (is_north x a) (is_north x b) (int_lt (pos 0) (weighted_side a b x)) (int_lt (weighted_side a b x) (pos 0))

-- the crossings of a triangle's three edges
abbrev pub hit : Weighted → Coords → Coords → Coords → ℤ
hit x a b c = crossing x a b +ℤ crossing x b c +ℤ crossing x c a
