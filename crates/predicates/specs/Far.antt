-- Sides and circles with far corners, by tables: no number of a far corner is computed.
use Rattle.std.specs.Prelude.{ℕ, ◌+◌, ◌%◌, ◌<◌, ℤ, pos, neg_ℤ, ◌+ℤ◌, ◌-ℤ◌, Bool, true, false, ◌&&◌, ◌||◌, nat_eq, if◌then◌else◌}
use Rattle.std.specs.declared.cmp.Ordering.{Ordering}
use Rattle.std.specs.declared.cmp.Ordering.TheVariants.{Less, Equal, Greater}
use Rattle.std.specs.Ordering.{int_cmp, ordering_then}
use Rattle.ground_model.specs.declared.corner.Corner.{Corner}
use Rattle.ground_model.specs.declared.corner.Corner.TheVariants.{At, Far}
use Rattle.ground_model.specs.Place.{IsPlace, is_before}

-- whether the corner is a far one
abbrev pub is_far : Corner → Bool
is_far (At p) = false
is_far (Far k) = true

-- a place within the limit, or one of the three far corners
abbrev pub IsKnown : Corner → Type 0
IsKnown (At p) = IsPlace p
IsKnown (Far k) = k < 3

-- the side of two places and the far corner k, by how far the second lies east and north of the first
abbrev pub side_toward : ℕ → ℤ → ℤ → Ordering
side_toward k east north =
    if nat_eq k 0 then ordering_then (int_cmp (neg_ℤ north) (pos 0)) (int_cmp east (pos 0))
    else if nat_eq k 1 then ordering_then (int_cmp (east +ℤ north) (pos 0)) (int_cmp east (pos 0))
    else ordering_then (int_cmp (neg_ℤ east) (pos 0)) (int_cmp north (pos 0))

-- the side of the far corners j and k and any other corner
abbrev pub side_around : ℕ → ℕ → Ordering
side_around j k = if nat_eq j k then Equal else if nat_eq k ((j + 1) % 3) then Greater else Less

-- the side of two corners and the far corner k
abbrev pub side_with : Corner → Corner → ℕ → Ordering
side_with (At p) (At q) k = side_toward k (q.e -ℤ p.e) (q.n -ℤ p.n)
side_with (At p) (Far j) k = side_around j k
side_with (Far i) (At q) k = side_around k i
side_with (Far i) (Far j) k = if nat_eq i k || nat_eq j k then Equal else side_around i j

-- which is highest: the far corner of least number, and places last
abbrev pub rank : Corner → ℕ
rank (At p) = 3
rank (Far k) = k

-- whether d lies between b and c in the order of places; of collinear places, whether it lies between them
abbrev pub is_between : Corner → Corner → Corner → Bool
is_between (At b) (At c) (At d) = (is_before b d && is_before d c) || (is_before c d && is_before d b)
is_between (At b) (At c) (Far k) = false
is_between (At b) (Far k) d = false
is_between (Far k) c d = false

-- what is inside the circle of the highest corner and two others, by the side of these and the fourth; where it is zero, by whether the fourth lies between them
abbrev pub is_inside_beside : Ordering → Bool → Bool
is_inside_beside Greater between = true
is_inside_beside Equal between = between
is_inside_beside Less between = false
