-- Lines: their links and pieces.
use Rattle.std.specs.Prelude.{Bool, not, ◌&&◌, List, ◌++◌, map, take, drop, [], if◌then◌else◌}
use Rattle.std.specs.List.{list_any, filter, flat_map, zip}
use Rattle.ground_model.specs.declared.line.LineKind.{LineKind}
use Rattle.ground_model.specs.Kind.{is_ring}
use Rattle.ground_model.specs.Place.{Coords, is_before, is_same}
use Rattle.ground_model.specs.Side.{is_on_segment}

-- a kind and the places in order
pub record Line : Type 0 where
  pub kind : LineKind
  pub places : List Coords

-- two places, the ends of a link or of a piece
abbrev pub Segment : Type 0
Segment = Coords × Coords

-- the links from each place to the next; a ring goes back to its first place
abbrev pub links : Line → List Segment
links line = zip line.places (drop 1 line.places ++ (if is_ring line.kind then take 1 line.places else []))

-- whether the line has the place
abbrev pub has_place : Coords → Line → Bool
has_place p line = list_any (is_same p) line.places

-- whether no point lies strictly between p and q, where p is before q
abbrev pub is_clear : List Coords → Coords → Coords → Bool
is_clear points p q = not (list_any (λ r. is_on_segment p q r && is_before p r && is_before r q) points)

-- whether the place is one of the points
abbrev pub is_point : List Coords → Coords → Bool
is_point points p = list_any (is_same p) points

-- whether the line has the piece pq: two points on one link, with no point strictly between
unfoldable pub has_piece : List Coords → Line → Coords → Coords → Bool
has_piece points line p q = is_before p q && is_point points p && is_point points q && is_clear points p q
    && list_any (λ link. is_on_segment link.0 link.1 p && is_on_segment link.0 link.1 q) (links line)

-- each two of a list, by the first, then by the second
abbrev pub pairs : {X : Type 0} → List X → List (X × X)
pairs xs = flat_map (λ x. map (λ y. (x, y)) xs) xs

-- the pieces of a line, in order
unfoldable pub pieces_of : List Coords → Line → List Segment
pieces_of points line = filter (λ piece. has_piece points line piece.0 piece.1) (pairs points)
