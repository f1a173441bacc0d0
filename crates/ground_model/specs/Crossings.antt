-- Where lines cross. Pieces cross at places that are no points alone, so that links show where.
use Rattle.std.specs.Prelude.{ℕ, Bool, not, ◌≡◌, ◌&&◌, List, [], ◌∷◌, Option, option_map, find, nat_lt, nat_le}
use Rattle.std.specs.List.{list_any, list_all, enumerate_from}
use Rattle.ground_model.specs.declared.line.LineKind.TheVariants.{Breakline}
use Rattle.ground_model.specs.Place.{Coords, is_same}
use Rattle.ground_model.specs.Side.{crosses, is_on_segment}
use Rattle.ground_model.specs.Line.{Line, Segment, links, is_point, pairs, pieces_of}
use Rattle.ground_model.specs.Table.{Table, numbered}

-- whether some piece of the one list crosses some piece of the other
unfoldable pub any_cross : List Segment → List Segment → Bool
any_cross ps qs = list_any (λ p. list_any (λ q. crosses p.0 p.1 q.0 q.1) qs) ps

-- whether pieces of two lines cross
abbrev pub lines_cross : List Coords → Line → Line → Bool
lines_cross points l m = any_cross (pieces_of points l) (pieces_of points m)

-- the least pair of numbers, whose two things pass the test
abbrev pub least_pair : {X : Type 0} → (ℕ × X → ℕ × X → Bool) → List (ℕ × X) → Option (ℕ × ℕ)
least_pair test xs = option_map (λ found. (found.0.0, found.1.0)) (find (λ pair. test pair.0 pair.1) (pairs xs))

-- the least pair of lines with crossing pieces, the lesser number first
unfoldable pub joint : List Coords → Table → Option (ℕ × ℕ)
joint points t = least_pair (λ l m. nat_le l.0 m.0 && lines_cross points l.1 m.1) (numbered t)

-- the pieces on one link
abbrev pub pieces_on_link : List Coords → Segment → List Segment
pieces_on_link points link = pieces_of points (record { kind = Breakline; places = link.0 ∷ link.1 ∷ [] })

-- the least pair of links of a line with crossing pieces, counted from 1
unfoldable pub self_cross : List Coords → Line → Option (ℕ × ℕ)
self_cross points line = least_pair (λ l m. nat_lt l.0 m.0 && any_cross (pieces_on_link points l.1) (pieces_on_link points m.1)) (enumerate_from 1 (links line))

-- whether a piece of the line crosses the segment
unfoldable pub piece_crosses : List Coords → Segment → Line → Bool
piece_crosses points s line = list_any (λ piece. crosses s.0 s.1 piece.0 piece.1) (pieces_of points line)

-- whether the segments cross at a place that is no point
abbrev pub cross_between : List Coords → Segment → Segment → Bool
cross_between points s t = crosses s.0 s.1 t.0 t.1 && not (list_any (λ x. is_on_segment s.0 s.1 x && is_on_segment t.0 t.1 x) points)

-- whether a link of the line crosses the segment at a place that is no point
unfoldable pub link_crosses : List Coords → Segment → Line → Bool
link_crosses points s line = list_any (cross_between points s) (links line)

-- whether links of the two lines cross at a place that is no point
unfoldable pub links_cross : List Coords → Line → Line → Bool
links_cross points l m = list_any (λ s. link_crosses points s m) (links l)

-- whether each place of the line is a point
unfoldable pub is_on_points : List Coords → Line → Bool
is_on_points points line = list_all (is_point points) line.places

-- the points without p
pub record AreWithout (rest points : List Coords) (p : Coords) : Type 0 where
  pub are : (x : Coords) → is_point rest x ≡ (is_point points x && not (is_same p x))
