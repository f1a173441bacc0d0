-- Where lines would cross if a place were no point.
use Rattle.std.specs.Prelude.{ℕ, Bool, ◌&&◌, Option, nat_le}
use Rattle.std.specs.List.{list_any}
use Rattle.ground_model.specs.Place.{Coords}
use Rattle.ground_model.specs.Side.{crosses, is_on_segment}
use Rattle.ground_model.specs.Line.{Line, Segment, links}
use Rattle.ground_model.specs.Table.{Table, numbered}
use Rattle.ground_model.specs.Crossings.{least_pair}

-- whether the segments cross, and both hold the place
abbrev pub cross_over : Coords → Segment → Segment → Bool
cross_over p s t = is_on_segment s.0 s.1 p && is_on_segment t.0 t.1 p && crosses s.0 s.1 t.0 t.1

-- whether links of the two lines cross, and both hold the place
unfoldable pub links_cross_over : Coords → Line → Line → Bool
links_cross_over p l m = list_any (λ s. list_any (cross_over p s) (links m)) (links l)

-- the least pair of lines with links that cross over the place, the lesser number first
abbrev pub pair_over : Coords → Table → Option (ℕ × ℕ)
pair_over p t = least_pair (λ l m. nat_le l.0 m.0 && links_cross_over p l.1 m.1) (numbered t)
