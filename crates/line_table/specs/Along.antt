-- The points along a line: enough to find its pieces.
use Rattle.std.specs.Prelude.{Bool, IsTrue, List}
use Rattle.std.specs.List.{All, list_any}
use Rattle.ground_model.specs.Place.{Coords}
use Rattle.ground_model.specs.Side.{is_on_segment}
use Rattle.ground_model.specs.Line.{Line, links, is_point}

-- whether the place lies on a link of the line
abbrev pub is_on_links : Line → Coords → Bool
is_on_links line x = list_any (λ link. is_on_segment link.0 link.1 x) (links line)

-- points that are enough to find the pieces of the line: some of all, with all that lie on its links
pub record AreEnoughAlong (all points : List Coords) (line : Line) : Type 0 where
  pub some : All (λ x. IsTrue (is_point all x)) points
  pub those_on_it : All (λ x. IsTrue (is_on_links line x) → IsTrue (is_point points x)) all
