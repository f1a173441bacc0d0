use Rattle.std.proofs.Common.{◌≡◌, ◌++◌, List, length}
use Rattle.std.specs.List.{flat_map}
use Rattle.ground_model.specs.Place.{Coords}
use Rattle.ground_model.specs.Table.{live}
use Rattle.line_table.proofs.Rows.{all_row}
use Rattle.line_table.proofs.lines.Lines.pieces.Given as goal

abbrev pub invariant-points : goal.invariant-points
invariant-points l =
    (l.found.items ++ flat_map (all_row l.points (live l.self)) l.rest ≡ flat_map (all_row l.points (live l.self)) l.points)
    × ((front : List Coords) × (l.points ≡ front ++ l.rest))

abbrev pub decreases-points : goal.decreases-points
decreases-points l = length l.rest
