use Rattle.std.proofs.Common.{◌≡◌, ◌++◌, List, length}
use Rattle.std.specs.List.{flat_map}
use Rattle.ground_model.specs.Place.{Coords}
use Rattle.ground_model.specs.Table.{live}
use Rattle.line_table.proofs.Rows.{line_row}
use Rattle.line_table.proofs.lines.Lines.pieces_of.Given as goal

abbrev pub invariant-points : goal.invariant-points
invariant-points l =
    (l.found.items ++ flat_map (line_row l.points (live l.self) l.line) l.rest ≡ flat_map (line_row l.points (live l.self) l.line) l.points)
    × ((front : List Coords) × (l.points ≡ front ++ l.rest))

abbrev pub decreases-points : goal.decreases-points
decreases-points l = length l.rest
