use Rattle.line_edit.proofs.Gathered.{Gathered}
use Rattle.line_edit.proofs.pieces.pieces_round.Given as goal

abbrev pub invariant-loop-step : goal.invariant-loop-step
invariant-loop-step l = Gathered l.mesh.slots l.point l.from.slot l.step l.at.slot l.at.edge l.found.items
