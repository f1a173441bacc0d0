use Rattle.point_edit.proofs.PieceWalks.{Noted}
use Rattle.point_edit.proofs.pieces.pieces_round.Given as goal

abbrev pub invariant-loop-step : goal.invariant-loop-step
invariant-loop-step l = Noted l.mesh.slots l.point l.from.slot l.step l.at.slot l.at.corner l.met
