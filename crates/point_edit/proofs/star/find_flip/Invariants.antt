use Rattle.point_edit.proofs.Looks.{Walked}
use Rattle.point_edit.proofs.star.find_flip.Given as goal

abbrev pub invariant-loop-step : goal.invariant-loop-step
invariant-loop-step l = Walked l.mesh.slots l.point l.from.slot l.step l.at.slot l.at.corner
