use Rattle.line_edit.proofs.Sought.{Sought, EndsAt}
use Rattle.line_edit.proofs.between.edge_from.Given as goal

abbrev pub invariant-loop-step : goal.invariant-loop-step
invariant-loop-step l = Sought l.mesh.slots l.p (EndsAt l.mesh.slots l.p l.q) l.from.slot l.step l.at.slot l.at.edge
