use Rattle.line_edit.proofs.Sought.{Sought}
use Rattle.line_edit.proofs.Wedges.{IsWedge}
use Rattle.line_edit.proofs.ahead.leave.Given as goal

abbrev pub invariant-loop-step : goal.invariant-loop-step
invariant-loop-step l = Sought l.mesh.slots l.v (IsWedge l.mesh.slots l.v l.q) l.from.slot l.step l.at.slot l.at.edge
