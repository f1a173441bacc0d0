use Rattle.line_edit.specs.Ways.{IsAhead}
use Rattle.line_edit.proofs.Firsts.{IsTold}
use Rattle.line_edit.proofs.Remains.{remains}
use Rattle.line_edit.proofs.ahead.next_point.Given as goal

abbrev pub invariant-loop-ahead : goal.invariant-loop-ahead
invariant-loop-ahead l = IsAhead l.mesh.slots l.p l.q l.fn.v l.ahead × IsTold l.mesh.slots l.p l.q l.fn.v l.ahead l.met

abbrev pub decreases-loop-ahead : goal.decreases-loop-ahead
decreases-loop-ahead l = remains l.mesh.slots l.p l.q l.ahead
