use Rattle.std.proofs.Common.{◌≡◌, ℕ, List}
use Rattle.ground_io.specs.Wires.{WireView}
use Rattle.turn_lock.specs.Journal.{IsPrefix}
use Rattle.serve.specs.AtDesk.{Goes}
use Rattle.serve.specs.Doors.{ServesWires, LeaveFirst, ComeLast}
use Rattle.serve.proofs.worker.serve_wires.Given as goal

abbrev pub invariant-sessions : goal.invariant-sessions
invariant-sessions g l = record {
  served : (before : List WireView) × (after : List WireView) × ServesWires l.fn.pass l.pass l.fn.budget before after × LeaveFirst (g.D.Door.coming l.fn.door) (g.D.Door.coming l.door) before × ComeLast (g.D.Door.back l.fn.door) (g.D.Door.back l.door) after;
  goes : (fronts : List ℕ) × Goes l.fn.pass l.pass fronts;
  goes_on : IsPrefix l.fn.pass.seen l.pass.seen;
  same_out : g.D.Door.out l.door ≡ g.D.Door.out l.fn.door;
  faults : g.D.Door.accept_faults l.door ≡ g.D.Door.accept_faults l.fn.door;
}

abbrev pub decreases-sessions : goal.decreases-sessions
decreases-sessions g l = g.D.Door.sessions l.door
