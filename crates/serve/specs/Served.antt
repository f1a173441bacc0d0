-- A session at a desk.
use Rattle.std.specs.Prelude.{ℕ}
use Rattle.ground_io.specs.Wires.{WireView}
use Rattle.turn_lock.specs.Seat.{Seat}
use Rattle.session.specs.Turns.{Conversed}
use Rattle.session.specs.declared.conversation.Ended.{Ended}
use Rattle.serve.specs.AtDesk.{Goes}

-- a session with this pass: its author's, from the front that the pass had seen on, over the history that the pass has seen in the end, and the fronts that the pass found are those of the session's turns
abbrev pub Served : Seat → Seat → ℕ → WireView × WireView → Ended → Type 0
Served old new budget wires end = Conversed old.number (old.seen, new.seen) (Goes old new) budget wires end
