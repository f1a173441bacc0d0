use Rattle.std.proofs.Common.{◌≡◌}
use Rattle.turn_lock.specs.Seat.{numbers_of}
use Rattle.lock_tests.proofs.seats.make_entries.Given as goal

abbrev pub invariant-loop-i : goal.invariant-loop-i
invariant-loop-i g l = (l.seat.table ≡ l.initial.seat.table) × (numbers_of l.seat ≡ numbers_of l.initial.seat)
