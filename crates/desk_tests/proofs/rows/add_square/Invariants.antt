use Rattle.std.proofs.Common.{◌≡◌}
use Rattle.turn_lock.specs.Seat.{numbers_of}
use Rattle.desk_tests.proofs.rows.add_square.Given as goal

abbrev pub invariant-loop-point : goal.invariant-loop-point
invariant-loop-point g l = (l.pass.table ≡ l.initial.pass.table) × (numbers_of l.pass ≡ numbers_of l.initial.pass)
