use Rattle.std.proofs.Common.{◌≡◌}
use Rattle.turn_lock.specs.Seat.{numbers_of}
use Rattle.desk_tests.proofs.crews.add_ten.Given as goal

abbrev pub invariant-loop-i : goal.invariant-loop-i
invariant-loop-i g l = (l.pass.table ≡ l.initial.pass.table) × (numbers_of l.pass ≡ numbers_of l.initial.pass)
