use Rattle.std.proofs.Common.{◌≡◌, ◌+◌, ◌++◌, vec_len}
use Rattle.std.specs.List.{All, flat_map}
use Rattle.turn_lock.specs.Seat.{Seat, numbers_of, HasAll}
use Rattle.lock_tests.proofs.seats.join_all.Given as goal

abbrev pub invariant-loop-left : goal.invariant-loop-left
invariant-loop-left g l = record {
  left : l.left ≡ vec_len l.seats + 1;
  table : l.all.table ≡ l.lock.table;
  of_lock : All (λ (s : Seat). s.table ≡ l.lock.table) l.seats.items;
  numbers : HasAll l.lock (numbers_of l.all ++ flat_map numbers_of l.seats.items);
}

abbrev pub decreases-loop-left : goal.decreases-loop-left
decreases-loop-left g l = l.left
