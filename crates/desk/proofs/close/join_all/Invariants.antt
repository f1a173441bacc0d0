use Rattle.std.proofs.Common.{◌≡◌, ◌++◌, List, vec_len}
use Rattle.std.specs.List.{All}
use Rattle.turn_lock.specs.Seat.{Seat}
use Rattle.desk.specs.Closing.{Gathers}
use Rattle.desk.proofs.close.join_all.Given as goal

abbrev pub invariant-loop-left : goal.invariant-loop-left
invariant-loop-left l = record {
  left : vec_len l.passes ≡ l.left;
  table : l.all.table ≡ l.lock.table;
  of_lock : All (λ (s : Seat). s.table ≡ l.lock.table) l.passes.items;
  joined : (before : List Seat) × (before ++ l.passes.items ≡ l.fn.passes.items) × Gathers before l.all;
}

abbrev pub decreases-loop-left : goal.decreases-loop-left
decreases-loop-left l = l.left
