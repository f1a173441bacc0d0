use Rattle.std.proofs.Common.{◌≡◌, ◌+◌, ◌++◌, ◌≤◌, vec_len, vec_capacity}
use Rattle.desk.proofs.desk.passes_of.Given as goal

abbrev pub invariant-loop-seats : goal.invariant-loop-seats
invariant-loop-seats l = record {
  moved : l.passes.items ++ l.seats.items ≡ l.fn.seats.items;
  room : vec_len l.passes + vec_len l.seats ≤ vec_capacity l.passes;
}

abbrev pub decreases-loop-seats : goal.decreases-loop-seats
decreases-loop-seats l = goal.left-loop-seats l
