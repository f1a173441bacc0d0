use Rattle.std.proofs.Common.{◌≡◌, None, false, vec_len}
use Rattle.std.specs.List.{All}
use Rattle.terrain_main.proofs.ports.workers_at.Given as goal

abbrev pub invariant-loop-number : goal.invariant-loop-number
invariant-loop-number g l = record {
  count : vec_len l.workers ≡ l.number;
  idle : All (λ w. (w.pass ≡ None) × (w.failed ≡ false)) l.workers.items;
}
