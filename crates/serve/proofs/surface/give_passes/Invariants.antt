use Rattle.std.proofs.Common.{◌≡◌, ℕ, ◌+◌, ◌<◌, ◌≤◌, Some, length, vec_len}
use Rattle.std.specs.List.{slice_index_or}
use Rattle.turn_lock.specs.Seat.{Seat}
use Rattle.serve.specs.declared.worker.Worker.{Worker}
use Rattle.serve.proofs.surface.give_passes.Given as goal

abbrev pub invariant-loop-worker : goal.invariant-loop-worker
invariant-loop-worker g l = record {
  count : vec_len l.passes + l.worker-index ≡ length l.fn.workers;
  left : (i : ℕ) (p : Seat) → slice_index_or l.passes.items i p ≡ slice_index_or l.fn.passes.items (i + l.worker-index) p;
  given : (i : ℕ) (d : Worker g.row.D.Denot) (p : Seat) → i < l.worker-index → slice_index_or l.workers i d ≡ record (slice_index_or l.fn.workers i d) { pass = Some (slice_index_or l.fn.passes.items i p) };
  kept : (i : ℕ) (d : Worker g.row.D.Denot) → l.worker-index ≤ i → slice_index_or l.workers i d ≡ slice_index_or l.fn.workers i d;
}
