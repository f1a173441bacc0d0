use Rattle.std.proofs.Common.{◌≡◌, ℕ, ◌<◌, ◌≤◌, None, Some, length, vec_len, vec_capacity}
use Rattle.std.specs.List.{slice_index_or}
use Rattle.turn_lock.specs.Seat.{Seat}
use Rattle.serve.specs.declared.worker.Worker.{Worker}
use Rattle.serve.proofs.surface.take_passes.Given as goal

abbrev pub invariant-loop-worker : goal.invariant-loop-worker
invariant-loop-worker g l = record {
  count : vec_len l.passes ≡ l.worker-index;
  room : length l.fn.workers ≤ vec_capacity l.passes;
  had : (i : ℕ) (d : Worker g.row.D.Denot) (p : Seat) → i < l.worker-index → (slice_index_or l.fn.workers i d).pass ≡ Some (slice_index_or l.passes.items i p);
  left : (i : ℕ) (d : Worker g.row.D.Denot) → i < l.worker-index → slice_index_or l.workers i d ≡ record (slice_index_or l.fn.workers i d) { pass = None };
  kept : (i : ℕ) (d : Worker g.row.D.Denot) → l.worker-index ≤ i → slice_index_or l.workers i d ≡ slice_index_or l.fn.workers i d;
}
