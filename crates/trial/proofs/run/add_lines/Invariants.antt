use Rattle.std.proofs.Common.{◌≡◌, ℕ, ◌+◌, ◌*◌, ◌≤◌}
use Rattle.trial.specs.Draws.{state_after}
use Rattle.trial.specs.Trials.{after_lines}
use Rattle.trial.proofs.run.add_lines.Given as goal

abbrev pub invariant-loop-k : goal.invariant-loop-k
invariant-loop-k l = (l.course.refused ≤ l.fn.course.refused + l.k)
    × ((seed before : ℕ) → l.fn.draws ≡ state_after seed before → (l.course ≡ after_lines l.fn.course seed before l.places l.k) × (l.draws ≡ state_after seed (before + 2 * l.k)))
