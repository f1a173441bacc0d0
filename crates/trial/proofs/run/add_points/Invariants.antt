use Rattle.std.proofs.Common.{◌≡◌, ◌*◌}
use Rattle.turn_lock.specs.Setting.{setting}
use Rattle.trial.specs.Draws.{state_after}
use Rattle.trial.specs.Trials.{after_points}
use Rattle.trial.proofs.run.add_points.Given as goal

abbrev pub invariant-loop-k : goal.invariant-loop-k
invariant-loop-k l = (l.course ≡ after_points (setting l.fn.course.journal) l.fn.draws l.k) × (l.draws ≡ state_after l.fn.draws (3 * l.k))
