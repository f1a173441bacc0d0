use Rattle.std.proofs.Common.{◌+◌, ap, ◌∙◌, arith}
use Rattle.turn_lock.specs.Setting.{setting}
use Rattle.trial.specs.Trials.{Trial, point_step}
use Rattle.trial.proofs.Counts.{points_within, points_next, points_begun, state_begun, points_state}
use Rattle.trial.proofs.run.add_points.Goals as goal

pub loop-k-init : goal.loop-k-init
loop-k-init c = (points_begun (setting c.args.course.now.journal) c.args.draws.now c.args.course.now c.requires.fresh, state_begun c.args.draws.now)

pub step-requires-clause-refused : goal.step-requires-clause-refused
step-requires-clause-refused c =
    let within = points_within (setting c.args.course.now.journal) c.args.draws.now c.loop-k.k in
    omega (arith, ap (λ (t : Trial). t.refused) c.loop-k.invariant.0, within.refused, c.requires.few)

pub step-requires-clause-conflicts : goal.step-requires-clause-conflicts
step-requires-clause-conflicts c =
    let within = points_within (setting c.args.course.now.journal) c.args.draws.now c.loop-k.k in
    omega (arith, ap (λ (t : Trial). t.conflicts) c.loop-k.invariant.0, within.conflicts, c.requires.few)

pub loop-k-preserved : goal.loop-k-preserved
loop-k-preserved c =
    let set = setting c.args.course.now.journal in
    let seed = c.args.draws.now in (
      c.in_ok-step.ensures
          ∙ (λ i. point_step (c.loop-k.k + 1) (c.next_point.ensures.edit seed c.loop-k.k c.loop-k.invariant.1 i) (c.loop-k.invariant.0 i))
          ∙ points_next set seed c.loop-k.k,
      c.next_point.ensures.state seed c.loop-k.k c.loop-k.invariant.1 ∙ points_state seed c.loop-k.k,
    )
