use Rattle.std.proofs.Common.{ap, ◌∙◌, arith}
use Rattle.trial.specs.Trials.{Trial, applied}
use Rattle.trial.proofs.Counts.{applied_few, lines_next, lines_begun, state_at, state_next}
use Rattle.trial.proofs.run.add_lines.Goals as goal

pub loop-k-init : goal.loop-k-init
loop-k-init c = (omega arith, λ seed before is. (lines_begun c.args.course.now seed before c.args.places.now, state_at seed before c.args.draws.now is))

pub loop-k-preserved : goal.loop-k-preserved
loop-k-preserved c =
    let few = applied_few c.in_ok-edit.edit c.loop-k.course in (
      omega (arith, ap (λ (t : Trial). t.refused) c.in_ok-apply.ensures, few.refused, c.loop-k.invariant.0),
      λ seed before is.
          let so = c.loop-k.invariant.1 seed before is in (
            c.in_ok-apply.ensures
                ∙ (λ i. applied (c.in_ok-edit.ensures.edit seed before c.loop-k.k so.1 i) (so.0 i))
                ∙ lines_next c.args.course.now seed before c.args.places.now c.loop-k.k,
            c.in_ok-edit.ensures.state seed before c.loop-k.k so.1 ∙ state_next seed before 2 c.loop-k.k,
          ),
    )
