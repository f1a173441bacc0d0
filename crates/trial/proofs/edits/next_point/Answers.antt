use Rattle.std.proofs.Common.{◌/◌, ◌%◌, ◌^◌, ap, ◌∙◌}
use Rattle.std.specs.Prelude.{pos}
use Rattle.ground_model.specs.declared.edit.Edit.TheVariants.{AddPoint}
use Rattle.trial.specs.Draws.{next_state}
use Rattle.trial.proofs.Drawn.{point_drawn, points_after}
use Rattle.trial.proofs.edits.next_point.Goals as goal

pub returns-clause-edit : goal.returns-clause-edit
returns-clause-edit c = λ seed k is.
    let e = c.below-e.ensures.value in
    let n = c.below-n.ensures.value ∙ ap (λ t. next_state t / 2 ^ 32 % 100000) c.below-e.ensures.state in
    let z = c.below-z.ensures.value ∙ ap (λ t. next_state t / 2 ^ 32 % 10000) (c.below-n.ensures.state ∙ ap next_state c.below-e.ensures.state) in
    (λ i. AddPoint (c.place_at.ensures i) (c.level_at.ensures i))
    ∙ (λ i. AddPoint (record { e = pos (e i); n = pos (n i) }) (pos (z i)))
    ∙ point_drawn seed k c.args.draws.now is

pub returns-clause-state : goal.returns-clause-state
returns-clause-state c = λ seed k is.
    c.below-z.ensures.state
    ∙ ap next_state (c.below-n.ensures.state ∙ ap next_state c.below-e.ensures.state)
    ∙ points_after seed k c.args.draws.now is
