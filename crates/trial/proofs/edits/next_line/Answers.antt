use Rattle.std.proofs.Common.{◌/◌, ◌^◌, ap, ◌∙◌, [], ◌∷◌}
use Rattle.ground_model.specs.declared.edit.Edit.TheVariants.{AddLine}
use Rattle.ground_model.specs.declared.line.LineKind.TheVariants.{Breakline}
use Rattle.trial.specs.Draws.{next_state, picked}
use Rattle.trial.proofs.Drawn.{line_drawn, lines_after}
use Rattle.trial.proofs.edits.next_line.Goals as goal

pub returns-in_err-from_slice-clause-state : goal.returns-in_err-from_slice-clause-state
returns-in_err-from_slice-clause-state c = λ seed before k is.
    c.next_place-to.ensures.state ∙ ap next_state c.next_place-from.ensures.state ∙ lines_after seed before k c.args.draws.now is

pub returns-clause-edit : goal.returns-clause-edit
returns-clause-edit c = λ seed before k is.
    let from = c.next_place-from.ensures.place in
    let to = c.next_place-to.ensures.place ∙ ap (λ t. picked c.args.places.now (next_state t / 2 ^ 32)) c.next_place-from.ensures.state in
    (λ i. AddLine Breakline (c.in_ok-from_slice.ensures i))
    ∙ (λ i. AddLine Breakline (from i ∷ to i ∷ []))
    ∙ line_drawn seed before k c.args.draws.now c.args.places.now is

pub returns-clause-state : goal.returns-clause-state
returns-clause-state c = λ seed before k is.
    c.next_place-to.ensures.state ∙ ap next_state c.next_place-from.ensures.state ∙ lines_after seed before k c.args.draws.now is
