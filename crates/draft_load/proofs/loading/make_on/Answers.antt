use Rattle.std.proofs.Common.{[], ap, ◌∙◌, length}
use Rattle.std.specs.Prelude.{◌+◌, ◌-◌}
use Rattle.draft_load.proofs.Edits.{done-lawful, refused-cause, loads-one, refuses-one}
use Rattle.draft_load.proofs.loading.make_on.Goals as goal

pub returns-in-Done : goal.returns-in-Done
returns-in-Done g c = let a = c.in-Done.ensures.answer in loads-one c.args.store.now.journal _ c.args.edit (done-lawful c.args.store.now.journal c.args.edit _ _ a.0) a.1

pub returns-in-Refused : goal.returns-in-Refused
returns-in-Refused g c =
    let a = c.in-Refused.ensures.answer in
    refuses-one c.args.store.now.journal c.args.edit [] c.args.points c.line_number.result c.in-Refused.refusal (refused-cause c.args.store.now.journal c.args.edit _ _ a.0)
    (c.line_number.ensures ∙ ap (λ n. n + 1 - c.args.points) (c.front.ensures.value ∙ ap (λ j. length j.entries) (a.2 ∙ a.1)))
