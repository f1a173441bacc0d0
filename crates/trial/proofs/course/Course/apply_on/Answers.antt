use Rattle.std.proofs.Common.{◌+◌, sym, ap, ◌∙◌}
use Rattle.trial.specs.Trials.{Trial, applied}
use Rattle.trial.proofs.Outcomes.{done_applied, refused_applied}
use Rattle.trial.proofs.course.Course.apply_on.Goals as goal

pub returns-in-Done : goal.returns-in-Done
returns-in-Done g c =
    let t : Trial = record { journal = c.self.inside.store.journal; kept = c.self.inside.kept.journal; refused = c.self.inside.refused; conflicts = c.self.inside.conflicts } in
    let a = c.in-Done.ensures.answer in
    (λ i. record { journal = a.1 i; kept = t.kept; refused = t.refused; conflicts = t.conflicts })
    ∙ sym (done_applied t c.args.edit _ _ a.0)
    ∙ ap (applied c.args.edit) c.self.view_is

pub returns-in-Refused : goal.returns-in-Refused
returns-in-Refused g c =
    let t : Trial = record { journal = c.self.inside.store.journal; kept = c.self.inside.kept.journal; refused = c.self.inside.refused; conflicts = c.self.inside.conflicts } in
    let a = c.in-Refused.ensures.answer in
    (λ i. record { journal = a.1 i; kept = t.kept; refused = t.refused + 1; conflicts = t.conflicts })
    ∙ sym (refused_applied t c.args.edit _ _ a.0)
    ∙ ap (applied c.args.edit) c.self.view_is
