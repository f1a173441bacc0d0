use Rattle.std.proofs.Common.{◌≡◌, sym, ap, subst, ◌∙◌, length}
use Rattle.std.specs.Prelude.{OnOk, Err}
use Rattle.turn_lock.specs.declared.journal.Journal.{Journal}
use Rattle.store.specs.Versions.{newest_refusal}
use Rattle.store.specs.Answers.{Plans, answer_at}
use Rattle.store.specs.declared.plan.PlanFault.{PlanFault}
use Rattle.trial.specs.Trials.{Trial, planned, by_answer}
use Rattle.trial.proofs.Outcomes.{plan_made, plan_refused}
use Rattle.trial.proofs.course.Course.plan.Goals as goal

pub returns-in-Ok : goal.returns-in-Ok
returns-in-Ok c =
    let now = c.args.self.now in
    let edit = c.args.edit in
    let p = c.in-Ok.ensures in
    let kept = ap (λ (t : Trial). t.kept) c.self.view_is in
    subst (λ (u : Trial). OnOk c.commit.result (c.commit.new.self ≡ u))
    ((λ i. by_answer (answer_at now.journal (length (p.1 i).entries) (p.2 i)) (p.2 i) now)
    ∙ ap (λ (j : Journal). by_answer (answer_at now.journal (length j.entries) edit) edit now) kept
    ∙ sym (plan_made now edit (ap (λ (j : Journal). newest_refusal j edit) (sym kept) ∙ p.0)))
    c.commit.ensures

pub returns-in-Err-Refused : goal.returns-in-Err-Refused
returns-in-Err-Refused c =
    let t : Trial = record { journal = c.self.inside.store.journal; kept = c.self.inside.kept.journal; refused = c.self.inside.refused; conflicts = c.self.inside.conflicts } in
    let refused = subst (λ (f : PlanFault). Plans c.self.inside.kept.journal c.args.edit (Err f)) c.in-Err-Refused.field-0-is c.in-Err-Refused.ensures in
    sym (plan_refused t c.args.edit _ refused.0) ∙ ap (planned c.args.edit) c.self.view_is
