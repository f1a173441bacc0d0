use Rattle.std.proofs.Common.{◌≡◌, refl, ap, ◌∙◌, subst, None, Some, length}
use Rattle.std.specs.Prelude.{find, IfOk}
use Rattle.ground_model.specs.Answer.{has_changed}
use Rattle.ground_model.specs.History.{content_of}
use Rattle.ground_model.specs.Zone.{zone}
use Rattle.turn_lock.specs.declared.journal.Journal.{Journal}
use Rattle.store.specs.Answers.{Tries}
use Rattle.store.proofs.Answered.{settles-stale, settles-changed}
use Rattle.store.proofs.store.Store.settle_stale.Goals as goal

pub returns-in-Some-clause-answer : goal.returns-in-Some-clause-answer
returns-in-Some-clause-answer g c =
    let here : c.self.inside.newest.journal ≡ c.args.self.now.journal = rw (← c.self.view_is) refl in
    let found : Some c.in-Some.mark ≡ find (has_changed c.args.self.now.journal.entries (length c.args.plan.now.journal.entries)) (zone (content_of c.args.plan.now.journal.entries) c.args.plan.now.edit) =
    c.in-Some.ensures ∙ ap (λ (j : Journal). find (has_changed j.entries (length c.args.plan.now.journal.entries)) (zone (content_of c.args.plan.now.journal.entries) c.args.plan.now.edit)) here in
    settles-changed c.args.plan.now.journal c.args.author c.args.plan.now.edit c.args.copy c.args.self.now.journal c.args.self.now.journal c.requires.prefix c.requires.stale c.requires.copy refl
    c.in-Some.mark found c.in_ok-share.field-0 (c.in_ok-share.ensures.journal ∙ here)

pub returns-clause-answer : goal.returns-clause-answer
returns-clause-answer g c =
    let here : c.self.inside.newest.journal ≡ c.args.self.now.journal = rw (← c.self.view_is) refl in
    let none : None ≡ find (has_changed c.args.self.now.journal.entries (length c.args.plan.now.journal.entries)) (zone (content_of c.args.plan.now.journal.entries) c.args.plan.now.edit) =
    c.in_default.ensures ∙ ap (λ (j : Journal). find (has_changed j.entries (length c.args.plan.now.journal.entries)) (zone (content_of c.args.plan.now.journal.entries) c.args.plan.now.edit)) here in
    settles-stale c.args.plan.now.journal c.args.author c.args.plan.now.edit c.args.self.now.journal c.make.new.self.journal c.requires.prefix c.requires.stale none c.make.result
    (subst (λ e. IfOk c.make.result (Tries c.args.author e c.args.self.now.journal c.make.new.self.journal)) c.requires.copy c.make.ensures.ok) c.make.ensures.err
