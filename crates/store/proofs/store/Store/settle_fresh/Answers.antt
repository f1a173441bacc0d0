use Rattle.std.proofs.Common.{◌≡◌, refl, ap, ◌∙◌}
use Rattle.ground_model.specs.Answer.{given_number}
use Rattle.ground_model.specs.History.{content_of}
use Rattle.turn_lock.specs.declared.journal.Journal.{Journal}
use Rattle.store.proofs.Answered.{settles-fresh}
use Rattle.store.proofs.store.Store.settle_fresh.Goals as goal

pub returns-clause-answer : goal.returns-clause-answer
returns-clause-answer g c =
    let here : c.self.inside.newest.journal ≡ c.args.self.now.journal = rw (← c.self.view_is) refl in
    settles-fresh c.args.plan.now.journal c.args.author c.args.plan.now.edit c.args.copy c.args.self.now.journal c.enter.new.self.journal c.requires.plan c.requires.copy c.in_ok-made.ensures.lawful
    c.in_ok-version.version c.in_ok-version.before c.new_line-line.result (c.new_line-line.ensures ∙ ap (λ (j : Journal). given_number (content_of j.entries) c.args.copy) here) c.in_ok-version.ensures.ok c.in_ok-version.ensures.version c.in_ok-version.ensures.before
