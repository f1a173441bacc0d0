use Rattle.std.proofs.Common.{◌≡◌, subst}
use Rattle.std.specs.Prelude.{IfOk}
use Rattle.store.specs.Answers.{Tries}
use Rattle.store.proofs.Answered.{settles-front, tries-front}
use Rattle.store.proofs.store.Store.settle.Goals as goal

pub returns-clause-answer : goal.returns-clause-answer
returns-clause-answer g c =
    let same : c.in_ok-copy.field-0 ≡ c.args.edit.now = subst (λ r. IfOk r (λ e. e ≡ c.args.edit.now)) c.in_ok-copy.was c.requires.copy in
    settles-front c.args.author c.args.edit.now c.args.self.now.journal c.make.new.self.journal c.make.result
    (subst (λ e. IfOk c.make.result (Tries c.args.author e c.args.self.now.journal c.make.new.self.journal)) same c.make.ensures.ok) c.make.ensures.err

pub returns-clause-no_conflict : goal.returns-clause-no_conflict
returns-clause-no_conflict g c = tries-front _ _ _ _ c.make.result c.make.ensures.ok
