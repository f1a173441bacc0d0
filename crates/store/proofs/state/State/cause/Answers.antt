use Rattle.std.proofs.Common.{◌≡◌, refl, ap, ◌∙◌, [], ◌∷◌, length}
use Rattle.std.specs.Prelude.{nat_le}
use Rattle.ground_model.specs.declared.limits.Limits.{Limits}
use Rattle.ground_model.specs.declared.refusal.Refusal.TheVariants.{LogFull}
use Rattle.ground_model.specs.Refusal.{first_of, when, refusal}
use Rattle.store.proofs.state.State.cause.Goals as goal

pub returns-clause-value : goal.returns-clause-value
unfolding refusal
returns-clause-value c edit own =
    let entries : c.len.result ≡ length c.args.self.now.journal.entries = c.len.ensures.len ∙ rw (← c.self.view_is) refl in
    let limits : c.self.inside.limits ≡ c.args.self.now.journal.limits = rw (← c.self.view_is) refl in
    c.first_cause.ensures.value
    ∙ ap (λ n. first_of (c.args.own ∷ when (nat_le c.self.inside.limits.log n) LogFull ∷ [])) entries
    ∙ ap (λ (most : Limits). first_of (c.args.own ∷ when (nat_le most.log (length c.args.self.now.journal.entries)) LogFull ∷ [])) limits
    ∙ ap (λ first. first_of (first ∷ when (nat_le c.args.self.now.journal.limits.log (length c.args.self.now.journal.entries)) LogFull ∷ [])) own
