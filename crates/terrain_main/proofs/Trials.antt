-- A trial as the words ask for it.
use Rattle.std.proofs.Common.{◌≡◌, ◌∙◌, ℕ, Option, Some, subst}
use Rattle.ground_io.specs.Wires.{WireView}
use Rattle.terrain_main.specs.declared.words.Command.{Command}
use Rattle.terrain_main.specs.declared.words.Command.TheVariants.{Trial}
use Rattle.terrain_main.specs.declared.status.Status.{Status}
use Rattle.terrain_main.specs.Commands.{RunsTrial}

same_seed : (s k t l : ℕ) → ◌≡◌ {A = Option Command} (Some (Trial s k)) (Some (Trial t l)) → s ≡ t
same_seed s k t l e = cc

same_count : (s k t l : ℕ) → ◌≡◌ {A = Option Command} (Some (Trial s k)) (Some (Trial t l)) → k ≡ l
same_count s k t l e = cc

pub asked_for : (s k t l : ℕ) (before after : WireView) (status : Status) (o : Option Command) → Some (Trial s k) ≡ o → o ≡ Some (Trial t l) → RunsTrial s k before after status → RunsTrial t l before after status
asked_for s k t l before after status o p q h =
    subst (λ seed. RunsTrial seed l before after status) (same_seed s k t l (p ∙ q)) (subst (λ count. RunsTrial s count before after status) (same_count s k t l (p ∙ q)) h)
