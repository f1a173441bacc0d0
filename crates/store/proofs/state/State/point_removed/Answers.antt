use Rattle.std.proofs.Common.{ap, sym, subst, ◌∙◌}
use Rattle.ground_model.specs.Planar.{IsPlanar}
use Rattle.ground_model.proofs.Planar.{planar-legal}
use Rattle.store.proofs.state.State.point_removed.Goals as goal

pub removal_refusal-requires : goal.removal_refusal-requires
removal_refusal-requires c = subst IsPlanar (sym (ap (λ made. made.surface) c.get.ensures ∙ c.self.invariant.content)) (planar-legal c.self.inside.limits c.self.inside.log c.self.invariant.legal)
