use Rattle.std.proofs.Common.{ap, ◌∙◌}
use Rattle.std.specs.Prelude.{map, unwrap_or}
use Rattle.ground_model.specs.Tri.{tri}
use Rattle.store.specs.Births.{facet_birth}
use Rattle.store.proofs.Born.{births-renewed}
use Rattle.store.proofs.births.Births.renewed.Goals as goal

pub returns : goal.returns
returns c birth are =
    births-renewed c.args.before.now c.args.edit.now c.args.front birth c.args.self.now _ are (c.in_ok-points.ensures birth are)
    (c.in_ok-facets.ensures ∙ ap (map (λ f. unwrap_or (facet_birth (tri c.args.before.now) c.args.self.now f) c.args.front)) (c.facets.ensures.value ∙ ap tri c.requires))
