use Rattle.std.proofs.Common.{◌-ℤ◌, ◌*ℤ◌, w64, ◌∙◌, rules}
use Rattle.ground_model.specs.Side.{side}
use Rattle.predicates.proofs.Sizes.{read_is}
use Rattle.predicates.proofs.sides.exact_side.Goals as goal

pub returns-clause-value : goal.returns-clause-value
unfolding side
returns-clause-value c =
    let u = c.between.ensures in
    let v = c.between-2.ensures in
    read_is w64 c.cross.result _ (search rules) (c.cross.ensures.value ∙ (λ i. u.e i *ℤ v.n i -ℤ u.n i *ℤ v.e i))
