use Rattle.std.proofs.Common.{◌+◌, nat_eq, cond, ◌∙◌, rules}
use mir.Syntax.{w128}
use Rattle.std.proofs.lemmas.Int.{to_z-of_z}
use Rattle.ground_model.specs.Volume.{is_above, part_above}
use Rattle.predicates.proofs.Sizes.{read_is}
use Rattle.measures.proofs.FacetVolumes.{one_below_turned}
use Rattle.measures.proofs.part.part_below.Goals as goal

pub part_above-requires-clause-one : goal.part_above-requires-clause-one
part_above-requires-clause-one c =
    (λ i. nat_eq (0 + cond (is_above (c.turned_over.ensures i)) 1 0 + cond (is_above (c.turned_over-2.ensures i)) 1 0 + cond (is_above (c.turned_over-3.ensures i)) 1 0) 1)
    ∙ one_below_turned c.args.x.now c.args.y.now c.args.z.now c.requires.some_below c.requires.some_above c.requires.more_above

pub returns-clause-value : goal.returns-clause-value
returns-clause-value c =
    let area = to_z-of_z w128 c.args.area c.ranges.area in
    read_is w128 c.part_above.result _ (search rules) (c.part_above.ensures.value ∙ (λ i. part_above (area i) (c.turned_over.ensures i) (c.turned_over-2.ensures i) (c.turned_over-3.ensures i)))
