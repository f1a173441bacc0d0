use Rattle.std.proofs.Common.{◌-ℤ◌, ◌*ℤ◌, ◌∙◌, rules}
use mir.Syntax.{w128}
use Rattle.std.proofs.lemmas.Int.{to_z-of_z}
use Rattle.ground_model.specs.Rounding.{ceil_div}
use Rattle.ground_model.proofs.ZLaws.{mul_comm}
use Rattle.predicates.proofs.Sizes.{read_is, read_both}
use Rattle.measures.proofs.cap.cap.Goals as goal

pub returns-clause-value : goal.returns-clause-value
returns-clause-value c =
    let height = to_z-of_z w128 c.args.h1 c.ranges.h1 in
    let area = to_z-of_z w128 c.args.area c.ranges.area in
    let near = read_is w128 c.rise.result (c.args.h1 -ℤ c.args.h2) (search rules) (c.rise.ensures.value ∙ read_both ◌-ℤ◌ w128 c.args.h1 c.args.h2 c.ranges.h1 c.ranges.h2) in
    let far = read_is w128 c.rise-2.result (c.args.h1 -ℤ c.args.h3) (search rules) (c.rise-2.ensures.value ∙ read_both ◌-ℤ◌ w128 c.args.h1 c.args.h3 c.ranges.h1 c.ranges.h3) in
    let width = read_is w128 c.share-width.result _ (search rules) (c.share-width.ensures.value ∙ (λ i. ceil_div (area i *ℤ height i) (near i))) in
    let part = read_is w128 c.share.result _ (search rules) (c.share.ensures.value ∙ (λ i. ceil_div (width i *ℤ height i) (far i))) in
    read_is w128 c.product.result _ (search rules) (c.product.ensures.value ∙ (λ i. part i *ℤ height i) ∙ mul_comm (ceil_div (ceil_div (c.args.area *ℤ c.args.h1) (c.args.h1 -ℤ c.args.h2) *ℤ c.args.h1) (c.args.h1 -ℤ c.args.h3)) c.args.h1)
