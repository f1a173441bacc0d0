use Rattle.std.proofs.Common.{◌^◌, ◌*ℤ◌, ◌∙◌, rules}
use mir.Syntax.{w128}
use Rattle.std.proofs.lemmas.Int.{to_z-of_z}
use Rattle.ground_model.specs.Rounding.{ceil_div}
use Rattle.predicates.proofs.Sizes.{read_is, read_both, size_along}
use Rattle.measures.proofs.Shares.{share_size}
use Rattle.measures.proofs.cap.share.Goals as goal

pub returns-clause-value : goal.returns-clause-value
returns-clause-value c =
    let product = c.product.ensures.value ∙ read_both ◌*ℤ◌ w128 c.args.size c.args.height c.ranges.size c.ranges.height in
    let dividend = read_is w128 c.product.result _ (search rules) product in
    let divisor = to_z-of_z w128 c.args.whole c.ranges.whole in
    read_is w128 c.ceil_div.result _ (search rules) (c.ceil_div.ensures ∙ (λ i. ceil_div (dividend i) (divisor i)))

pub returns-clause-size : goal.returns-clause-size
returns-clause-size c = size_along _ (ceil_div (c.args.size *ℤ c.args.height) c.args.whole) _ (returns-clause-value c) (share_size (2 ^ 61) c.args.size c.args.height c.args.whole c.requires.size c.requires.some c.requires.part)
