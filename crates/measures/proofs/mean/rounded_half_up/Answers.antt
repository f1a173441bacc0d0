use Rattle.std.proofs.Common.{◌≡◌, ◌+ℤ◌, ◌*ℤ◌, ◌<ℤ◌, pos, to_z, of_z, ◌∙◌, rules, arith}
use mir.Syntax.{w128}
use Rattle.std.specs.Int.{int_div_euclid}
use Rattle.std.proofs.lemmas.Int.{ints}
use Rattle.predicates.proofs.Sizes.{read_is}
use Rattle.measures.proofs.Means.{int_div_euclid-floor}
use Rattle.measures.proofs.mean.rounded_half_up.Goals as goal

pub returns : goal.returns
returns c =
    let dividend : to_z w128 (of_z w128 c.raised.result) ≡ pos 2 *ℤ c.args.sum +ℤ c.args.area = omega (arith, ints) in
    let divisor : to_z w128 (of_z w128 (pos 2 *ℤ to_z w128 (of_z w128 c.from.result))) ≡ pos 2 *ℤ c.args.area = omega (arith, ints) in
    let some : pos 0 <ℤ (pos 2 *ℤ c.args.area) = omega (arith, ints) in
    read_is w128 c.div_euclid.result _ (search rules) (c.div_euclid.ensures ∙ (λ i. int_div_euclid (dividend i) (divisor i)) ∙ int_div_euclid-floor (pos 2 *ℤ c.args.sum +ℤ c.args.area) (pos 2 *ℤ c.args.area) some)
