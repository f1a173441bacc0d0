use Rattle.std.proofs.Common.{◌≡◌, ◌≤◌, ◌^◌, ◌+ℤ◌, ◌-ℤ◌, ◌*ℤ◌, unsigned_abs, ◌∙◌, arith, rules, w64}
use Rattle.std.proofs.lemmas.Int.{ints, to_z-of_z}
use Rattle.ground_model.specs.Rounding.{rounded_half_up}
use Rattle.predicates.proofs.Sizes.{read_is, read_op, size_along}
use Rattle.contours.proofs.Along.{along_size, part_size}
use Rattle.contours.proofs.edge.along.Goals as goal

part_is : (c : goal.After-rounded_half_up) → c.rounded_half_up.result ≡ rounded_half_up ((c.args.to -ℤ c.args.from) *ℤ c.args.rise) c.args.whole
part_is c =
    let gap = read_op ◌-ℤ◌ w64 c.args.to c.args.from c.ranges.to c.ranges.from (search rules) in
    let rise = to_z-of_z w64 c.args.rise c.ranges.rise in
    let whole = to_z-of_z w64 c.args.whole c.ranges.whole in
    let product = read_is w64 c.product.result _ (search rules) (c.product.ensures.value ∙ (λ i. gap i *ℤ rise i)) in
    c.rounded_half_up.ensures ∙ (λ i. rounded_half_up (product i) (whole i))

size : (c : goal.After-rounded_half_up) → unsigned_abs c.rounded_half_up.result ≤ 2 ^ 30
size c = size_along _ (rounded_half_up ((c.args.to -ℤ c.args.from) *ℤ c.args.rise) c.args.whole) _ (part_is c) (part_size (2 ^ 29) c.args.from c.args.to c.args.rise c.args.whole c.requires.from c.requires.to c.requires.rise c.requires.within c.requires.some)

pub overflow_add-result : goal.overflow_add-result
overflow_add-result c = omega (arith, ints, size c, c.requires.from)

pub returns-clause-value : goal.returns-clause-value
returns-clause-value c =
    read_op ◌+ℤ◌ w64 c.args.from c.rounded_half_up.result c.ranges.from (search rules) (omega (arith, ints, size c, c.requires.from))
    ∙ (λ i. c.args.from +ℤ part_is c i)

pub returns-clause-size : goal.returns-clause-size
returns-clause-size c = size_along _ (c.args.from +ℤ rounded_half_up ((c.args.to -ℤ c.args.from) *ℤ c.args.rise) c.args.whole) _ (returns-clause-value c) (along_size (2 ^ 29) c.args.from c.args.to c.args.rise c.args.whole c.requires.from c.requires.to c.requires.rise c.requires.within c.requires.some)
