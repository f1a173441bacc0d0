use Rattle.std.proofs.Common.{◌≡◌, ◌-ℤ◌, ◌*ℤ◌, to_z, of_z, w64, arith, ◌∙◌, rules}
use mir.Syntax.{w128}
use Rattle.std.proofs.lemmas.Int.{ints}
use Rattle.ground_model.specs.Side.{side}
use Rattle.predicates.proofs.Sizes.{read_op, size_along}
use Rattle.rings.proofs.tripled.side.Goals as goal

pub times-requires-2-clause-x : goal.times-requires-2-clause-x
times-requires-2-clause-x c = omega (arith, ints)

pub times-requires-2-clause-y : goal.times-requires-2-clause-y
times-requires-2-clause-y c = omega (arith, ints)

pub overflow_sub-result : goal.overflow_sub-result
overflow_sub-result c = omega (arith, ints)

pub returns-clause-value : goal.returns-clause-value
unfolding side
returns-clause-value c =
    let be : to_z w64 (of_z w64 (to_z w64 (of_z w64 c.b.inside.e) -ℤ to_z w64 (of_z w64 c.a.inside.e))) ≡ c.b.inside.e -ℤ c.a.inside.e = omega (arith, ints) in
    let bn : to_z w64 (of_z w64 (to_z w64 (of_z w64 c.b.inside.n) -ℤ to_z w64 (of_z w64 c.a.inside.n))) ≡ c.b.inside.n -ℤ c.a.inside.n = omega (arith, ints) in
    let ce : to_z w64 (of_z w64 (to_z w64 (of_z w64 c.c.inside.e) -ℤ to_z w64 (of_z w64 c.a.inside.e))) ≡ c.c.inside.e -ℤ c.a.inside.e = omega (arith, ints) in
    let cn : to_z w64 (of_z w64 (to_z w64 (of_z w64 c.c.inside.n) -ℤ to_z w64 (of_z w64 c.a.inside.n))) ≡ c.c.inside.n -ℤ c.a.inside.n = omega (arith, ints) in
    let left = c.times.ensures.value ∙ (λ i. be i *ℤ cn i) in
    let right = c.times-2.ensures.value ∙ (λ i. bn i *ℤ ce i) in
    read_op ◌-ℤ◌ w128 c.times.result c.times-2.result (search rules) (search rules) (omega (arith, ints))
    ∙ (λ i. left i -ℤ right i) ∙ (λ i. side (c.a.view_is i) (c.b.view_is i) (c.c.view_is i))

pub returns-clause-size : goal.returns-clause-size
returns-clause-size c = size_along _ (c.times.result -ℤ c.times-2.result) _
    (read_op ◌-ℤ◌ w128 c.times.result c.times-2.result (search rules) (search rules) (omega (arith, ints)))
    (omega (arith, ints))
