use Rattle.std.proofs.Common.{◌-ℤ◌, ◌*ℤ◌, w64, arith, ◌∙◌, rules}
use Rattle.std.proofs.lemmas.Int.{ints}
use Rattle.predicates.proofs.Sizes.{read_op, read_both, size_along}
use Rattle.predicates.proofs.vector.Vector.cross.Goals as goal

pub returns-clause-value : goal.returns-clause-value
returns-clause-value c =
    let across = c.times.ensures.value ∙ read_both ◌*ℤ◌ w64 c.args.self.e c.args.other.n (omega (arith, ints)) (omega (arith, ints)) in
    let along = c.times-2.ensures.value ∙ read_both ◌*ℤ◌ w64 c.args.self.n c.args.other.e (omega (arith, ints)) (omega (arith, ints)) in
    read_op ◌-ℤ◌ w64 c.times.result c.times-2.result (search rules) (search rules) (omega (arith, ints)) ∙ (λ i. across i -ℤ along i)

pub returns-clause-size : goal.returns-clause-size
returns-clause-size c = size_along _ (c.times.result -ℤ c.times-2.result) _
    (read_op ◌-ℤ◌ w64 c.times.result c.times-2.result (search rules) (search rules) (omega (arith, ints)))
    (omega (arith, ints))

pub overflow_sub-result : goal.overflow_sub-result
overflow_sub-result c = search rules
