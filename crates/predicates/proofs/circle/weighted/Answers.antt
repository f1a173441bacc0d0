use Rattle.std.proofs.Common.{rules, ◌^◌, ◌*ℤ◌}
use Rattle.ground_model.proofs.ZOrder.{size-mul}
use Rattle.predicates.proofs.Sizes.{size_along}
use Rattle.predicates.proofs.circle.weighted.Goals as goal

pub overflow_mul-result : goal.overflow_mul-result
overflow_mul-result c = search rules

pub returns-clause-value : goal.returns-clause-value
returns-clause-value c = search rules

pub returns-clause-size : goal.returns-clause-size
returns-clause-size c = size_along _ (c.args.square *ℤ c.args.side) _ (returns-clause-value c) (size-mul c.args.square c.args.side (2 ^ 61) (2 ^ 61) c.requires.square c.requires.side)
