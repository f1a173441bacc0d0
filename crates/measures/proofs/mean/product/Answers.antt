use Rattle.std.proofs.Common.{◌^◌, ◌*ℤ◌, lit<}
use mir.Syntax.{w128}
use Rattle.std.proofs.lemmas.Int.{fits_signed_mul}
use Rattle.ground_model.proofs.ZOrder.{size-mul}
use Rattle.predicates.proofs.Sizes.{read_op, size_along}
use Rattle.measures.proofs.mean.product.Goals as goal

pub returns-clause-value : goal.returns-clause-value
returns-clause-value c = read_op ◌*ℤ◌ w128 c.args.level c.args.side c.ranges.level c.ranges.side (fits_signed_mul w128 c.args.level c.args.side (2 ^ 26) (2 ^ 61) c.requires.level c.requires.side (lit< tt))

pub returns-clause-size : goal.returns-clause-size
returns-clause-size c = size_along _ (c.args.level *ℤ c.args.side) _ (returns-clause-value c) (size-mul c.args.level c.args.side (2 ^ 26) (2 ^ 61) c.requires.level c.requires.side)
