use Rattle.std.proofs.Common.{◌^◌, ◌*◌, ◌*ℤ◌, lit<}
use mir.Syntax.{w128}
use Rattle.std.proofs.lemmas.Int.{fits_signed_mul}
use Rattle.ground_model.proofs.ZOrder.{size-mul}
use Rattle.predicates.proofs.Sizes.{read_op, size_along}
use Rattle.measures.proofs.part.net_of.Goals as goal

pub returns-clause-value : goal.returns-clause-value
returns-clause-value c = read_op ◌*ℤ◌ w128 c.args.area c.args.sum c.ranges.area c.ranges.sum (fits_signed_mul w128 c.args.area c.args.sum (2 ^ 61) (3 * 2 ^ 27) c.requires.area c.requires.sum (lit< tt))

pub returns-clause-size : goal.returns-clause-size
returns-clause-size c = size_along _ (c.args.area *ℤ c.args.sum) _ (returns-clause-value c) (size-mul c.args.area c.args.sum (2 ^ 61) (3 * 2 ^ 27) c.requires.area c.requires.sum)
