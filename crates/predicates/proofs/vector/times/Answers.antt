use Rattle.std.proofs.Common.{◌^◌, ◌*ℤ◌, w64, lit<}
use Rattle.std.proofs.lemmas.Int.{fits_signed_mul}
use Rattle.ground_model.proofs.ZOrder.{size-mul}
use Rattle.predicates.proofs.Sizes.{read_op, size_along}
use Rattle.predicates.proofs.vector.times.Goals as goal

pub returns-clause-value : goal.returns-clause-value
returns-clause-value c = read_op ◌*ℤ◌ w64 c.args.x c.args.y c.ranges.x c.ranges.y (fits_signed_mul w64 c.args.x c.args.y (2 ^ 30) (2 ^ 30) c.requires.x c.requires.y (lit< tt))

pub returns-clause-size : goal.returns-clause-size
returns-clause-size c = size_along _ (c.args.x *ℤ c.args.y) _ (returns-clause-value c) (size-mul c.args.x c.args.y (2 ^ 30) (2 ^ 30) c.requires.x c.requires.y)
