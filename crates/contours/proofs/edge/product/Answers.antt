use Rattle.std.proofs.Common.{◌^◌, ◌*ℤ◌, w64, lit<}
use Rattle.std.proofs.lemmas.Int.{fits_signed_mul}
use Rattle.ground_model.proofs.ZOrder.{size-mul}
use Rattle.predicates.proofs.Sizes.{read_op, size_along}
use Rattle.contours.proofs.edge.product.Goals as goal

pub returns-clause-value : goal.returns-clause-value
returns-clause-value c = read_op ◌*ℤ◌ w64 c.args.gap c.args.rise c.ranges.gap c.ranges.rise (fits_signed_mul w64 c.args.gap c.args.rise (2 ^ 30) (2 ^ 27) c.requires.gap c.requires.rise (lit< tt))

pub returns-clause-size : goal.returns-clause-size
returns-clause-size c = size_along _ (c.args.gap *ℤ c.args.rise) _ (returns-clause-value c) (size-mul c.args.gap c.args.rise (2 ^ 30) (2 ^ 27) c.requires.gap c.requires.rise)
