use Rattle.std.proofs.Common.{◌^◌, ◌*ℤ◌, lit<}
use mir.Syntax.{w128}
use Rattle.std.proofs.lemmas.Int.{fits_signed_mul}
use Rattle.ground_model.proofs.ZOrder.{size-mul}
use Rattle.predicates.proofs.Sizes.{read_op, size_along}
use Rattle.measures.proofs.cap.product.Goals as goal

pub returns-clause-value : goal.returns-clause-value
returns-clause-value c = read_op ◌*ℤ◌ w128 c.args.size c.args.height c.ranges.size c.ranges.height (fits_signed_mul w128 c.args.size c.args.height (2 ^ 61) (2 ^ 27) c.requires.size c.requires.height (lit< tt))

pub returns-clause-size : goal.returns-clause-size
returns-clause-size c = size_along _ (c.args.size *ℤ c.args.height) _ (returns-clause-value c) (size-mul c.args.size c.args.height (2 ^ 61) (2 ^ 27) c.requires.size c.requires.height)
