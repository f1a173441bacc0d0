use Rattle.std.proofs.Common.{arith}
use Rattle.ground_num.proofs.Digits.{to_the_right, to_the_left, out_to_the_left}
use Rattle.ground_num.proofs.rounding.magnitude_of.Goals as goal

pub returns-then-not-is_left-clause-right : goal.returns-then-not-is_left-clause-right
returns-then-not-is_left-clause-right c right _ e =
    to_the_right c.args.whole.now c.args.fraction.now c.args.moved right c.saturating_add.result c.at_point.result c.requires.digits c.requires.short e (omega arith) c.at_point.ensures

pub returns-then-moved-before-clause-left : goal.returns-then-moved-before-clause-left
returns-then-moved-before-clause-left c left _ e =
    out_to_the_left c.args.whole.now c.args.fraction.now c.args.moved left c.requires.digits e (omega arith)

pub returns-else-moved-before-clause-left : goal.returns-else-moved-before-clause-left
returns-else-moved-before-clause-left c left _ e =
    to_the_left c.args.whole.now c.args.fraction.now c.args.moved left c.at_point-else-moved-before.result c.requires.digits (omega arith) e (omega arith) c.at_point-else-moved-before.ensures
