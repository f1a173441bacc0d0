use Rattle.ground_num.proofs.Digits.{digit_front, digit_behind}
use Rattle.ground_num.proofs.rounding.digit_at.Goals as goal

pub value_of-requires : goal.value_of-requires
value_of-requires c = digit_front c.args.whole.now c.args.fraction.now c.args.offset c.requires.digits c.if-offset-whole.true

pub value_of-requires-else-offset-whole : goal.value_of-requires-else-offset-whole
value_of-requires-else-offset-whole c = digit_behind c.args.whole.now c.args.fraction.now c.args.offset c.requires.digits c.if-offset-whole.false c.requires.within
