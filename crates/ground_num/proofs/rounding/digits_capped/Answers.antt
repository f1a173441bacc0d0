use Rattle.std.proofs.Common.{arith, ◌<◌, length}
use Rattle.std.proofs.lemmas.Int.Digits.{digits_value_more}
use Rattle.ground_num.proofs.Digits.{digit_there}
use Rattle.ground_num.proofs.rounding.digits_capped.Goals as goal

pub value_of-requires : goal.value_of-requires
value_of-requires c = digit_there c.args.digits.now c.loop-digit.digit-index c.requires (omega arith)

pub loop-digit-preserved : goal.loop-digit-preserved
loop-digit-preserved c =
    let within : c.loop-digit.digit-index < length c.args.digits.now = omega arith in
    omega (arith, digits_value_more 10 c.args.digits.now c.loop-digit.digit-index within, c.value_of.ensures.value)
