use Rattle.std.proofs.Common.{arith}
use Rattle.landxml_write.proofs.Digits.{one_digit, one_digit_more, few_digits}
use Rattle.landxml_write.proofs.counter.digits.Goals as goal

pub overflow_add-count : goal.overflow_add-count
overflow_add-count c = omega (arith, c.loop-rest.invariant.0, few_digits c.args.number c.ranges.number.fits)

pub loop-rest-preserved : goal.loop-rest-preserved
loop-rest-preserved c =
    (omega (arith, c.loop-rest.invariant.0, one_digit_more c.loop-rest.rest c.loop-rest-test.true c.loop-rest.invariant.1), omega (arith, c.loop-rest.invariant.1))

pub returns-clause-count : goal.returns-clause-count
returns-clause-count c = omega (arith, c.loop-rest.invariant.0, one_digit c.loop-rest.rest c.loop-rest-test.false)

pub returns-clause-fits : goal.returns-clause-fits
returns-clause-fits c = omega (arith, c.loop-rest.invariant.0, one_digit c.loop-rest.rest c.loop-rest-test.false, few_digits c.args.number c.ranges.number.fits)
