use Rattle.std.proofs.Common.{arith, ◌∙◌, ◌^◌}
use Rattle.ground_num.proofs.Digits.{ten_times, enough_zeros}
use Rattle.ground_num.proofs.rounding.with_zeros.Goals as goal

pub loop-i-preserved : goal.loop-i-preserved
loop-i-preserved c = omega (arith, ten_times (10 ^ 12) c.loop-i.raised c.args.number c.loop-i.i c.loop-i.invariant)

pub returns : goal.returns
returns c = c.loop-i.invariant ∙ enough_zeros c.args.number c.args.zeros c.loop-i.i (omega arith) (omega arith)
