use Rattle.std.proofs.Common.{◌+◌, ◌-◌, ◌/◌, ◌<◌, length, arith}
use Rattle.page_index.proofs.Found.{searched_up, searched_down}
use Rattle.page_index.proofs.search.rank.Goals as goal

pub loop-low-preserved-then-pairs-middle : goal.loop-low-preserved-then-pairs-middle
loop-low-preserved-then-pairs-middle g c =
    let i = c.loop-low in
    let there : i.low + (i.high - i.low) / 2 < length c.args.pairs.now = omega (arith, c.loop-low-test.true, i.invariant.3) in
    (searched_up c.args.key c.args.pairs.now (i.low + (i.high - i.low) / 2) _ c.requires there c.if-pairs-middle.true, i.invariant.1, omega (arith, c.loop-low-test.true), i.invariant.3)

pub loop-low-preserved : goal.loop-low-preserved
loop-low-preserved g c =
    let i = c.loop-low in
    let there : i.low + (i.high - i.low) / 2 < length c.args.pairs.now = omega (arith, c.loop-low-test.true, i.invariant.3) in
    (i.invariant.0, searched_down c.args.key c.args.pairs.now (i.low + (i.high - i.low) / 2) _ c.requires there c.if-pairs-middle.false, omega (arith, c.loop-low-test.true), omega (arith, there))
