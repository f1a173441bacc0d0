use Rattle.std.proofs.Common.{◌≡◌, length, arith}
use Rattle.page_index.proofs.Kids.{between_all, between_one}
use Rattle.page_index.proofs.node.place_of.Goals as goal

pub loop-high-init : goal.loop-high-init
loop-high-init g c =
    let long : c.len-high.result ≡ length c.args.kids.now.items = omega (arith, c.len-high.ensures, c.args.kids.now.ok) in
    between_all c.args.key c.args.kids.now.items c.len-high.result (omega (arith, c.requires, long)) long

pub returns : goal.returns
returns g c = between_one c.args.key c.loop-high.low c.loop-high.high c.args.kids.now.items c.loop-high.invariant (omega (arith, c.loop-high-test.false))
