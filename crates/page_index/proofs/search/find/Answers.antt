use Rattle.std.proofs.Common.{◌<◌, length, arith}
use Rattle.page_index.proofs.Found.{found, gap}
use Rattle.page_index.proofs.search.find.Goals as goal

pub returns-then-pairs-k-clause-found : goal.returns-then-pairs-k-clause-found
returns-then-pairs-k-clause-found g c =
    let there : c.rank-k.result < length c.args.pairs.now = omega (arith, c.rank-k.ensures.bound, c.if-k-pairs.false) in
    found c.args.key c.args.pairs.now c.rank-k.result _ c.requires there c.if-pairs-k.true c.rank-k.ensures.below

pub returns-else-pairs-k-clause-gap : goal.returns-else-pairs-k-clause-gap
returns-else-pairs-k-clause-gap g c =
    let there : c.rank-k.result < length c.args.pairs.now = omega (arith, c.rank-k.ensures.bound, c.if-k-pairs.false) in
    gap c.args.key c.args.pairs.now c.rank-k.result _ c.requires there c.if-pairs-k.false c.rank-k.ensures.below c.rank-k.ensures.rest
