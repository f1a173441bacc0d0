use Rattle.mesh.proofs.EdgeSearches.{none_further, none_at_all}
use Rattle.mesh.proofs.edge_find.find_edge.Goals as goal

pub loop-index-preserved : goal.loop-index-preserved
loop-index-preserved c = none_further c.args.tris.now c.loop-index.index c.tri_at-t.result c.args.tail.now c.args.head.now c.loop-index.invariant c.tri_at-t.ensures c.in_default.ensures.none

pub returns-clause-none : goal.returns-clause-none
returns-clause-none c = none_at_all c.args.tris.now c.loop-index.index c.args.tail.now c.args.head.now c.loop-index.invariant c.loop-index-test.false
