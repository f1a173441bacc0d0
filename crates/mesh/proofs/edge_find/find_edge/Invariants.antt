use Rattle.mesh.specs.EdgeSearch.{HasNoneBefore}
use Rattle.mesh.proofs.edge_find.find_edge.Given as goal

abbrev pub invariant-loop-index : goal.invariant-loop-index
invariant-loop-index l = HasNoneBefore l.tris l.index l.tail l.head
