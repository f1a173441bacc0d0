use Rattle.predicates.specs.Sheet.{IsLocallyDelaunay}
use Rattle.mesh.specs.Sheets.{IsSheetMesh, net_in}
use Rattle.mesh_tests.proofs.pairs.count_edge.Given as goal

abbrev pub invariant-loop-k : goal.invariant-loop-k
invariant-loop-k g l = IsSheetMesh l.mesh.slots × IsLocallyDelaunay (net_in l.mesh.slots)
