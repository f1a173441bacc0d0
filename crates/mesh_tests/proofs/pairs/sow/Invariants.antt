use Rattle.predicates.specs.Sheet.{IsLocallyDelaunay}
use Rattle.mesh.specs.Sheets.{IsSheetMesh, net_in}
use Rattle.mesh_tests.proofs.pairs.sow.Given as goal

abbrev pub invariant-loop-at : goal.invariant-loop-at
invariant-loop-at g l = IsSheetMesh l.mesh.slots × IsLocallyDelaunay (net_in l.mesh.slots)
