use Rattle.mesh.specs.Sheets.{IsSheetMesh}
use Rattle.mesh_tests.proofs.undone.step_undone_leaves_the_net.Given as goal

abbrev pub invariant-loop-k : goal.invariant-loop-k
invariant-loop-k g l = IsSheetMesh l.mesh.slots

abbrev pub invariant-loop-k-2 : goal.invariant-loop-k-2
invariant-loop-k-2 g l = IsSheetMesh l.mesh.slots
