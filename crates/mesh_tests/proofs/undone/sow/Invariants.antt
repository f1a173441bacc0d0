use Rattle.mesh.specs.Sheets.{IsSheetMesh}
use Rattle.mesh_tests.proofs.undone.sow.Given as goal

abbrev pub invariant-loop-k : goal.invariant-loop-k
invariant-loop-k g l = IsSheetMesh l.mesh.slots
