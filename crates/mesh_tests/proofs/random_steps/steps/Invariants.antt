use Rattle.mesh.specs.Sheets.{IsSheetMesh}
use Rattle.mesh.specs.Suspects.{AreSuspects}
use Rattle.mesh_tests.proofs.random_steps.steps.Given as goal

abbrev pub invariant-loop : goal.invariant-loop
invariant-loop g l = IsSheetMesh l.mesh.slots × AreSuspects l.mesh.slots l.script
