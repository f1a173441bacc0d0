use Rattle.std.proofs.Common.{◌+◌, ◌*◌, ◌-◌, length}
use Rattle.mesh.specs.FlipRuns.{FlipRun, volume_of}
use Rattle.mesh.specs.Sheets.{IsSheetMesh}
use Rattle.mesh.specs.Suspects.{AreSuspectsFrom}
use Rattle.mesh.proofs.mesh.Mesh.legalize.Given as goal

abbrev pub invariant-loop-index : goal.invariant-loop-index
invariant-loop-index l = IsSheetMesh l.self.slots × AreSuspectsFrom l.self.slots l.script l.index × FlipRun l.fn.self l.self l.fn.script l.script

abbrev pub decreases-loop-index : goal.decreases-loop-index
decreases-loop-index l = 2 * volume_of l.self.slots + (length l.script - l.index)
