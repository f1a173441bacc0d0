use Rattle.mesh.specs.Meshes.{IsLive}
use Rattle.locate.proofs.walk.walk.Given as goal

abbrev pub invariant-loop-step : goal.invariant-loop-step
invariant-loop-step l = IsLive l.mesh.slots l.slot
