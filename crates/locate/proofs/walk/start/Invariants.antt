use Rattle.std.specs.Prelude.{ℕ, ◌<◌}
use Rattle.mesh.specs.Meshes.{IsLive}
use Rattle.locate.proofs.walk.start.Given as goal

abbrev pub invariant-loop-slot : goal.invariant-loop-slot
invariant-loop-slot l = (s : ℕ) → s < l.slot → IsLive l.mesh.slots s → ⊥
