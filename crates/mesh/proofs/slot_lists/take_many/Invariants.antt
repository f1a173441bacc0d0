use Rattle.std.proofs.Common.{◌≡◌, ◌≤◌, ◌+◌, length}
use Rattle.mesh.specs.SlotLists.{IsTakingMany}
use Rattle.mesh.proofs.slot_lists.take_many.Given as goal

abbrev pub invariant-loop-done : goal.invariant-loop-done
invariant-loop-done g l = IsTakingMany l.fn.pages l.pages l.slots.items × (length l.slots.items ≡ l.done) × (l.steps ≤ l.fn.steps + l.done)
