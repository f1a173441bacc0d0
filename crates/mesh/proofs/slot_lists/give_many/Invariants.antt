use Rattle.std.proofs.Common.{◌≤◌, ◌+◌, ◌*◌}
use Rattle.mesh.specs.SlotLists.{IsGivingBack}
use Rattle.mesh.proofs.slot_lists.give_many.Given as goal

abbrev pub invariant-loop-index : goal.invariant-loop-index
invariant-loop-index g l = IsGivingBack l.fn.pages l.pages l.slots l.was.items l.index × (l.steps ≤ l.fn.steps + 2 * l.index)
