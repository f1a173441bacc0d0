use Rattle.std.proofs.Common.{◌≡◌, ◌<◌, ◌≤◌, ◌+◌, ◌*◌, ℕ, Some}
use Rattle.std.specs.List.{slice_get}
use Rattle.tri_pages.specs.declared.tri_slot.TriSlot.{TriSlot}
use Rattle.mesh.specs.Faces.{KeepsFaces}
use Rattle.mesh.specs.Laying.{layout}
use Rattle.mesh.specs.Net.{edges_of, slots_of}
use Rattle.mesh.specs.Turning.{AreLedOn, IsTurnedRound}
use Rattle.mesh.proofs.turn.turn_all.Given as goal

abbrev pub invariant-loop-index : goal.invariant-loop-index
invariant-loop-index g l =
    AreLedOn (layout l.news l.slots l.was) (edges_of (slots_of l.fn.pages)) (edges_of (slots_of l.pages))
    × KeepsFaces l.fn.pages l.pages
    × ((i : ℕ) (t : TriSlot) → i < l.index → slice_get l.over i ≡ Some t → IsTurnedRound (layout l.news l.slots l.was) (edges_of (slots_of l.pages)) t)
    × (l.steps ≤ l.fn.steps + 6 * l.index)
