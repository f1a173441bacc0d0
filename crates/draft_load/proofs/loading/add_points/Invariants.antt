use Rattle.std.proofs.Common.{take}
use Rattle.std.specs.Prelude.{map}
use Rattle.document_law.specs.Reloaded.{point_edit}
use Rattle.draft_load.specs.Loads.{Loads}
use Rattle.draft_load.proofs.loading.add_points.Given as goal

abbrev pub invariant-loop-point : goal.invariant-loop-point
invariant-loop-point l = Loads l.fn.store.journal l.store.journal (map point_edit (take l.point-index l.points))
