use Rattle.std.proofs.Common.{◌+◌, refl}
use Rattle.mesh.specs.Suspects.{IsDoneAt}
use Rattle.mesh.proofs.TurnedSlots.{by_side}
use Rattle.mesh.proofs.legalize.due_edge.Goals as goal

pub returns-clause-done : goal.returns-clause-done
returns-clause-done g c = λ s at. by_side (λ k. IsDoneAt c.args.pages.now c.args.script.now (c.args.index + 1) s k) (c.if-is_due.ensures.no refl s at) (c.if-is_due-2.ensures.no refl s at) (c.if-is_due-3.ensures.no refl s at)
