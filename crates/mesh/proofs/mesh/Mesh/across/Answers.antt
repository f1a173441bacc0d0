use Rattle.std.proofs.Common.{◌≡◌, Some, IfSome, ap, subst}
use Rattle.tri_pages.specs.declared.tri_slot.TriSlot.{TriSlot}
use Rattle.tri_pages.specs.Slots.{triangle_at}
use Rattle.mesh.specs.Acrosses.{IsAcross}
use Rattle.mesh.specs.Net.{side}
use Rattle.mesh.proofs.mesh.Mesh.across.Goals as goal

pub returns-clause-across : goal.returns-clause-across
returns-clause-across c =
    subst (λ ps. IfSome c.across_on.result (λ x. (t : TriSlot) → triangle_at ps c.args.slot ≡ Some t → IsAcross ps t (side c.args.edge) x.slot x.tri (side x.edge)))
    (ap (λ m. m.slots) c.self.view_is) c.across_on.ensures.across
