use Rattle.std.proofs.Common.{ap, subst}
use Rattle.mesh.specs.Stamps.{IsStamped}
use Rattle.mesh.proofs.StepSheets.{stamp_sheet}
use Rattle.mesh.proofs.mesh.Mesh.stamp.Goals as goal

pub returns-clause-sheet : goal.returns-clause-sheet
returns-clause-sheet g c =
    let new = c.stamp_slot.new.pages in
    let done = c.in_ok-stamp_slot.ensures in
    stamp_sheet c.args.self.now.slots new c.args.slot c.args.front c.requires.sheet done.mesh (subst (λ ps. IsStamped ps new c.args.slot c.args.front) (ap (λ m. m.slots) c.self.view_is) done.stamped)
