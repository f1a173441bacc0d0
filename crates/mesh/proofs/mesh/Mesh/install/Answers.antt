use Rattle.std.proofs.Common.{ap, subst}
use Rattle.mesh.specs.Installs.{IsInstalled}
use Rattle.mesh.proofs.StepSheets.{install_sheet}
use Rattle.mesh.proofs.mesh.Mesh.install.Goals as goal

pub returns-clause-sheet : goal.returns-clause-sheet
returns-clause-sheet g c =
    let new = c.install_slots.new.pages in
    let olds = c.args.old.now in
    let patch = c.args.patch.now in
    let done = c.in_ok-install_slots.ensures in
    install_sheet c.args.self.now.slots new olds patch c.args.front c.requires.sheet done.mesh (subst (λ ps. IsInstalled ps new olds patch c.args.front) (ap (λ m. m.slots) c.self.view_is) done.installed) c.requires.turned
