use Rattle.std.proofs.Common.{◌∙◌, ◌++◌, ◌∷◌, [], ap, subst}
use Rattle.landxml_surface.specs.declared.draft.Draft.{Draft}
use Rattle.landxml_surface.specs.Checked.{IsChecked}
use Rattle.landxml_surface.proofs.Drafted.{Takes, drafted}
use Rattle.landxml_surface.proofs.document.Surveyed.note.Goals as goal

pub returns-in_ok-push-in-Sound-clause-drafts : goal.returns-in_ok-push-in-Sound-clause-drafts
returns-in_ok-push-in-Sound-clause-drafts c none =
    let parts = subst (IsChecked c.args.rule c.args.surface) c.in-Sound.is c.in_ok-fault.ensures in
    let d = c.draft.ensures in
    let made : Takes c.args.unit c.args.surface.name c.in-Sound.parts c.draft.result = record { head = d.head; points = d.points; lines = d.lines; faces = d.faces; doubles = d.doubles; clashes = d.clashes; short = d.short } in
    c.in_ok-push-in-Sound.ensures.items ∙ ap (λ (d : Draft). c.args.self.now.drafts.items ++ d ∷ []) (drafted c.args.unit c.args.rule c.args.surface c.in-Sound.parts c.draft.result parts made)
