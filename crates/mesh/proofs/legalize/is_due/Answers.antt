use Rattle.std.proofs.Common.{◌+◌, refl, sym, ◌∙◌, subst}
use Rattle.mesh.specs.Net.{side}
use Rattle.mesh.specs.Suspects.{IsNamedFrom, IsLegalAt}
use Rattle.mesh.proofs.Legality.{done_later, done_legal}
use Rattle.mesh.proofs.NamedEdges.{same_in}
use Rattle.mesh.proofs.legalize.is_due.Goals as goal

pub returns-then-stands_soon-clause-no : goal.returns-then-stands_soon-clause-no
returns-then-stands_soon-clause-no g c = λ _ s at.
    done_later c.args.pages.now c.requires.sheet.mesh c.args.script.now (c.args.index + 1) s c.args.here.now (side c.args.edge) (c.requires.here s at)
    (subst (λ n. IsNamedFrom c.args.script.now (c.args.index + 1) n) c.seen_from-seen.ensures.beyond_ab (c.if-stands_soon.ensures refl))

pub returns-clause-no : goal.returns-clause-no
returns-clause-no g c = λ no s at.
    let same = same_in c.slot_at-slot.result s (sym c.slot_at-slot.ensures ∙ at) in
    done_legal c.args.pages.now c.requires.sheet.mesh c.args.script.now (c.args.index + 1) s (side c.args.edge)
    (subst (λ i. IsLegalAt c.args.pages.now i (side c.args.edge)) same (c.is_illegal.ensures.no no))
