use Rattle.std.proofs.Common.{◌≡◌, ◌∙◌, ◌++◌, ◌∷◌, [], sym, ap, List, append-nil}
use Rattle.std.specs.Prelude.{Option}
use Rattle.std.proofs.lemmas.List.{map-append}
use Rattle.std.proofs.lemmas.Grind.{flat_map-append}
use Rattle.landxml_read.specs.declared.fault.DocFault.{DocFault}
use Rattle.landxml_surface.specs.declared.draft.Draft.{Draft}
use Rattle.landxml_surface.specs.Drafts.{draft_of, document_faults}
use Rattle.landxml_surface.specs.Faults.{surface_faults, earlier_fault, least_of}
use Rattle.landxml_surface.proofs.Least.{least-append, both-none}
use Rattle.landxml_surface.proofs.document.surfaces.Goals as goal

pub loop-surface-preserved : goal.loop-surface-preserved
loop-surface-preserved c =
    let before = c.loop-surface.yielded in
    let s = c.in-Some.surface in
    let inv = c.loop-surface.invariant in
    let split : least_of (document_faults c.args.rule (before ++ s ∷ [])) ≡ earlier_fault (least_of (document_faults c.args.rule before)) (least_of (surface_faults c.args.rule s)) =
    ap least_of (flat_map-append (surface_faults c.args.rule) before (s ∷ []) ∙ ap (λ (fs : List DocFault). document_faults c.args.rule before ++ fs) (append-nil (surface_faults c.args.rule s)))
    ∙ least-append (document_faults c.args.rule before) (surface_faults c.args.rule s) in (
      c.in-Ok.ensures.least ∙ ap (λ (f : Option DocFault). earlier_fault f (least_of (surface_faults c.args.rule s))) inv.0 ∙ sym split,
      λ none.
          let both = both-none (least_of (document_faults c.args.rule before)) (least_of (surface_faults c.args.rule s)) (sym split ∙ none) in
          c.in-Ok.ensures.drafts both.1 ∙ ap (λ (ds : List Draft). ds ++ draft_of c.args.doc.unit c.args.rule s ∷ []) (inv.1 both.0) ∙ sym (map-append (draft_of c.args.doc.unit c.args.rule) before (s ∷ [])),
    )
