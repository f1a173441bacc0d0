use Rattle.std.proofs.Common.{◌≡◌, ap, sym, subst, ◌∙◌}
use Rattle.ground_model.specs.declared.edit.Edit.TheVariants.{AddLine}
use Rattle.ground_model.specs.History.{content_of}
use Rattle.ground_model.specs.Refusal.{edit_refusal}
use Rattle.ground_model.specs.Planar.{IsPlanar}
use Rattle.ground_model.proofs.Planar.{planar-legal}
use Rattle.store.specs.Versions.{newest_refusal}
use Rattle.store.proofs.Removals.{line-cause}
use Rattle.store.proofs.state.State.line_added.Goals as goal

pub line_refusal-requires-clause-planar : goal.line_refusal-requires-clause-planar
line_refusal-requires-clause-planar c = subst IsPlanar (sym (ap (λ made. made.surface) c.get.ensures ∙ c.self.invariant.content)) (planar-legal c.self.inside.limits c.self.inside.log c.self.invariant.legal)

pub returns-in-Some-clause-outcome : goal.returns-in-Some-clause-outcome
returns-in-Some-clause-outcome c =
    let own : c.in_ok-own.own ≡ edit_refusal (content_of c.args.self.now.journal.entries) c.args.self.now.journal.limits (AddLine c.args.kind c.args.places.now) =
    rw (← c.self.view_is) (line-cause _ _ _ _ _ _ _ c.in_ok-own.ensures.value c.in_ok-line.ensures.line (ap (λ made. made.surface) c.get.ensures ∙ c.self.invariant.content)) in
    ap (newest_refusal c.args.self.now.journal) c.requires ∙ sym (c.in-Some.ensures.value (AddLine c.args.kind c.args.places.now) own)

pub made_by-requires-clause-lawful : goal.made_by-requires-clause-lawful
made_by-requires-clause-lawful c =
    let own : c.in_ok-own.own ≡ edit_refusal (content_of c.args.self.now.journal.entries) c.args.self.now.journal.limits (AddLine c.args.kind c.args.places.now) =
    rw (← c.self.view_is) (line-cause _ _ _ _ _ _ _ c.in_ok-own.ensures.value c.in_ok-line.ensures.line (ap (λ made. made.surface) c.get.ensures ∙ c.self.invariant.content)) in
    ap (newest_refusal c.args.self.now.journal) c.requires ∙ sym (c.in_default.ensures.value (AddLine c.args.kind c.args.places.now) own)
