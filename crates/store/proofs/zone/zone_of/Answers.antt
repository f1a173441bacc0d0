use Rattle.std.proofs.Common.{ap, sym, ◌∙◌, ◌∷◌}
use Rattle.std.specs.Prelude.{map}
use Rattle.ground_model.specs.declared.mark.Mark.TheVariants.{Point, Tri}
use Rattle.ground_model.specs.Zone.{zone, shaken}
use Rattle.store.proofs.Oks.{ok_map}
use Rattle.store.proofs.Zones.{zone-set, zone-removed, zone-added, zone-line, zone-unline}
use Rattle.store.proofs.zone.zone_of.Goals as goal

pub returns-in-SetLevel-clause-value : goal.returns-in-SetLevel-clause-value
returns-in-SetLevel-clause-value c = ok_map _ _ c.point_mark.result (λ marks is. is ∙ zone-set c.args.before.now c.in-SetLevel.place c.in-SetLevel.field-1 ∙ ap (zone c.args.before.now) (sym c.in-SetLevel.is)) c.point_mark.ensures

pub returns-in_ok-shaken_marks-in-RemovePoint-clause-value : goal.returns-in_ok-shaken_marks-in-RemovePoint-clause-value
returns-in_ok-shaken_marks-in-RemovePoint-clause-value c =
    ok_map _ _ c.with_point.result (λ marks is.
    is ∙ ap (λ ms. Point c.in-RemovePoint.place ∷ ms) (c.in_ok-shaken_marks-in-RemovePoint.ensures.value c.args.edit.now c.requires ∙ ap (λ e. map Tri (shaken c.args.before.now e)) c.in-RemovePoint.is)
    ∙ zone-removed c.args.before.now c.in-RemovePoint.place ∙ ap (zone c.args.before.now) (sym c.in-RemovePoint.is)) c.with_point.ensures

pub returns-in-AddPoint-clause-value : goal.returns-in-AddPoint-clause-value
returns-in-AddPoint-clause-value c = ok_map _ _ c.shaken_marks-in-AddPoint.result (λ marks is. is c.args.edit.now c.requires ∙ ap (λ e. map Tri (shaken c.args.before.now e)) c.in-AddPoint.is ∙ zone-added c.args.before.now _ _ ∙ ap (zone c.args.before.now) (sym c.in-AddPoint.is)) c.shaken_marks-in-AddPoint.ensures.value

pub returns-in-AddLine-clause-value : goal.returns-in-AddLine-clause-value
returns-in-AddLine-clause-value c = ok_map _ _ c.shaken_marks-in-AddLine.result (λ marks is. is c.args.edit.now c.requires ∙ ap (λ e. map Tri (shaken c.args.before.now e)) c.in-AddLine.is ∙ zone-line c.args.before.now _ _ ∙ ap (zone c.args.before.now) (sym c.in-AddLine.is)) c.shaken_marks-in-AddLine.ensures.value

pub returns-in-RemoveLine-clause-value : goal.returns-in-RemoveLine-clause-value
returns-in-RemoveLine-clause-value c = ok_map _ _ c.shaken_marks-in-RemoveLine.result (λ marks is. is c.args.edit.now c.requires ∙ ap (λ e. map Tri (shaken c.args.before.now e)) c.in-RemoveLine.is ∙ zone-unline c.args.before.now _ ∙ ap (zone c.args.before.now) (sym c.in-RemoveLine.is)) c.shaken_marks-in-RemoveLine.ensures.value
