use Rattle.std.proofs.Common.{◌≡◌, sym, ap, ◌∙◌, rules, true, Some, None}
use Rattle.std.specs.Prelude.{is_some}
use Rattle.ground_model.specs.declared.refusal.Refusal.TheVariants.{Joint}
use Rattle.ground_model.specs.Content.{level_of}
use Rattle.ground_model.specs.Refusal.{because, id}
use Rattle.ground_model.specs.Table.{least_where}
use Rattle.ground_model.specs.Line.{has_place}
use Rattle.store.proofs.Removals.{joint-removed, removal-joint}
use Rattle.store.proofs.surface.Surface.removal_refusal.Goals as goal

pub returns-in-Some-joint : goal.returns-in-Some-joint
returns-in-Some-joint c limits =
    let there : is_some (level_of c.args.self.now c.args.place) ≡ true = search rules in
    let held : least_where (has_place c.args.place) c.args.self.now.table ≡ None = sym (c.in_default.ensures ∙ ap (least_where (has_place c.args.place)) c.lines.ensures) in
    sym (removal-joint c.args.self.now limits c.args.place there held
    ∙ ap (because (λ pair. Joint (id pair.0) (id pair.1))) (sym (joint-removed c.args.self.now c.lines-in_default.result.now c.args.place (Some (c.in-Some-joint.least.0, c.in-Some-joint.other.0)) c.requires c.lines-in_default.ensures held c.in-Some-joint.ensures.pieces)))

pub returns-in_default-joint : goal.returns-in_default-joint
returns-in_default-joint c limits =
    let there : is_some (level_of c.args.self.now c.args.place) ≡ true = search rules in
    let held : least_where (has_place c.args.place) c.args.self.now.table ≡ None = sym (c.in_default.ensures ∙ ap (least_where (has_place c.args.place)) c.lines.ensures) in
    sym (removal-joint c.args.self.now limits c.args.place there held
    ∙ ap (because (λ pair. Joint (id pair.0) (id pair.1))) (sym (joint-removed c.args.self.now c.lines-in_default.result.now c.args.place None c.requires c.lines-in_default.ensures held c.in_default-joint.ensures.pieces)))
