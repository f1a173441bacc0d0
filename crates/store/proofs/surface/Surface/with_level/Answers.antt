use Rattle.std.proofs.Common.{◌≡◌, ap, refl, ◌∙◌}
use Rattle.ground_model.specs.Content.{after}
use Rattle.ground_model.specs.Slope.{relief}
use Rattle.ground_model.specs.Tri.{tri}
use Rattle.ground_model.specs.declared.edit.Edit.TheVariants.{AddPoint}
use Rattle.store.specs.Surfaces.{content_by}
use Rattle.store.proofs.Contents.{set-is-added, slopes-set, facets-set}
use Rattle.store.proofs.surface.Surface.with_level.Goals as goal

pub invariant_of-result : goal.invariant_of-result
invariant_of-result c =
    let lines : c.in_ok-lines.lines ≡ c.args.self.now.table = c.in_ok-lines.ensures ∙ rw (← c.self.view_is) refl in
    let made : content_by c.in_ok-points.points.entries c.in_ok-lines.lines ≡ after c.args.self.now (AddPoint c.args.place c.args.level) = ap (content_by c.in_ok-points.points.entries) lines ∙ c.in_ok-points.ensures.content in
    let were : c.self.inside.slopes ≡ relief c.args.self.now = rw (← c.self.view_is) c.self.invariant.slopes_are in
    let facets : c.self.inside.facets ≡ tri c.args.self.now = rw (← c.self.view_is) c.self.invariant.facets_are in
    record {
      sorted = c.in_ok-points.ensures.sorted;
      facets_are = c.in_ok-facets.ensures.cases ∙ facets ∙ facets-set c.args.self.now c.in_ok-points.points.entries c.in_ok-lines.lines c.args.place c.args.level c.in_ok-points.ensures.sorted made (c.in_ok-points.ensures.places c.requires);
      few = rw c.in_ok-facets.ensures.cases c.self.invariant.few;
      slopes_are = c.in_ok-slopes.ensures ∙ slopes-set c.args.self.now c.in_ok-points.points.entries c.in_ok-lines.lines c.args.place c.args.level c.self.inside.slopes c.in_ok-points.ensures.sorted made (c.in_ok-points.ensures.places c.requires) were;
    }

pub returns : goal.returns
returns c =
    let lines : c.in_ok-lines.lines ≡ c.args.self.now.table = c.in_ok-lines.ensures ∙ rw (← c.self.view_is) refl in
    ap (content_by c.in_ok-points.points.entries) lines ∙ c.in_ok-points.ensures.content ∙ set-is-added c.args.self.now c.args.place c.args.level
