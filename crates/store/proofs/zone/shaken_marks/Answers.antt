use Rattle.std.proofs.Common.{◌≤◌, ◌∙◌, ap, arith, length}
use Rattle.std.proofs.lemmas.List.{length-map}
use Rattle.std.specs.Prelude.{◌||◌, map}
use Rattle.std.specs.List.{filter, list_any}
use Rattle.ground_model.specs.declared.mark.Mark.TheVariants.{Tri}
use Rattle.ground_model.specs.Mark.{is_same_facet, share_edge}
use Rattle.store.proofs.Oks.{ok_map}
use Rattle.store.proofs.Zones.{shaken-is, filter-few}
use Rattle.store.proofs.zone.shaken_marks.Goals as goal

pub returns-clause-value : goal.returns-clause-value
returns-clause-value c =
    ok_map _ _ c.facet_marks.result (λ marks is edit made.
    is ∙ ap (map Tri) (c.as_slice-2.ensures.value ∙ c.in_ok-found.ensures
    ∙ (λ i. filter (λ f. list_any (λ g. is_same_facet f g || share_edge f g) ((c.as_slice.ensures.value ∙ c.in_ok-gone.ensures) i)) (c.facets.ensures.value i))
    ∙ shaken-is c.args.before.now c.args.now.now edit made)) c.facet_marks.ensures

pub returns-clause-few : goal.returns-clause-few
returns-clause-few c =
    let found : length c.as_slice-2.result.now ≤ length c.facets.result.now = rw (c.as_slice-2.ensures.value ∙ c.in_ok-found.ensures) (filter-few _ c.facets.result.now) in
    ok_map _ _ c.facet_marks.result (λ marks is. omega (arith, found, c.facets.ensures.few, ap length is, length-map c.as_slice-2.result.now Tri)) c.facet_marks.ensures
