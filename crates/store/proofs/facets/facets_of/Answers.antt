use Rattle.std.proofs.Common.{◌≡◌, ap, sym, ◌∙◌}
use Rattle.std.specs.BTreeMap.{keys}
use Rattle.ground_model.specs.Place.{place_cmp}
use Rattle.ground_model.specs.Table.{live, pieces_on}
use Rattle.ground_model.specs.Tri.{facets}
use Rattle.line_table.proofs.Maps.{keys-sorted}
use Rattle.store.proofs.Contents.{tri-content}
use Rattle.store.proofs.Oks.{ok_as}
use Rattle.store.proofs.facets.facets_of.Goals as goal

pub returns-clause-value : goal.returns-clause-value
returns-clause-value c =
    let found : c.in_ok-facets.field-0 ≡ facets (keys c.args.points.now) (pieces_on (keys c.args.points.now) (live c.args.lines.now)) =
    c.in_ok-facets.ensures ∙ ap (facets c.as_slice-2.result.now) (c.as_slice-3.ensures.value ∙ c.in_ok-pieces.ensures ∙ ap (λ ps. pieces_on ps (live c.args.lines.now)) (c.as_slice.ensures.value ∙ c.in_ok-places.ensures.value))
    ∙ ap (λ ps. facets ps (pieces_on (keys c.args.points.now) (live c.args.lines.now))) (c.as_slice-2.ensures.value ∙ c.in_ok-places.ensures.value) in
    ok_as _ _ _ (found ∙ sym (tri-content c.args.points.now.entries c.args.lines.now (keys-sorted place_cmp c.args.points.now.entries c.places_of.ensures.ordered))) c.few.ensures.value
