use Rattle.std.proofs.Common.{◌∙◌, sym, ap, subst, List, ℕ}
use Rattle.std.specs.Prelude.{bytes_eq, is_some, option_copied}
use Rattle.std.proofs.lemmas.Bool.{true≢false}
use Rattle.indexmap.specs.IndexMap.{get_by}
use Rattle.ground_model.specs.Place.{IsPlace}
use Rattle.landxml_surface.specs.declared.spot.Spot.{Spot}
use Rattle.landxml_surface.specs.Origins.{from_origin}
use Rattle.landxml_surface.proofs.Named.{is_id-some}
use Rattle.landxml_surface.proofs.Vertices.{is_there, triple-below}
use Rattle.landxml_surface.proofs.points.corner_of.Goals as goal

pub unreachable-requires : goal.unreachable-requires
unreachable-requires c =
    let look = λ (name : List ℕ). get_by (λ k. bytes_eq name k.now) c.args.ids.now.triples in
    let none = sym (c.requires.ids c.args.name.now) ∙ ap look (sym c.as_bytes.ensures.bytes) ∙ sym c.triple.ensures ∙ c.in_default.is in
    true≢false (sym c.requires.id ∙ is_id-some c.args.surface.now.ids c.args.name.now ∙ ap is_some none)

pub unreachable-requires-in_default-get : goal.unreachable-requires-in_default-get
unreachable-requires-in_default-get c =
    let look = λ (name : List ℕ). get_by (λ k. bytes_eq name k.now) c.args.ids.now.triples in
    let some = sym (c.requires.ids c.args.name.now) ∙ ap look (sym c.as_bytes.ensures.bytes) ∙ sym c.triple.ensures ∙ c.in-Some.is in
    is_there c.args.surface.now.triples c.in-Some.triple (triple-below c.args.surface.now.ids c.args.name.now c.in-Some.triple _ c.requires.lawful.ids some) (sym c.get.ensures.value ∙ ap option_copied c.in_default-get.is)

pub place_from-requires : goal.place_from-requires
place_from-requires c =
    subst (λ (p : Spot). IsPlace (from_origin c.args.origin.now p)) (sym c.spot_of.ensures)
    (c.requires.placed.triples c.in-Some.triple c.in-Some-get.triple.now (sym c.get.ensures.value ∙ ap option_copied c.in-Some-get.is))
