use Rattle.std.proofs.Common.{◌+◌, ◌∙◌, ◌++◌, ◌∷◌, [], sym, ap, take, List}
use Rattle.std.specs.Prelude.{filter_map}
use Rattle.ground_model.specs.Place.{Coords}
use Rattle.landxml_read.specs.declared.raw.RawVertex.{RawVertex}
use Rattle.landxml_surface.specs.Drafts.{vertex_place}
use Rattle.landxml_surface.proofs.Vertices.{made-more}
use Rattle.landxml_surface.proofs.line.places_of.Goals as goal

pub loop-vertex-preserved : goal.loop-vertex-preserved
loop-vertex-preserved c =
    let place = vertex_place c.args.origin.now c.args.surface.now in
    let all = c.as_slice-vertex-items.ensures.values in
    let before = c.loop-vertex.invariant ∙ ap (λ (vs : List RawVertex). filter_map place (take c.loop-vertex.vertex-index vs)) (sym all) in
    c.in_ok-push.ensures.items ∙ ap (λ (ps : List Coords). ps ++ c.place_of.result ∷ []) before
    ∙ made-more place c.as_slice-vertex-items.result.now c.loop-vertex.vertex-index _ c.place_of.result c.loop-vertex-test.true c.place_of.ensures
    ∙ ap (λ (vs : List RawVertex). filter_map place (take (c.loop-vertex.vertex-index + 1) vs)) all
