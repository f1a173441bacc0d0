use Rattle.std.proofs.Common.{◌+◌, ◌∙◌, ◌++◌, ◌∷◌, [], sym, ap, take, List}
use Rattle.std.specs.Prelude.{filter_map}
use Rattle.ground_model.specs.Place.{Coords}
use Rattle.landxml_read.specs.declared.raw.RawFace.{RawFace}
use Rattle.landxml_surface.specs.Drafts.{face_of}
use Rattle.landxml_surface.proofs.Vertices.{made-more}
use Rattle.landxml_surface.proofs.points.faces_of.Goals as goal

pub loop-face-preserved : goal.loop-face-preserved
loop-face-preserved c =
    let corners = face_of c.args.origin.now c.args.surface.now in
    let all = c.as_slice-face-items.ensures.values in
    let before = c.loop-face.invariant ∙ ap (λ (fs : List RawFace). filter_map corners (take c.loop-face.face-index fs)) (sym all) in
    c.in_ok-push.ensures.items ∙ ap (λ (cs : List (Coords × Coords × Coords)). cs ++ c.corners_of.result ∷ []) before
    ∙ made-more corners c.as_slice-face-items.result.now c.loop-face.face-index c.face-item.result c.corners_of.result c.loop-face-test.true (ap corners (sym c.face-item.is) ∙ c.corners_of.ensures)
    ∙ ap (λ (fs : List RawFace). filter_map corners (take (c.loop-face.face-index + 1) fs)) all
