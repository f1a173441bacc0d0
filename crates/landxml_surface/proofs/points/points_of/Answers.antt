use Rattle.std.proofs.Common.{◌≡◌, ◌∙◌, ◌++◌, ◌∷◌, [], refl, ap, List, ℤ}
use Rattle.std.specs.Prelude.{Some, slice_get, map, take}
use Rattle.ground_model.specs.Place.{Coords}
use Rattle.landxml_surface.specs.Drafts.{point_of}
use Rattle.landxml_surface.proofs.Vertices.{map-more}
use Rattle.landxml_surface.proofs.points.points_of.Goals as goal

pub loop-k-preserved : goal.loop-k-preserved
loop-k-preserved c =
    let entries = c.args.heights.now.levels.entries in
    let at : slice_get entries c.loop-k.k ≡ Some (c.in-Some.spot.now, c.in-Some.level.now) = rw (← c.get_index.ensures.entry, c.in-Some.is) refl in
    c.in_ok-push.ensures.items ∙ ap (λ (ps : List (Coords × ℤ)). ps ++ c.point_from.result ∷ []) c.loop-k.invariant
    ∙ ap (λ (p : Coords × ℤ). map (point_of c.args.origin.now) (take c.loop-k.k entries) ++ p ∷ []) c.point_from.ensures ∙ map-more (point_of c.args.origin.now) entries c.loop-k.k _ at
