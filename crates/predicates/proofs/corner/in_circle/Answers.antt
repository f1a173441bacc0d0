use Rattle.std.proofs.Common.{sym, ◌∙◌}
use Rattle.ground_model.specs.Corner.{is_corner_inside}
use Rattle.ground_model.proofs.Corners.{is_corner_inside-places}
use Rattle.predicates.proofs.corner.in_circle.Goals as goal

pub returns-else-is_far : goal.returns-else-is_far
returns-else-is_far c =
    let a = c.place_of.ensures.corner in
    let b = c.place_of-else-is_far.ensures.corner in
    let d = c.place_of-else-is_far-2.ensures.corner in
    let e = c.place_of-else-is_far-3.ensures.corner in
    c.is_inside.ensures
    ∙ sym (is_corner_inside-places c.place_of.result c.place_of-else-is_far.result c.place_of-else-is_far-2.result c.place_of-else-is_far-3.result)
    ∙ (λ i. is_corner_inside (a i) (b i) (d i) (e i))
