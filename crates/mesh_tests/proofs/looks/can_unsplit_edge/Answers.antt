use Rattle.std.proofs.Common.{◌∙◌, sym, ap, subst}
use Rattle.mesh.specs.Net.{side, after}
use Rattle.mesh.specs.Straights.{IsStraightAt}
use Rattle.mesh_tests.proofs.ReadAcrosses.{line_seen}
use Rattle.mesh_tests.proofs.looks.can_unsplit_edge.Goals as goal

pub returns-then-is_through-clause-straight : goal.returns-then-is_through-clause-straight
returns-then-is_through-clause-straight c h =
    let slots = c.args.mesh.now.slots in
    let x = c.in-Some-beyond.x in
    let here = sym c.triangle.ensures ∙ c.in-Some.is in
    line_seen slots c.requires.sheet.mesh c.args.slot (side c.args.corner) c.in-Some.here x.slot x.tri (side x.edge) here (c.in-Some-beyond.ensures.across c.in-Some.here here)
    (λ _. subst (IsStraightAt slots c.args.slot) (c.edge_after-then-is_through.ensures.after ∙ ap after c.edge_after.ensures.after) (c.is_straight.ensures h))
    (λ not. absurd (not (c.is_through.ensures.yes c.if-is_through.true)))

pub returns-clause-straight : goal.returns-clause-straight
returns-clause-straight c h =
    let slots = c.args.mesh.now.slots in
    let x = c.in-Some-beyond.x in
    let here = sym c.triangle.ensures ∙ c.in-Some.is in
    line_seen slots c.requires.sheet.mesh c.args.slot (side c.args.corner) c.in-Some.here x.slot x.tri (side x.edge) here (c.in-Some-beyond.ensures.across c.in-Some.here here)
    (λ is. absurd (c.is_through.ensures.no c.if-is_through.false is))
    (λ _. c.is_straight-2.ensures h)
