use Rattle.std.proofs.Common.{◌≡◌, ◌∙◌, sym, ap, subst}
use Rattle.mesh.specs.Acrosses.{IsAcross}
use Rattle.mesh.specs.Net.{side, after}
use Rattle.mesh.proofs.EdgeUnsplits.{four_of, round_side}
use Rattle.mesh.proofs.edge_unsplit.read_round.Goals as goal

pub returns-clause-four : goal.returns-clause-four
returns-clause-four g c =
    let x = c.read_across-ahead.result in
    let y = c.read_across-below.result in
    let z = c.read_across-under.result in
    four_of c.args.pages.now c.args.here.now (side c.args.edge) (side c.edge_after.result) x.slot x.tri (side x.edge) (side c.edge_after-line.result) y.slot y.tri (side y.edge) z.slot z.tri (side z.edge)
    c.edge_after.ensures.after c.edge_after-line.ensures.after c.read_across-ahead.ensures.across c.read_across-below.ensures.across c.read_across-under.ensures.across

pub read_across-below-requires-clause-inner : goal.read_across-below-requires-clause-inner
read_across-below-requires-clause-inner g c =
    let x = c.read_across-ahead.result in
    let o = side x.edge in
    let j = side c.edge_after-line.result in
    let is : o ≡ after (after j) = sym (ap (λ z. after (after z)) c.edge_after-line.ensures.after ∙ round_side o) in
    let a : IsAcross c.args.pages.now c.args.here.now (after (side c.args.edge)) x.slot x.tri (after (after j)) =
    subst (λ y. y) (λ m. IsAcross c.args.pages.now c.args.here.now (c.edge_after.ensures.after m) x.slot x.tri (is m)) c.read_across-ahead.ensures.across in
    c.requires.unsplittable.inner_below c.args.here.now x.slot x.tri j c.requires.here a x.tri a.there
