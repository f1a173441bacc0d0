use Rattle.std.proofs.Common.{◌∙◌, sym, ap, subst}
use Rattle.mesh.specs.Acrosses.{IsAcross}
use Rattle.mesh.specs.Net.{side, after}
use Rattle.mesh.specs.Unsplits.{IsUnsplittable}
use Rattle.mesh_tests.proofs.ReadAcrosses.{unsplit_seen}
use Rattle.mesh_tests.proofs.looks.can_unsplit.Goals as goal

pub returns : goal.returns
returns c h =
    let slots = c.args.mesh.now.slots in
    let x = c.in-Some-beyond.x in
    let y = c.in-Some-beyond-2.y in
    let tri = c.in-Some.here in
    let here = sym c.triangle.ensures ∙ c.in-Some.is in
    let t = c.seen_from-t.ensures in
    let u = c.seen_from-u.ensures in
    let v = c.seen_from-v.ensures in
    let k = side c.edge_after-edge.result in
    let ahead = subst (λ z. IsAcross slots tri z x.slot x.tri (side x.edge)) c.edge_after-ahead.ensures.after (c.in-Some-beyond.ensures.across tri here) in
    let before = subst (λ z. IsAcross slots tri z y.slot y.tri (side y.edge)) (c.edge_after.ensures.after ∙ ap after c.edge_after-ahead.ensures.after) (c.in-Some-beyond-2.ensures.across tri here) in
    subst (IsUnsplittable slots c.args.slot) c.edge_after-edge.ensures.after
    (unsplit_seen slots c.args.slot k tri x.slot x.tri (side x.edge) y.slot y.tri (side y.edge) c.requires.sheet here ahead before
    (sym v.c ∙ c.is_same.ensures h ∙ u.c) (sym t.bc ∙ c.if-t-ne0.false) (sym t.ca ∙ c.if-t-ne0-2.false) (sym u.ca ∙ c.if-u-ne0.false))
