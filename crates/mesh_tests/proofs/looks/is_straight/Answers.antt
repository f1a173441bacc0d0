use Rattle.std.specs.Prelude.{pos}
use Rattle.std.proofs.Common.{◌≡◌, ◌∙◌, false, sym, subst}
use Rattle.ground_model.specs.Corner.{corner_side}
use Rattle.predicates.specs.Far.{IsKnown, is_far}
use Rattle.mesh.specs.Net.{side}
use Rattle.mesh.proofs.EdgeUnsplits.{four_of}
use Rattle.mesh_tests.proofs.ReadAcrosses.{known, straight_seen}
use Rattle.mesh_tests.proofs.looks.is_straight.Goals as goal

pub is_flat-requires-clause-a : goal.is_flat-requires-clause-a
is_flat-requires-clause-a c = subst IsKnown (sym c.seen_from-t.ensures.a) (known c.args.mesh.now.slots c.args.slot c.in-Some.here (side c.args.edge) c.requires.sheet (sym c.triangle.ensures ∙ c.in-Some.is))

pub is_flat-requires-clause-c : goal.is_flat-requires-clause-c
is_flat-requires-clause-c c =
    let x = c.in-Some-beyond.x in
    let y = c.in-Some-beyond-2.y in
    let a = c.in-Some-beyond.ensures.across c.in-Some.here (sym c.triangle.ensures ∙ c.in-Some.is) in
    let b = c.in-Some-beyond-2.ensures.across x.tri a.there in
    subst IsKnown (sym c.seen_from-w.ensures.a) (known c.args.mesh.now.slots y.slot y.tri (side y.edge) c.requires.sheet b.there)

pub returns : goal.returns
returns c h =
    let slots = c.args.mesh.now.slots in
    let tri = c.in-Some.here in
    let x = c.in-Some-beyond.x in
    let y = c.in-Some-beyond-2.y in
    let z = c.in-Some-beyond-3.z in
    let k = side c.args.edge in
    let j = side c.edge_after-line.result in
    let here = sym c.triangle.ensures ∙ c.in-Some.is in
    let t = c.seen_from-t.ensures in
    let u = c.seen_from-u.ensures in
    let w = c.seen_from-w.ensures in
    let v = c.seen_from-v.ensures in
    let ahead = c.in-Some-beyond.ensures.across tri here in
    let four = four_of slots tri k (side c.edge_after-ahead.result) x.slot x.tri (side x.edge) j y.slot y.tri (side y.edge) z.slot z.tri (side z.edge)
    c.edge_after-ahead.ensures.after c.edge_after-line.ensures.after ahead (c.in-Some-beyond-2.ensures.across x.tri ahead.there) (c.in-Some-beyond-3.ensures.across tri here) in
    straight_seen slots c.requires.sheet.mesh c.args.slot k tri x.slot x.tri j y.slot y.tri (side y.edge) z.slot z.tri (side z.edge) here four (record {
      closed = sym v.c ∙ c.is_same.ensures c.if-not-is_same.false ∙ w.c;
      flat = subst (λ z. z) (λ i. corner_side (t.a i) (t.b i) (w.a i) ≡ pos 0) (c.is_flat.ensures.yes h);
      one_count = sym t.ab ∙ c.if-t-u.false ∙ u.ab;
      uncounted = (sym t.bc ∙ c.if-t-ne0.false, sym w.bc ∙ c.if-w-ne0.false);
    }) (subst (λ p. is_far p ≡ false) t.b (c.is_place.ensures c.if-not-is_place.false))
