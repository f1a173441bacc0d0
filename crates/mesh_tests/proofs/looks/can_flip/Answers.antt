use Rattle.std.specs.Prelude.{◌<ℤ◌, pos}
use Rattle.std.proofs.Common.{◌∙◌, sym, subst}
use Rattle.ground_model.specs.Corner.{corner_side}
use Rattle.predicates.specs.Far.{IsKnown}
use Rattle.mesh.specs.Net.{side, after}
use Rattle.mesh_tests.proofs.ReadAcrosses.{flip_seen, known}
use Rattle.mesh_tests.proofs.looks.can_flip.Goals as goal

pub is_left-requires-clause-a : goal.is_left-requires-clause-a
is_left-requires-clause-a c = subst IsKnown (sym c.seen_from-t.ensures.a) (known c.args.mesh.now.slots c.args.slot c.in-Some.here (side c.args.edge) c.requires.sheet (sym c.triangle.ensures ∙ c.in-Some.is))

pub is_left-requires-clause-b : goal.is_left-requires-clause-b
is_left-requires-clause-b c =
    let x = c.in-Some-beyond.x in
    let a = c.in-Some-beyond.ensures.across c.in-Some.here (sym c.triangle.ensures ∙ c.in-Some.is) in
    subst IsKnown (sym c.seen_from-u.ensures.c) (known c.args.mesh.now.slots x.slot x.tri (after (after (side x.edge))) c.requires.sheet a.there)

pub is_left-requires-clause-c : goal.is_left-requires-clause-c
is_left-requires-clause-c c = subst IsKnown (sym c.seen_from-t.ensures.c) (known c.args.mesh.now.slots c.args.slot c.in-Some.here (after (after (side c.args.edge))) c.requires.sheet (sym c.triangle.ensures ∙ c.in-Some.is))

pub is_left-requires-2-clause-a : goal.is_left-requires-2-clause-a
is_left-requires-2-clause-a c =
    let x = c.in-Some-beyond.x in
    let a = c.in-Some-beyond.ensures.across c.in-Some.here (sym c.triangle.ensures ∙ c.in-Some.is) in
    subst IsKnown (sym c.seen_from-u.ensures.c) (known c.args.mesh.now.slots x.slot x.tri (after (after (side x.edge))) c.requires.sheet a.there)

pub is_left-requires-2-clause-b : goal.is_left-requires-2-clause-b
is_left-requires-2-clause-b c = subst IsKnown (sym c.seen_from-t.ensures.b) (known c.args.mesh.now.slots c.args.slot c.in-Some.here (after (side c.args.edge)) c.requires.sheet (sym c.triangle.ensures ∙ c.in-Some.is))

pub is_left-requires-2-clause-c : goal.is_left-requires-2-clause-c
is_left-requires-2-clause-c c = subst IsKnown (sym c.seen_from-t.ensures.c) (known c.args.mesh.now.slots c.args.slot c.in-Some.here (after (after (side c.args.edge))) c.requires.sheet (sym c.triangle.ensures ∙ c.in-Some.is))

pub returns : goal.returns
returns c h =
    let x = c.in-Some-beyond.x in
    let here = sym c.triangle.ensures ∙ c.in-Some.is in
    let t = c.seen_from-t.ensures in
    let u = c.seen_from-u.ensures in
    flip_seen c.args.mesh.now.slots c.args.slot (side c.args.edge) c.in-Some.here x.slot x.tri (side x.edge) c.requires.sheet here (c.in-Some-beyond.ensures.across c.in-Some.here here) (sym t.ab ∙ c.if-t-ne0.false) (record {
      at_a = subst (λ z. z) (λ i. pos 0 <ℤ corner_side (t.a i) (u.c i) (t.c i)) (c.is_left.ensures c.if-not-is_left.false);
      at_b = subst (λ z. z) (λ i. pos 0 <ℤ corner_side (u.c i) (t.b i) (t.c i)) (c.is_left-2.ensures h);
    })
