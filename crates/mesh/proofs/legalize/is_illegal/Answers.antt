use Rattle.std.specs.Prelude.{pos, ◌<ℤ◌}
use Rattle.std.proofs.Common.{sym, ◌∙◌, subst}
use Rattle.ground_model.specs.Corner.{corner_side, is_corner_inside}
use Rattle.predicates.specs.Far.{IsKnown}
use Rattle.mesh.specs.Net.{side, after}
use Rattle.mesh.proofs.InSheets.{left_at}
use Rattle.mesh.proofs.Legality.{legal_counted, legal_rim, legal_read, across_over, left_test}
use Rattle.mesh.proofs.LineSides.{known_corner}
use Rattle.mesh.proofs.legalize.is_illegal.Goals as goal

pub returns-then-t-ne0-clause-no : goal.returns-then-t-ne0-clause-no
returns-then-t-ne0-clause-no g c = λ _.
    legal_counted c.args.pages.now c.requires.sheet.mesh c.args.slot c.args.here.now (side c.args.edge) c.requires.here (λ e. c.if-t-ne0.true (c.seen_from-t.ensures.ab ∙ e))

pub returns-then-t-clause-no : goal.returns-then-t-clause-no
returns-then-t-clause-no g c = λ _.
    legal_rim c.args.pages.now c.requires.sheet.mesh c.args.slot c.args.here.now (side c.args.edge) c.requires.here (sym c.seen_from-t.ensures.beyond_ab ∙ c.if-t.true)

pub in_circle-requires-clause-a : goal.in_circle-requires-clause-a
in_circle-requires-clause-a g c = known_corner _ (subst IsKnown (sym c.seen_from-t.ensures.a) ((c.requires.sheet.turned c.args.slot c.args.here.now c.requires.here).known (side c.args.edge)))

pub in_circle-requires-clause-b : goal.in_circle-requires-clause-b
in_circle-requires-clause-b g c = known_corner _ (subst IsKnown (sym c.seen_from-t.ensures.b) ((c.requires.sheet.turned c.args.slot c.args.here.now c.requires.here).known (after (side c.args.edge))))

pub in_circle-requires-clause-c : goal.in_circle-requires-clause-c
in_circle-requires-clause-c g c = known_corner _ (subst IsKnown (sym c.seen_from-t.ensures.c) ((c.requires.sheet.turned c.args.slot c.args.here.now c.requires.here).known (after (after (side c.args.edge)))))

pub in_circle-requires-clause-d : goal.in_circle-requires-clause-d
in_circle-requires-clause-d g c =
    let x = c.read_across-across.result in
    known_corner _ (subst IsKnown (sym c.seen_from-u.ensures.c) ((c.requires.sheet.turned x.slot x.tri c.read_across-across.ensures.across.there).known (after (after (side x.edge)))))

pub in_circle-requires-clause-turned : goal.in_circle-requires-clause-turned
in_circle-requires-clause-turned g c =
    let e = c.seen_from-t.ensures in
    left_test c.seen_from-t.result.a c.seen_from-t.result.b c.seen_from-t.result.c
    (subst (λ z. z) (λ i. pos 0 <ℤ corner_side (sym e.a i) (sym e.b i) (sym e.c i)) (left_at c.args.pages.now c.requires.sheet c.args.slot c.args.here.now (side c.args.edge) c.requires.here))

pub returns-clause-yes : goal.returns-clause-yes
returns-clause-yes g c = λ yes.
    let e = c.seen_from-t.ensures in
    let x = c.read_across-across.result in record {
      n = x.slot;
      over = across_over c.args.pages.now c.requires.sheet.mesh c.args.slot c.args.here.now (side c.args.edge) x.slot x.tri (side x.edge) c.requires.here c.read_across-across.ensures.across (sym e.ab ∙ c.if-t-ne0.false);
      inside = (λ i. is_corner_inside (sym e.a i) (sym e.b i) (sym e.c i) (sym c.seen_from-u.ensures.c i)) ∙ sym c.in_circle.ensures ∙ yes;
    }

pub returns-clause-no : goal.returns-clause-no
returns-clause-no g c = λ no.
    let e = c.seen_from-t.ensures in
    let x = c.read_across-across.result in
    legal_read c.args.pages.now c.requires.sheet.mesh c.args.slot c.args.here.now (side c.args.edge) x.slot x.tri (side x.edge) c.requires.here c.read_across-across.ensures.across
    ((λ i. is_corner_inside (sym e.a i) (sym e.b i) (sym e.c i) (sym c.seen_from-u.ensures.c i)) ∙ sym c.in_circle.ensures ∙ no)
