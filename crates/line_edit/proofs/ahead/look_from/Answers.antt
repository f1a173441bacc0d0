use Rattle.std.proofs.Common.{◌≡◌, ap, sym, subst, ◌∙◌}
use Rattle.std.specs.Prelude.{pos, ◌<ℤ◌, ◌≤ℤ◌}
use Rattle.ground_model.specs.declared.corner.Corner.TheVariants.{At}
use Rattle.ground_model.specs.Corner.{corner_side}
use Rattle.predicates.specs.Far.{IsKnown}
use Rattle.tri_pages.specs.declared.tri_slot.TriSlot.{TriSlot}
use Rattle.mesh.specs.Acrosses.{apex}
use Rattle.mesh.specs.Net.{after, corner_at, side}
use Rattle.mesh.proofs.NamedEdges.{same_in}
use Rattle.line_edit.proofs.Leaves.{reached, next_on, corner_is, through, leg_right, leg_never, leg_flat}
use Rattle.line_edit.proofs.Passed.{passed_through, passed_leg}
use Rattle.line_edit.proofs.ahead.look_from.Goals as goal

pub is_left-requires-clause-a : goal.is_left-requires-clause-a
is_left-requires-clause-a c =
    let there = sym c.triangle.ensures ∙ c.in-Some.is in
    subst IsKnown (sym c.seen_from-seen.ensures.c) ((c.requires.sheet.turned c.args.at.slot c.in-Some.t there).known (after (after (side c.args.at.edge))))

pub is_flat-requires-clause-b : goal.is_flat-requires-clause-b
is_flat-requires-clause-b c =
    let there = sym c.triangle.ensures ∙ c.in-Some.is in
    subst IsKnown (sym c.seen_from-seen.ensures.b) ((c.requires.sheet.turned c.args.at.slot c.in-Some.t there).known (after (side c.args.at.edge)))

pub returns-then-not-is_left-clause-none : goal.returns-then-not-is_left-clause-none
returns-then-not-is_left-clause-none c = λ x.
    let there = sym c.triangle.ensures ∙ c.in-Some.is in
    let t = c.in-Some.t in
    let same = same_in t x.tri (sym there ∙ x.there) in
    let is = c.requires.corner.at t there in
    leg_never c.args.v c.args.q (apex t (side c.args.at.edge)) (subst (λ z. z) (λ i. corner_side (c.seen_from-seen.ensures.c i) ((c.seen_from-seen.ensures.a ∙ is) i) (At c.args.q) ≤ℤ pos 0) (c.is_left.ensures.no c.if-not-is_left.true))
    (subst (λ z. corner_side (At c.args.v) (apex z (side c.args.at.edge)) (At c.args.q) <ℤ pos 0) (sym same) x.other_leg)

pub returns-then-is_flat-clause-some : goal.returns-then-is_flat-clause-some
returns-then-is_flat-clause-some c = λ p on past.
    let slots = c.args.mesh.now.slots in
    let m = c.requires.sheet in
    let there = sym c.triangle.ensures ∙ c.in-Some.is in
    let t = c.in-Some.t in
    let k = side c.args.at.edge in
    let is = c.requires.corner.at t there in
    let place_v = subst IsKnown is ((m.turned c.args.at.slot t there).known k) in
    let leg = leg_right c.args.v c.args.q (apex t (side c.args.at.edge)) (subst (λ z. z) (λ i. pos 0 <ℤ corner_side (c.seen_from-seen.ensures.c i) ((c.seen_from-seen.ensures.a ∙ is) i) (At c.args.q)) (c.is_left.ensures.yes c.if-not-is_left.false)) in
    let flat = subst (λ z. z) (λ i. corner_side ((c.seen_from-seen.ensures.a ∙ is) i) (c.seen_from-seen.ensures.b i) (At c.args.q) ≡ pos 0) (c.is_flat.ensures.yes c.if-is_flat.true) in (
      (reached slots m p c.args.q c.args.v on past place_v c.e-easting.ensures.place c.args.at.slot t k there is leg flat).x,
      corner_is slots m p c.args.q c.args.v on past place_v c.e-easting.ensures.place c.args.at.slot t k there is leg flat c.edge_after.result c.edge_after.ensures.edge c.edge_after.ensures.after,
      next_on slots m p c.args.q c.args.v on past place_v c.e-easting.ensures.place c.args.at.slot t k there is leg flat,
    )

pub returns-then-is_left-clause-some : goal.returns-then-is_left-clause-some
returns-then-is_left-clause-some c = λ p on past.
    let slots = c.args.mesh.now.slots in
    let m = c.requires.sheet in
    let there = sym c.triangle.ensures ∙ c.in-Some.is in
    let t = c.in-Some.t in
    let k = side c.args.at.edge in
    let is = c.requires.corner.at t there in
    let place_v = subst IsKnown is ((m.turned c.args.at.slot t there).known k) in
    let leg = leg_right c.args.v c.args.q (apex t (side c.args.at.edge)) (subst (λ z. z) (λ i. pos 0 <ℤ corner_side (c.seen_from-seen.ensures.c i) ((c.seen_from-seen.ensures.a ∙ is) i) (At c.args.q)) (c.is_left.ensures.yes c.if-not-is_left.false)) in
    through slots m p c.args.q c.args.v on past place_v c.e-easting.ensures.place c.args.at.slot t k there is leg
    (subst (λ z. z) (λ i. pos 0 <ℤ corner_side ((c.seen_from-seen.ensures.a ∙ is) i) (c.seen_from-seen.ensures.b i) (At c.args.q)) (c.is_left-2.ensures.yes c.if-is_left.true)) c.edge_after.result c.edge_after.ensures.edge c.edge_after.ensures.after

pub is_left-requires-2-clause-b : goal.is_left-requires-2-clause-b
is_left-requires-2-clause-b c =
    let there = sym c.triangle.ensures ∙ c.in-Some.is in
    subst IsKnown (sym c.seen_from-seen.ensures.b) ((c.requires.sheet.turned c.args.at.slot c.in-Some.t there).known (after (side c.args.at.edge)))

pub returns-else-is_left-clause-none : goal.returns-else-is_left-clause-none
returns-else-is_left-clause-none c = λ x.
    let there = sym c.triangle.ensures ∙ c.in-Some.is in
    let t = c.in-Some.t in
    let same = same_in t x.tri (sym there ∙ x.there) in
    let is = c.requires.corner.at t there in
    leg_flat (corner_side c.seen_from-seen.result.a c.seen_from-seen.result.b (At c.args.q)) (c.is_left-2.ensures.no c.if-is_left.false) (c.is_flat.ensures.no c.if-is_flat.false)
    (subst (λ z. z) (λ i. pos 0 ≤ℤ corner_side (sym (c.seen_from-seen.ensures.a ∙ is) i) ((ap (λ (z : TriSlot). corner_at z (after (side c.args.at.edge))) (sym same) ∙ sym c.seen_from-seen.ensures.b) i) (At c.args.q)) x.first_leg)

pub returns-then-is_flat-clause-passed : goal.returns-then-is_flat-clause-passed
returns-then-is_flat-clause-passed c = λ p c' d' on past g.
    let slots = c.args.mesh.now.slots in
    let there = sym c.triangle.ensures ∙ c.in-Some.is in
    let t = c.in-Some.t in
    let k = side c.args.at.edge in
    let is = c.requires.corner.at t there in
    let leg = leg_right c.args.v c.args.q (apex t (side c.args.at.edge)) (subst (λ z. z) (λ i. pos 0 <ℤ corner_side (c.seen_from-seen.ensures.c i) ((c.seen_from-seen.ensures.a ∙ is) i) (At c.args.q)) (c.is_left.ensures.yes c.if-not-is_left.false)) in
    passed_leg slots c.requires.sheet p c.args.q c.args.v c' d' g on past c.args.at.slot t k there is leg
    (subst (λ z. z) (λ i. corner_side ((c.seen_from-seen.ensures.a ∙ is) i) (c.seen_from-seen.ensures.b i) (At c.args.q) ≡ pos 0) (c.is_flat.ensures.yes c.if-is_flat.true)) c.edge_after.result c.edge_after.ensures.after

pub returns-then-is_left-clause-passed : goal.returns-then-is_left-clause-passed
returns-then-is_left-clause-passed c = λ p c' d' on past g.
    let slots = c.args.mesh.now.slots in
    let there = sym c.triangle.ensures ∙ c.in-Some.is in
    let t = c.in-Some.t in
    let k = side c.args.at.edge in
    let is = c.requires.corner.at t there in
    let leg = leg_right c.args.v c.args.q (apex t (side c.args.at.edge)) (subst (λ z. z) (λ i. pos 0 <ℤ corner_side (c.seen_from-seen.ensures.c i) ((c.seen_from-seen.ensures.a ∙ is) i) (At c.args.q)) (c.is_left.ensures.yes c.if-not-is_left.false)) in
    passed_through slots c.requires.sheet p c.args.q c.args.v c' d' g on past c.args.at.slot t k there is leg
    (subst (λ z. z) (λ i. pos 0 <ℤ corner_side ((c.seen_from-seen.ensures.a ∙ is) i) (c.seen_from-seen.ensures.b i) (At c.args.q)) (c.is_left-2.ensures.yes c.if-is_left.true)) c.edge_after.result c.edge_after.ensures.after
