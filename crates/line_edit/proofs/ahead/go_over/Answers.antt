use Rattle.std.proofs.Common.{◌≡◌, ap, sym, subst, ◌∙◌}
use Rattle.std.specs.Prelude.{pos, ◌<ℤ◌}
use Rattle.ground_model.specs.declared.corner.Corner.TheVariants.{At}
use Rattle.ground_model.specs.Corner.{corner_side}
use Rattle.predicates.specs.Far.{IsKnown}
use Rattle.tri_pages.specs.Slots.{triangle_at}
use Rattle.mesh.specs.Net.{after, side}
use Rattle.mesh.proofs.Slots.{some_is}
use Rattle.line_edit.proofs.Overs.{not_outside, reached, next_on, corner_is, over_left, over_right, not_flat_right, left_is_later, right_is_later}
use Rattle.line_edit.proofs.Passed.{passed_left, passed_right, passed_on}
use Rattle.line_edit.proofs.ahead.go_over.Goals as goal

pub unreachable-requires : goal.unreachable-requires
unreachable-requires c =
    let slots = c.args.mesh.now.slots in
    let w = c.requires.over in
    let t = some_is (triangle_at slots c.args.at.slot) w.1.1.live in
    not_outside slots c.requires.sheet c.args.p c.args.q w.0 c.e-2.ensures.place c.args.at.slot c.args.at.edge w.1.1 t.tri t.is c.requires.goal w.1.0 (c.in_default.ensures.rim t.tri t.is)

pub is_flat-requires-clause-c : goal.is_flat-requires-clause-c
is_flat-requires-clause-c c =
    let slots = c.args.mesh.now.slots in
    let w = c.requires.over in
    let t = some_is (triangle_at slots c.args.at.slot) w.1.1.live in
    let u = c.in-Some.next in
    let over = c.in-Some.ensures.across t.tri t.is in
    subst IsKnown (sym c.seen_from-apex.ensures.c) ((c.requires.sheet.turned u.slot u.tri over.there).known (after (after (side u.edge))))

pub is_left-requires-clause-c : goal.is_left-requires-clause-c
is_left-requires-clause-c c =
    let slots = c.args.mesh.now.slots in
    let w = c.requires.over in
    let t = some_is (triangle_at slots c.args.at.slot) w.1.1.live in
    let u = c.in-Some.next in
    let over = c.in-Some.ensures.across t.tri t.is in
    subst IsKnown (sym c.seen_from-apex.ensures.c) ((c.requires.sheet.turned u.slot u.tri over.there).known (after (after (side u.edge))))

pub returns-then-is_flat-clause-ahead : goal.returns-then-is_flat-clause-ahead
returns-then-is_flat-clause-ahead c = λ v o.
    let slots = c.args.mesh.now.slots in
    let m = c.requires.sheet in
    let p = c.args.p in
    let q = c.args.q in
    let t = some_is (triangle_at slots c.args.at.slot) o.live in
    let u = c.in-Some.next in
    let over = c.in-Some.ensures.across t.tri t.is in
    let flat = subst (λ d. corner_side (At c.args.p) (At c.args.q) d ≡ pos 0) c.seen_from-apex.ensures.c (c.is_flat.ensures.yes c.if-is_flat.true) in (
      (reached slots m p q v c.e.ensures.place c.e-2.ensures.place c.args.at.slot c.args.at.edge o t.tri t.is u.slot u.tri (side u.edge) over flat).x,
      corner_is slots m p q v c.e.ensures.place c.e-2.ensures.place c.args.at.slot c.args.at.edge o t.tri t.is u.slot u.tri (side u.edge) over flat c.edge_after-2.result c.edge_after-2.ensures.edge (c.edge_after-2.ensures.after ∙ ap after c.edge_after.ensures.after),
      next_on slots m p q v c.e.ensures.place c.e-2.ensures.place c.args.at.slot c.args.at.edge o t.tri t.is u.slot u.tri (side u.edge) over flat,
    )

pub returns-then-is_left-clause-ahead : goal.returns-then-is_left-clause-ahead
returns-then-is_left-clause-ahead c = λ v o.
    let slots = c.args.mesh.now.slots in
    let t = some_is (triangle_at slots c.args.at.slot) o.live in
    let u = c.in-Some.next in
    over_left slots c.requires.sheet c.args.p c.args.q v c.e.ensures.place c.e-2.ensures.place c.args.at.slot c.args.at.edge o t.tri t.is u.slot u.tri (side u.edge) (c.in-Some.ensures.across t.tri t.is)
    (subst (λ d. pos 0 <ℤ corner_side (At c.args.p) (At c.args.q) d) c.seen_from-apex.ensures.c (c.is_left.ensures.yes c.if-is_left.true)) c.edge_after.result c.edge_after.ensures.edge c.edge_after.ensures.after

pub returns-else-is_left-clause-ahead : goal.returns-else-is_left-clause-ahead
returns-else-is_left-clause-ahead c = λ v o.
    let slots = c.args.mesh.now.slots in
    let t = some_is (triangle_at slots c.args.at.slot) o.live in
    let u = c.in-Some.next in
    let right = not_flat_right (corner_side (At c.args.p) (At c.args.q) c.seen_from-apex.result.c) (c.is_left.ensures.no c.if-is_left.false) (c.is_flat.ensures.no c.if-is_flat.false) in
    over_right slots c.requires.sheet c.args.p c.args.q v c.e.ensures.place c.e-2.ensures.place c.args.at.slot c.args.at.edge o t.tri t.is u.slot u.tri (side u.edge) (c.in-Some.ensures.across t.tri t.is)
    (subst (λ d. corner_side (At c.args.p) (At c.args.q) d <ℤ pos 0) c.seen_from-apex.ensures.c right) c.edge_after-2.result c.edge_after-2.ensures.edge (c.edge_after-2.ensures.after ∙ ap after c.edge_after.ensures.after)

pub returns-then-is_left-clause-later : goal.returns-then-is_left-clause-later
returns-then-is_left-clause-later c = λ t' u' there_t there_u.
    let slots = c.args.mesh.now.slots in
    let w = c.requires.over in
    let t = some_is (triangle_at slots c.args.at.slot) w.1.1.live in
    let u = c.in-Some.next in
    left_is_later slots c.requires.sheet c.args.p c.args.q w.0 c.e.ensures.place c.e-2.ensures.place c.args.at.slot c.args.at.edge w.1.1 t.tri t.is u.slot u.tri (side u.edge) (c.in-Some.ensures.across t.tri t.is) t' u' there_t there_u c.edge_after.result
    (subst (λ d. pos 0 <ℤ corner_side (At c.args.p) (At c.args.q) d) c.seen_from-apex.ensures.c (c.is_left.ensures.yes c.if-is_left.true)) c.edge_after.ensures.after

pub returns-else-is_left-clause-later : goal.returns-else-is_left-clause-later
returns-else-is_left-clause-later c = λ t' u' there_t there_u.
    let slots = c.args.mesh.now.slots in
    let w = c.requires.over in
    let t = some_is (triangle_at slots c.args.at.slot) w.1.1.live in
    let u = c.in-Some.next in
    let right = not_flat_right (corner_side (At c.args.p) (At c.args.q) c.seen_from-apex.result.c) (c.is_left.ensures.no c.if-is_left.false) (c.is_flat.ensures.no c.if-is_flat.false) in
    right_is_later slots c.requires.sheet c.args.p c.args.q w.0 c.e.ensures.place c.e-2.ensures.place c.args.at.slot c.args.at.edge w.1.1 t.tri t.is u.slot u.tri (side u.edge) (c.in-Some.ensures.across t.tri t.is) t' u' there_t there_u c.edge_after-2.result
    (subst (λ d. corner_side (At c.args.p) (At c.args.q) d <ℤ pos 0) c.seen_from-apex.ensures.c right) (c.edge_after-2.ensures.after ∙ ap after c.edge_after.ensures.after)

pub returns-then-is_flat-clause-passed : goal.returns-then-is_flat-clause-passed
returns-then-is_flat-clause-passed c = λ v c' d' o g before.
    let slots = c.args.mesh.now.slots in
    let t = some_is (triangle_at slots c.args.at.slot) o.live in
    let u = c.in-Some.next in
    let flat = subst (λ d. corner_side (At c.args.p) (At c.args.q) d ≡ pos 0) c.seen_from-apex.ensures.c (c.is_flat.ensures.yes c.if-is_flat.true) in
    passed_on slots c.requires.sheet c.args.p c.args.q v c' d' g c.args.at.slot c.args.at.edge o t.tri t.is u.slot u.tri (side u.edge) (c.in-Some.ensures.across t.tri t.is) (before t.tri t.is) flat c.edge_after-2.result (c.edge_after-2.ensures.after ∙ ap after c.edge_after.ensures.after)

pub returns-then-is_left-clause-passed : goal.returns-then-is_left-clause-passed
returns-then-is_left-clause-passed c = λ v c' d' o g before.
    let slots = c.args.mesh.now.slots in
    let t = some_is (triangle_at slots c.args.at.slot) o.live in
    let u = c.in-Some.next in
    passed_left slots c.requires.sheet c.args.p c.args.q v c' d' g c.args.at.slot c.args.at.edge o t.tri t.is u.slot u.tri (side u.edge) (c.in-Some.ensures.across t.tri t.is) (before t.tri t.is)
    (subst (λ d. pos 0 <ℤ corner_side (At c.args.p) (At c.args.q) d) c.seen_from-apex.ensures.c (c.is_left.ensures.yes c.if-is_left.true)) c.edge_after.result c.edge_after.ensures.after

pub returns-else-is_left-clause-passed : goal.returns-else-is_left-clause-passed
returns-else-is_left-clause-passed c = λ v c' d' o g before.
    let slots = c.args.mesh.now.slots in
    let t = some_is (triangle_at slots c.args.at.slot) o.live in
    let u = c.in-Some.next in
    let right = not_flat_right (corner_side (At c.args.p) (At c.args.q) c.seen_from-apex.result.c) (c.is_left.ensures.no c.if-is_left.false) (c.is_flat.ensures.no c.if-is_flat.false) in
    passed_right slots c.requires.sheet c.args.p c.args.q v c' d' g c.args.at.slot c.args.at.edge o t.tri t.is u.slot u.tri (side u.edge) (c.in-Some.ensures.across t.tri t.is) (before t.tri t.is)
    (subst (λ d. corner_side (At c.args.p) (At c.args.q) d <ℤ pos 0) c.seen_from-apex.ensures.c right) c.edge_after-2.result (c.edge_after-2.ensures.after ∙ ap after c.edge_after.ensures.after)
