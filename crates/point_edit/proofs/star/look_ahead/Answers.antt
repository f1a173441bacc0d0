use Rattle.std.proofs.Common.{sym, subst, ◌∙◌}
use Rattle.predicates.specs.Far.{IsKnown}
use Rattle.mesh.specs.Insides.{IsConvexOver}
use Rattle.mesh.specs.Net.{after, side}
use Rattle.point_edit.proofs.Looks.{look_yes, look_no}
use Rattle.point_edit.proofs.star.look_ahead.Goals as goal

pub is_convex-requires-clause-b : goal.is_convex-requires-clause-b
is_convex-requires-clause-b c =
    let u = c.next_round-next.result in
    let over = c.next_round-next.ensures.across c.tri_at.result c.tri_at.ensures in
    subst IsKnown (sym c.seen_from-ahead.ensures.b) ((c.requires.sheet.turned u.slot u.tri over.there).known (after (side u.edge)))

pub is_convex-requires-clause-c : goal.is_convex-requires-clause-c
is_convex-requires-clause-c c =
    let u = c.next_round-next.result in
    let over = c.next_round-next.ensures.across c.tri_at.result c.tri_at.ensures in
    subst IsKnown (sym c.seen_from-ahead.ensures.c) ((c.requires.sheet.turned u.slot u.tri over.there).known (after (after (side u.edge))))

pub is_convex-requires-clause-d : goal.is_convex-requires-clause-d
is_convex-requires-clause-d c = subst IsKnown (sym c.seen_from-here.ensures.b) ((c.requires.sheet.turned c.args.at.slot c.tri_at.result c.tri_at.ensures).known (after (side c.args.at.corner)))

pub returns-then-ahead-eq0-clause-yes : goal.returns-then-ahead-eq0-clause-yes
returns-then-ahead-eq0-clause-yes c = λ e.
    let t = c.tri_at.result in
    let u = c.next_round-next.result in
    let over = c.next_round-next.ensures.across t c.tri_at.ensures in
    look_yes c.args.mesh.now.slots c.requires.sheet c.args.point c.args.at.slot (side c.args.at.corner) t u.slot u.tri (side u.edge) c.tri_at.ensures (c.requires.corner.at t c.tri_at.ensures) over (c.next_round-next.ensures.corner.at u.tri over.there)
    (sym c.seen_from-ahead.ensures.ab ∙ c.if-ahead-eq0.true)
    (subst (λ z. z) (λ i. IsConvexOver (c.seen_from-ahead.ensures.a i) (c.seen_from-ahead.ensures.b i) (c.seen_from-ahead.ensures.c i) (c.seen_from-here.ensures.b i)) (c.is_convex.ensures.yes e))

pub returns-then-ahead-eq0-clause-no : goal.returns-then-ahead-eq0-clause-no
returns-then-ahead-eq0-clause-no c = λ e can.
    let t = c.tri_at.result in
    let u = c.next_round-next.result in
    let over = c.next_round-next.ensures.across t c.tri_at.ensures in
    let r =
    look_no c.args.mesh.now.slots c.requires.sheet c.args.point c.args.at.slot (side c.args.at.corner) t u.slot u.tri (side u.edge) c.tri_at.ensures (c.requires.corner.at t c.tri_at.ensures) over (c.next_round-next.ensures.corner.at u.tri over.there)
    can in
    c.is_convex.ensures.no e (subst (λ z. z) (λ i. IsConvexOver (sym c.seen_from-ahead.ensures.a i) (sym c.seen_from-ahead.ensures.b i) (sym c.seen_from-ahead.ensures.c i) (sym c.seen_from-here.ensures.b i)) r.1)
