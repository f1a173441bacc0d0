use Rattle.std.proofs.Common.{◌≤◌, length, ap, subst, ◌∙◌}
use Rattle.line_edit.proofs.Sought.{sought_start, sought_on, sought_round, sought_enough}
use Rattle.line_edit.proofs.Wedges.{IsWedge, wedges_alike, no_wedge, some_wedge}
use Rattle.line_edit.proofs.ahead.leave.Goals as goal

pub loop-step-init : goal.loop-step-init
loop-step-init c = sought_start c.args.mesh.now.slots c.args.v (IsWedge c.args.mesh.now.slots c.args.v c.args.q) c.args.from.slot c.args.from.edge c.requires.sheet c.requires.corner

pub unreachable-requires : goal.unreachable-requires
unreachable-requires c =
    let slots = c.args.mesh.now.slots in
    let v = c.args.v in
    let q = c.args.q in
    let x = c.next_round-next.result in
    let e = c.next_round-next.ensures in
    let l = c.loop-step in
    let w = some_wedge slots c.requires.sheet v q l.invariant.going.start c.requires.apart in
    sought_round slots v (IsWedge slots v q) (wedges_alike slots v q) c.args.from.slot l.step l.at.slot l.at.edge l.invariant x.slot x.edge (λ t there. (x.tri, e.across t there)) e.corner (no_wedge slots v q x.slot x.edge e.corner c.in_default.ensures.none) c.if-at-from.true w.0 w.1

pub loop-step-preserved : goal.loop-step-preserved
loop-step-preserved c =
    let slots = c.args.mesh.now.slots in
    let v = c.args.v in
    let q = c.args.q in
    let x = c.next_round-next.result in
    let e = c.next_round-next.ensures in
    let l = c.loop-step in
    sought_on slots v (IsWedge slots v q) (wedges_alike slots v q) c.args.from.slot l.step l.at.slot l.at.edge l.invariant x.slot x.edge (λ t there. (x.tri, e.across t there)) e.corner (no_wedge slots v q x.slot x.edge e.corner c.in_default.ensures.none) c.if-at-from.false

pub unreachable-requires-2 : goal.unreachable-requires-2
unreachable-requires-2 c =
    let slots = c.args.mesh.now.slots in
    let l = c.loop-step in
    sought_enough slots c.args.v (IsWedge slots c.args.v c.args.q) c.args.from.slot l.step l.at.slot l.at.edge l.invariant (subst (λ n. n ≤ l.step) (c.len-step-end.ensures.len ∙ ap length c.pages.ensures) c.loop-step-test.false)
