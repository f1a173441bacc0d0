use Rattle.std.proofs.Common.{◌≤◌, length, ap, subst, ◌∙◌}
use Rattle.line_edit.proofs.Sought.{EndsAt, sought_start, sought_on, sought_round, sought_enough, ends_alike, no_end, no_side}
use Rattle.line_edit.proofs.between.edge_from.Goals as goal

pub loop-step-init : goal.loop-step-init
loop-step-init c = sought_start c.args.mesh.now.slots c.args.p (EndsAt c.args.mesh.now.slots c.args.p c.args.q) c.args.from.slot c.args.from.edge c.requires.sheet c.requires.corner

pub returns-then-is_at-clause-some : goal.returns-then-is_at-clause-some
returns-then-is_at-clause-some c =
    let e = c.next_spoke-spoke.ensures in
    record { from = e.corner; to = λ t there. (e.edge t there).0 ∙ c.is_at.ensures.yes c.if-is_at.true }

pub returns-then-at-from-clause-none : goal.returns-then-at-from-clause-none
returns-then-at-from-clause-none c =
    let slots = c.args.mesh.now.slots in
    let x = c.next_spoke-spoke.result in
    let e = c.next_spoke-spoke.ensures in
    let l = c.loop-step in
    no_side slots c.args.p c.args.q
    (sought_round slots c.args.p (EndsAt slots c.args.p c.args.q) (ends_alike slots c.args.p c.args.q) c.args.from.slot l.step l.at.slot l.at.edge l.invariant x.at.slot x.at.edge e.next e.corner
    (no_end slots c.args.p c.args.q x.at.slot x.at.edge e.corner x.end x.count e.edge (c.is_at.ensures.no c.if-is_at.false)) c.if-at-from.true)

pub loop-step-preserved : goal.loop-step-preserved
loop-step-preserved c =
    let slots = c.args.mesh.now.slots in
    let x = c.next_spoke-spoke.result in
    let e = c.next_spoke-spoke.ensures in
    let l = c.loop-step in
    sought_on slots c.args.p (EndsAt slots c.args.p c.args.q) (ends_alike slots c.args.p c.args.q) c.args.from.slot l.step l.at.slot l.at.edge l.invariant x.at.slot x.at.edge e.next e.corner
    (no_end slots c.args.p c.args.q x.at.slot x.at.edge e.corner x.end x.count e.edge (c.is_at.ensures.no c.if-is_at.false)) c.if-at-from.false

pub unreachable-requires : goal.unreachable-requires
unreachable-requires c =
    let slots = c.args.mesh.now.slots in
    let l = c.loop-step in
    sought_enough slots c.args.p (EndsAt slots c.args.p c.args.q) c.args.from.slot l.step l.at.slot l.at.edge l.invariant (subst (λ n. n ≤ l.step) (c.len-step-end.ensures.len ∙ ap length c.pages.ensures) c.loop-step-test.false)
