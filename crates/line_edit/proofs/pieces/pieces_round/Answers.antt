use Rattle.std.proofs.Common.{rules, ◌≡◌, ◌≤◌, ◌+◌, [], length, ap, sym, subst, ◌∙◌}
use Rattle.mesh.specs.Sheets.{net_in}
use Rattle.line_edit.specs.Ends.{ArePiecesAt}
use Rattle.line_edit.proofs.Gathered.{Gathered, gather_start, gather_on, gather_round, gather_enough}
use Rattle.line_edit.proofs.pieces.pieces_round.Goals as goal

pub loop-step-init : goal.loop-step-init
loop-step-init c =
    let none : c.new-found.result.items ≡ [] = search rules in
    subst (λ found. Gathered c.args.mesh.now.slots c.args.point c.args.from.slot 0 c.args.from.slot c.args.from.edge found) (sym none)
    (gather_start c.args.mesh.now.slots c.args.point c.args.from.slot c.args.from.edge c.requires.sheet c.requires.corner)

pub returns-then-at-from : goal.returns-then-at-from
returns-then-at-from c =
    let slots = c.args.mesh.now.slots in
    let x = c.next_spoke-spoke.result in
    let e = c.next_spoke-spoke.ensures in
    let l = c.loop-step in
    subst (λ found. ArePiecesAt (net_in slots) c.args.point found) (sym c.in_ok-note.ensures)
    (gather_round slots c.args.point c.args.from.slot l.step l.at.slot l.at.edge l.found.items l.invariant x.at.slot x.at.edge e.next e.corner x.end x.count e.edge c.if-at-from.true)

pub loop-step-preserved : goal.loop-step-preserved
loop-step-preserved c =
    let slots = c.args.mesh.now.slots in
    let x = c.next_spoke-spoke.result in
    let e = c.next_spoke-spoke.ensures in
    let l = c.loop-step in
    subst (λ found. Gathered slots c.args.point c.args.from.slot (l.step + 1) x.at.slot x.at.edge found) (sym c.in_ok-note.ensures)
    (gather_on slots c.args.point c.args.from.slot l.step l.at.slot l.at.edge l.found.items l.invariant x.at.slot x.at.edge e.next e.corner x.end x.count e.edge c.if-at-from.false)

pub unreachable-requires : goal.unreachable-requires
unreachable-requires c =
    let l = c.loop-step in
    gather_enough c.args.mesh.now.slots c.args.point c.args.from.slot l.step l.at.slot l.at.edge l.found.items l.invariant (subst (λ n. n ≤ l.step) (c.len-step-end.ensures.len ∙ ap length c.pages.ensures) c.loop-step-test.false)
