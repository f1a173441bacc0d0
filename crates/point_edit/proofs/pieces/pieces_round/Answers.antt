use Rattle.std.proofs.Common.{◌≤◌, ◌+◌, length, refl, sym, ap, subst, ◌∙◌}
use Rattle.std.specs.Prelude.{⊤}
use Rattle.point_edit.specs.Pieces.{AreMet}
use Rattle.point_edit.proofs.PieceWalks.{Noted, noted_start, noted_on, noted_round, noted_enough}
use Rattle.point_edit.proofs.pieces.pieces_round.Goals as goal

pub loop-step-init : goal.loop-step-init
loop-step-init c = noted_start c.args.mesh.now.slots c.args.point c.args.from.slot c.args.from.corner _ c.requires.sheet c.requires.corner refl refl refl

pub returns-then-at-from : goal.returns-then-at-from
returns-then-at-from c =
    let x = c.edge_ahead-edge.result in
    let e = c.edge_ahead-edge.ensures in
    let l = c.loop-step in
    subst (λ met. AreMet c.args.mesh.now.slots c.args.point (λ y. ⊤) met) (sym c.met_then-met.ensures)
    (noted_round c.args.mesh.now.slots c.args.point c.args.from.slot l.step l.at.slot l.at.corner l.met l.invariant x.at.slot x.at.corner e.next e.corner x.end x.count e.edge c.if-at-from.true)

pub loop-step-preserved : goal.loop-step-preserved
loop-step-preserved c =
    let x = c.edge_ahead-edge.result in
    let e = c.edge_ahead-edge.ensures in
    let l = c.loop-step in
    subst (λ met. Noted c.args.mesh.now.slots c.args.point c.args.from.slot (l.step + 1) x.at.slot x.at.corner met) (sym c.met_then-met.ensures)
    (noted_on c.args.mesh.now.slots c.args.point c.args.from.slot l.step l.at.slot l.at.corner l.met l.invariant x.at.slot x.at.corner e.next e.corner x.end x.count e.edge c.if-at-from.false)

pub unreachable-requires : goal.unreachable-requires
unreachable-requires c =
    let l = c.loop-step in
    noted_enough c.args.mesh.now.slots c.args.point c.args.from.slot l.step l.at.slot l.at.corner l.met l.invariant
    (subst (λ n. n ≤ l.step) (c.len-step-end.ensures.len ∙ ap length c.pages.ensures) c.loop-step-test.false)
