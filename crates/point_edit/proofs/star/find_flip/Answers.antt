use Rattle.std.proofs.Common.{◌≤◌, length, ap, subst, ◌∙◌}
use Rattle.point_edit.proofs.Looks.{walked_start, walked_on, walked_round, walked_enough}
use Rattle.point_edit.proofs.star.find_flip.Goals as goal

pub loop-step-init : goal.loop-step-init
loop-step-init c = walked_start c.args.mesh.now.slots c.args.point c.args.from.slot c.args.from.corner c.requires.sheet c.requires.corner

pub returns-then-at-from-clause-none : goal.returns-then-at-from-clause-none
returns-then-at-from-clause-none c =
    let x = c.look_ahead-look.result.at in
    let e = c.look_ahead-look.ensures in
    walked_round c.args.mesh.now.slots c.args.point c.args.from.slot c.loop-step.step c.loop-step.at.slot c.loop-step.at.corner c.loop-step.invariant x.slot x.corner e.next e.corner (e.no c.if-look.false) c.if-at-from.true

pub loop-step-preserved : goal.loop-step-preserved
loop-step-preserved c =
    let x = c.look_ahead-look.result.at in
    let e = c.look_ahead-look.ensures in
    walked_on c.args.mesh.now.slots c.args.point c.args.from.slot c.loop-step.step c.loop-step.at.slot c.loop-step.at.corner c.loop-step.invariant x.slot x.corner e.next e.corner (e.no c.if-look.false) c.if-at-from.false

pub unreachable-requires : goal.unreachable-requires
unreachable-requires c =
    walked_enough c.args.mesh.now.slots c.args.point c.args.from.slot c.loop-step.step c.loop-step.at.slot c.loop-step.at.corner c.loop-step.invariant
    (subst (λ n. n ≤ c.loop-step.step) (c.len-step-end.ensures.len ∙ ap length c.pages.ensures) c.loop-step-test.false)
