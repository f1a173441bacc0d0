use Rattle.std.proofs.Common.{rules, ◌≡◌, None, [], sym, subst}
use Rattle.mesh.specs.Sheets.{net_in}
use Rattle.line_edit.proofs.Firsts.{met_end}
use Rattle.line_edit.proofs.Marches.{IsUpTo, up_to_start, up_to_next, nearer, way_of}
use Rattle.line_edit.proofs.march.way_from.Goals as goal

pub points-init : goal.points-init
points-init c =
    let none : c.new-points.result.items ≡ [] = search rules in
    subst (λ found. IsUpTo c.args.mesh.now.slots c.args.p c.args.q c.args.p c.args.from.slot c.args.from.edge found None) (sym none)
    (up_to_start c.args.mesh.now.slots c.args.p c.args.q c.args.from.slot c.args.from.edge c.requires.corner)

pub next_point-next-requires-clause-corner : goal.next_point-next-requires-clause-corner
next_point-next-requires-clause-corner c = c.points.invariant.corner

pub next_point-next-requires-clause-on : goal.next_point-next-requires-clause-on
next_point-next-requires-clause-on c = c.points.invariant.on

pub next_point-next-requires-clause-past : goal.next_point-next-requires-clause-past
next_point-next-requires-clause-past c = c.points.invariant.past (c.is_same.ensures.no c.points-test.true)

pub points-preserved : goal.points-preserved
points-preserved c =
    let slots = c.args.mesh.now.slots in
    let l = c.points in
    let next = c.next_point-next in
    let met = c.first_of-met in
    subst (λ found. IsUpTo slots c.args.p c.args.q next.result.place next.result.at.slot next.result.at.edge found met.result) (sym c.in_ok-push.ensures.items)
    (up_to_next slots c.args.p c.args.q l.place l.at.slot l.at.edge l.points.items l.met l.invariant c.requires.goal (c.is_same.ensures.no c.points-test.true) next.result.place next.ensures.next next.result.at.slot next.result.at.edge next.ensures.corner next.result.met met.result next.ensures.met met.ensures.kept met.ensures.new)

pub points-smaller : goal.points-smaller
points-smaller c =
    let l = c.points in
    let next = c.next_point-next in
    nearer c.args.mesh.now.slots c.args.p c.args.q l.place l.at.slot l.at.edge l.points.items l.met l.invariant c.requires.goal (c.is_same.ensures.no c.points-test.true) next.result.place next.ensures.next

pub returns-clause-points : goal.returns-clause-points
returns-clause-points c =
    let l = c.points in
    way_of (net_in c.args.mesh.now.slots) c.args.p c.args.q c.args.p l.points.items l.place (c.is_same.ensures.yes c.points-test.false) l.invariant.way

pub returns-clause-met : goal.returns-clause-met
returns-clause-met c =
    let l = c.points in
    met_end c.args.mesh.now.slots c.args.p c.args.q l.place l.met (c.is_same.ensures.yes c.points-test.false) l.invariant.met_is
