use Rattle.std.proofs.Common.{◌≡◌, subst}
use Rattle.mesh.specs.Acrosses.{IsAcross}
use Rattle.mesh.specs.Net.{side, next_at, outside}
use Rattle.mesh.proofs.Slots.{some_is}
use Rattle.locate.proofs.Facets.{next_live, next_corner, next_stands}
use Rattle.locate.proofs.round.next_round.Goals as goal

pub unreachable-requires : goal.unreachable-requires
unreachable-requires c =
    let t = some_is _ c.requires.corner.live in
    next_stands c.args.mesh.now.slots c.requires.sheet c.args.slot t.tri (side c.args.corner) c.args.point t.is (c.requires.corner.at t.tri t.is)
    (subst (λ k. next_at t.tri k ≡ outside) c.edge_before.ensures.before (c.in-None.ensures.rim t.tri t.is))

pub returns-clause-across : goal.returns-clause-across
returns-clause-across c = λ t there. subst (λ k. IsAcross c.args.mesh.now.slots t k c.in-Some.next.slot c.in-Some.next.tri (side c.in-Some.next.edge)) c.edge_before.ensures.before (c.in-Some.ensures.across t there)

pub returns-clause-corner : goal.returns-clause-corner
returns-clause-corner c =
    let next = c.in-Some.next in
    let t = some_is _ c.requires.corner.live in
    let over = subst (λ k. IsAcross c.args.mesh.now.slots t.tri k next.slot next.tri (side next.edge)) c.edge_before.ensures.before (c.in-Some.ensures.across t.tri t.is) in
    record {
      live = next_live c.args.mesh.now.slots t.tri _ next.slot next.tri (side next.edge) over;
      corner = c.in-Some.ensures.edge;
      at = next_corner c.args.mesh.now.slots t.tri (side c.args.corner) c.args.point next.slot next.tri (side next.edge) (c.requires.corner.at t.tri t.is) over;
    }
