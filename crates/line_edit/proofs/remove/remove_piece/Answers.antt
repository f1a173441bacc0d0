use Rattle.std.proofs.Common.{inl}
use Rattle.cdt_law.proofs.FacetLaws.{net_law}
use Rattle.mesh.specs.Sheets.{net_in}
use Rattle.mesh.proofs.DelaunayNets.{delaunay_legal}
use Rattle.mesh.proofs.NetOfMesh.{sheet_in}
use Rattle.line_edit.proofs.Taken.{edge_counted, removal_of, removed_line, removal_written}
use Rattle.line_edit.proofs.remove.remove_piece.Goals as goal

pub take_count-requires-clause-edge : goal.take_count-requires-clause-edge
take_count-requires-clause-edge c = (c.edge_of_piece-at.ensures c.requires.p.0 c.requires.q.0 c.requires.p.1 c.requires.q.1).from.corner

pub take_count-requires-clause-live : goal.take_count-requires-clause-live
take_count-requires-clause-live c = (c.edge_of_piece-at.ensures c.requires.p.0 c.requires.q.0 c.requires.p.1 c.requires.q.1).from.live

pub take_count-requires-clause-counted : goal.take_count-requires-clause-counted
take_count-requires-clause-counted c =
    let a = c.requires.p.0 in
    let b = c.requires.q.0 in
    edge_counted c.args.mesh.now.slots c.requires.sheet c.edge_of_piece-at.result.slot c.edge_of_piece-at.result.edge a b (c.edge_of_piece-at.ensures a b c.requires.p.1 c.requires.q.1) (c.requires.piece a b c.requires.p.1 c.requires.q.1)

pub legalize-requires-clause-suspects : goal.legalize-requires-clause-suspects
legalize-requires-clause-suspects c = c.in_ok-take_count.ensures.suspects (λ s k n x. inl (delaunay_legal c.args.mesh.now.slots c.requires.sheet c.requires.delaunay s k n x))

pub returns-clause-facets : goal.returns-clause-facets
returns-clause-facets c = net_law (net_in c.legalize.new.self.slots) (sheet_in c.legalize.new.self.slots c.in_ok-legalize.ensures.sheet) c.in_ok-legalize.ensures.delaunay

pub returns-clause-steps : goal.returns-clause-steps
returns-clause-steps c = λ a b at_p at_q.
    removal_of c.args.mesh.now c.take_count.new.self c.legalize.new.self a b c.edge_of_piece-at.result.slot c.edge_of_piece-at.result.edge c.new-script.result c.take_count.new.script c.legalize.new.script c.new-script.ensures (c.edge_of_piece-at.ensures a b at_p at_q)
    c.in_ok-take_count.ensures.count c.in_ok-take_count.ensures.turns c.in_ok-legalize.ensures.flips

pub returns-clause-content : goal.returns-clause-content
returns-clause-content c = λ a b at_p at_q.
    removed_line c.args.mesh.now c.legalize.new.self a b c.legalize.new.script
    (removal_of c.args.mesh.now c.take_count.new.self c.legalize.new.self a b c.edge_of_piece-at.result.slot c.edge_of_piece-at.result.edge c.new-script.result c.take_count.new.script c.legalize.new.script c.new-script.ensures (c.edge_of_piece-at.ensures a b at_p at_q)
    c.in_ok-take_count.ensures.count c.in_ok-take_count.ensures.turns c.in_ok-legalize.ensures.flips) c.requires.sheet c.in_ok-take_count.ensures.sheet

pub returns-clause-script : goal.returns-clause-script
returns-clause-script c =
    let a = c.requires.p.0 in
    let b = c.requires.q.0 in
    removal_written c.args.mesh.now c.legalize.new.self a b c.legalize.new.script
    (removal_of c.args.mesh.now c.take_count.new.self c.legalize.new.self a b c.edge_of_piece-at.result.slot c.edge_of_piece-at.result.edge c.new-script.result c.take_count.new.script c.legalize.new.script c.new-script.ensures (c.edge_of_piece-at.ensures a b c.requires.p.1 c.requires.q.1)
    c.in_ok-take_count.ensures.count c.in_ok-take_count.ensures.turns c.in_ok-legalize.ensures.flips)
