use Rattle.line_edit.proofs.Taken.{piece_is_edge}
use Rattle.line_edit.proofs.remove.edge_of_piece.Goals as goal

pub unreachable-requires : goal.unreachable-requires
unreachable-requires c =
    let a = c.requires.p.0 in
    let b = c.requires.q.0 in
    piece_is_edge c.args.mesh.now.slots c.requires.sheet a b (c.requires.piece a b c.requires.p.1 c.requires.q.1) (c.in-None.ensures.none a b c.requires.p.1 c.requires.q.1)
