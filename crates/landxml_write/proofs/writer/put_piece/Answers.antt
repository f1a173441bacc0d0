use Rattle.std.proofs.Common.{[]}
use Rattle.landxml_write.specs.Flowing.{flows_both}
use Rattle.landxml_write.proofs.writer.put_piece.Goals as goal

pub returns-then-piece-le-ROOM : goal.returns-then-piece-le-ROOM
returns-then-piece-le-ROOM g c = flows_both _ _ _ [] c.args.piece.now c.flush.ensures.flows c.hold-then-piece-le-ROOM.ensures

pub returns-else-piece-le-ROOM : goal.returns-else-piece-le-ROOM
returns-else-piece-le-ROOM g c = flows_both _ _ _ [] c.args.piece.now c.flush.ensures.flows c.pass.ensures
