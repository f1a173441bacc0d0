use Rattle.std.proofs.Common.{take}
use Rattle.document_source.proofs.Pieces.{cut_all}
use Rattle.document_source.proofs.feeding.feed_all.Goals as goal

pub returns-in-Err-feed_piece-clause-feeds : goal.returns-in-Err-feed_piece-clause-feeds
returns-in-Err-feed_piece-clause-feeds g c =
    let so = c.reading.invariant.so_far in
    cut_all (g.S.Source.left c.args.source.now) (g.S.Source.left c.reading.source) (g.S.Source.left c.read.new.self) so.0 (take c.in-Ok.some c.read.new.into) c.reading.count c.reading.reader c.feed_piece.new.reader c.in-Err-feed_piece.fault
    so.1 so.2 c.in-Ok.ensures.bytes.0 c.in-Err-feed_piece.ensures.feeds
