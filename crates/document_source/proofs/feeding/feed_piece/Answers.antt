use Rattle.std.proofs.Common.{arith, ◌++◌, sym, subst, length-take}
use Rattle.document_source.specs.declared.fault.SourceFault.{SourceFault}
use Rattle.document_source.specs.Feeding.{IsCutOff}
use Rattle.document_source.proofs.Pieces.{piece_cut, piece_large, piece_fed, never_failed}
use Rattle.document_source.proofs.feeding.feed_piece.Goals as goal

pub returns-in-Err-clause-feeds : goal.returns-in-Err-clause-feeds
returns-in-Err-clause-feeds c seen going =
    let P : SourceFault → Type 0 = IsCutOff (seen ++ c.args.piece.now) in
    subst P (sym c.of.ensures) (piece_cut seen c.args.piece.now c.args.count c.min-front.result c.feed.new.self c.in-Err.fault going.size going.within (omega arith) c.in-Err.ensures.fault (c.in-Err.ensures.read seen going.reading))

pub returns-then-front-piece-clause-feeds : goal.returns-then-front-piece-clause-feeds
returns-then-front-piece-clause-feeds c seen going =
    piece_large seen c.args.piece.now c.args.count c.min-front.result c.feed.new.self going.size going.within (omega arith) c.if-front-piece.true c.in_default.ensures.ok (c.in_default.ensures.read seen going.reading)

pub returns-clause-feeds : goal.returns-clause-feeds
returns-clause-feeds c seen going =
    let all = c.in_default.ensures.more in
    piece_fed seen c.args.piece.now c.args.count c.min-front.result c.feed.new.self going.size going.within (omega arith) c.if-front-piece.false c.in_default.ensures.ok (omega (arith, all, c.requires.fed, length-take c.min-front.result c.args.piece.now)) (c.in_default.ensures.read seen going.reading)

pub returns-in-Err-clause-reads_none : goal.returns-in-Err-clause-reads_none
returns-in-Err-clause-reads_none c = λ e. never_failed c.in-Err.fault c.of.result c.of.ensures e
