use Rattle.landxml_read.proofs.Outlines.{fault_read}
use Rattle.landxml_read.proofs.markup.Outline.feed.Goals as goal

pub returns-in-Some-clause-read : goal.returns-in-Some-clause-read
returns-in-Some-clause-read c seen h = fault_read seen c.args.piece.now c.args.self.now.standing c.in-Some.fault c.args.self.now.fault c.in-Some.is h
