use Rattle.landxml_read.proofs.Readers.{read_longer}
use Rattle.landxml_read.proofs.reader.Reader.feed.Goals as goal

pub returns-in-Some-clause-read : goal.returns-in-Some-clause-read
returns-in-Some-clause-read c seen h = read_longer seen c.args.piece.now c.args.self.now.course c.in-Some.fault c.args.self.now.ended c.in-Some.is h
