use Rattle.landxml_read.proofs.Letters.{letter_taken, letter_known}
use Rattle.landxml_read.proofs.course.Course.letter.Goals as goal

pub returns-in-Ok-clause-taken : goal.returns-in-Ok-clause-taken
returns-in-Ok-clause-taken c =
    let e = c.in-Ok.ensures in
    letter_taken c.args.self.now c.lengthen.new.self c.args.b c.requires.letter e.utf8 e.scan e.offset e.sequence e.tokens e.gathered

pub returns-in-Ok-clause-known : goal.returns-in-Ok-clause-known
returns-in-Ok-clause-known c =
    let e = c.in-Ok.ensures in
    letter_known c.args.self.now c.lengthen.new.self c.args.b c.requires.letter e.utf8 e.scan e.offset e.sequence e.tokens e.gathered c.requires.known c.requires.short
