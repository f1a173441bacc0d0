use Rattle.line_protocol.proofs.Splitting.{more_than_two}
use Rattle.line_protocol.proofs.place.two_words.Goals as goal

pub returns-in-Some : goal.returns-in-Some
returns-in-Some c = rw (c.in_ok-first.ensures.words, c.in-Some.ensures.words) (more_than_two c.in_ok-first.first.now c.in-Some.field-0.0.now c.in-Some.field-0.1.now)
