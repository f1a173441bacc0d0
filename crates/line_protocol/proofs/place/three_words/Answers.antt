use Rattle.line_protocol.proofs.Splitting.{more_than_three}
use Rattle.line_protocol.proofs.place.three_words.Goals as goal

pub returns-in-Some : goal.returns-in-Some
returns-in-Some c = rw (c.in_ok-first.ensures.words, c.in_ok-second.ensures.words, c.in-Some.ensures.words) (more_than_three c.in_ok-first.first.now c.in_ok-second.second.now c.in-Some.field-0.0.now c.in-Some.field-0.1.now)
