use Rattle.line_protocol.proofs.Splitting.{more_than_one}
use Rattle.line_protocol.proofs.place.read_level.Goals as goal

pub returns-in-Some : goal.returns-in-Some
returns-in-Some c = rw c.in-Some.ensures.words (more_than_one c.in-Some.field-0.0.now c.in-Some.field-0.1.now)
