use Rattle.std.proofs.Common.{ap}
use Rattle.std.specs.Prelude.{option_map}
use Rattle.line_protocol.specs.Spoken.{RemoveLine}
use Rattle.line_protocol.proofs.Rows.{no_id}
use Rattle.line_protocol.proofs.read.read_line_removal.Goals as goal

pub returns-in-Some : goal.returns-in-Some
returns-in-Some c = rw c.in-Some.ensures.words (ap (option_map (λ n. RemoveLine n)) (no_id c.in-Some.field-0.0.now c.in-Some.field-0.1.now))
