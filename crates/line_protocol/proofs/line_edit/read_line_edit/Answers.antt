use Rattle.line_protocol.proofs.PlaceLists.{no_places}
use Rattle.line_protocol.proofs.line_edit.read_line_edit.Goals as goal

pub returns-in_default : goal.returns-in_default
returns-in_default c = rw c.in_default.ensures.words (no_places c.args.text.now)
