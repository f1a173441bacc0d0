use Rattle.line_protocol.proofs.Rows.{edit_alone}
use Rattle.line_protocol.proofs.read.read_edit.Goals as goal

pub returns-in_default : goal.returns-in_default
returns-in_default c = rw c.in_default.ensures.words (edit_alone c.args.text.now)
