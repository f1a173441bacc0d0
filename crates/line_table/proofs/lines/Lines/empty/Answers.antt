use Rattle.line_table.proofs.Tables.{empty-view}
use Rattle.line_table.proofs.lines.Lines.empty.Goals as goal

pub returns : goal.returns
returns c = empty-view c.empty.result c.empty.ensures.empty
