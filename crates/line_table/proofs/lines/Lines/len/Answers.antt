use Rattle.std.proofs.Common.{sym, ap, ◌∙◌, length}
use Rattle.std.specs.FinMap as finmap
use Rattle.ground_model.specs.Table.{Table}
use Rattle.line_table.proofs.Tables.{entries_of}
use Rattle.line_table.proofs.lines.Lines.len.Goals as goal

pub returns-clause-len : goal.returns-clause-len
returns-clause-len c = c.len.ensures.len ∙ sym (finmap.len-entries _ ∙ ap length (entries_of _ c.self.invariant.sound.in_order)) ∙ ap (λ (t : Table). finmap.len t.lines) c.self.view_is
