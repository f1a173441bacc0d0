use Rattle.std.proofs.Common.{sym, ap, ◌∙◌}
use Rattle.std.specs.FinMap as finmap
use Rattle.ground_model.specs.Table.{Table}
use Rattle.line_table.proofs.Tables.{entries_of, numbers}
use Rattle.line_table.proofs.lines.Lines.iter.Goals as goal

pub new-requires : goal.new-requires
new-requires c = numbers c.self.inside.lines c.self.inside.next c.self.inside.places c.self.invariant.sound

pub returns : goal.returns
returns c = c.new.ensures ∙ sym (entries_of _ c.self.invariant.sound.in_order) ∙ ap (λ (t : Table). finmap.entries t.lines) c.self.view_is
