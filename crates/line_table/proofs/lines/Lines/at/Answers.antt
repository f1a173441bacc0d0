use Rattle.std.proofs.Common.{sym, ap, ◌∙◌}
use Rattle.std.specs.FinMap as finmap
use Rattle.ground_model.specs.Table.{Table}
use Rattle.line_table.specs.ByPlace.{numbers_with}
use Rattle.line_table.proofs.Tables.{entries_of}
use Rattle.line_table.proofs.lines.Lines.at.Goals as goal

pub returns : goal.returns
returns c =
    c.lines_at.ensures.numbers ∙ c.self.invariant.by_place c.args.place c.lines_at.ensures.within
    ∙ ap (numbers_with c.args.place) (sym (entries_of c.self.inside.lines c.self.invariant.sound.in_order)) ∙ ap (λ (t : Table). numbers_with c.args.place (finmap.entries t.lines)) c.self.view_is
