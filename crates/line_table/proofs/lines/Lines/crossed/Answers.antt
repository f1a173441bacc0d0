use Rattle.std.proofs.Common.{◌∙◌}
use Rattle.line_table.proofs.Joined.{number-map, least_crossed}
use Rattle.line_table.proofs.lines.Lines.crossed.Goals as goal

pub returns : goal.returns
returns c = c.number_of.ensures ∙ number-map c.entry_crossed.result _ c.entry_crossed.ensures ∙ least_crossed c.args.points.now c.args.line.now c.args.self.now c.requires.own c.requires.others
