use Rattle.std.proofs.Common.{◌∙◌}
use Rattle.line_table.proofs.Joined.{number-map, least_crossing}
use Rattle.line_table.proofs.lines.Lines.crossing.Goals as goal

pub returns-clause-found : goal.returns-clause-found
returns-clause-found c = c.number_of.ensures ∙ number-map c.entry_crossing.result _ c.entry_crossing.ensures ∙ least_crossing c.args.points.now (c.args.p, c.args.q) c.args.self.now c.requires
