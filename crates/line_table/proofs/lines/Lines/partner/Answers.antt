use Rattle.std.proofs.Common.{ap, sym, ◌∙◌, ℕ}
use Rattle.std.specs.Prelude.{option_map}
use Rattle.std.specs.FinMap as finmap
use Rattle.ground_model.specs.Line.{Line}
use Rattle.line_table.proofs.Joined.{no_partner}
use Rattle.line_table.proofs.lines.Lines.partner.Goals as goal

pub returns-else-has_link_over : goal.returns-else-has_link_over
returns-else-has_link_over c =
    ap (option_map (λ (entry : ℕ × Line). entry.0)) (sym (no_partner c.args.place c.args.id.0 c.args.line.now (finmap.entries c.args.self.now.lines) (sym c.has_link_over.ensures ∙ c.if-has_link_over.false)))
