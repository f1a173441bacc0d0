use Rattle.std.proofs.Common.{ℕ, sym, ap, ◌∙◌}
use Rattle.std.specs.Prelude.{slice_get}
use Rattle.std.specs.FinMap as finmap
use Rattle.ground_model.specs.declared.line.LineId.{LineId}
use Rattle.line_table.proofs.Places.{first-yielded, least-with}
use Rattle.line_table.proofs.lines.Lines.holding.Goals as goal

pub returns : goal.returns
returns c =
    first-yielded (λ (id : LineId). id.0) c.next.result c.at-lines.result c.next.new.self c.next.ensures.steps
    ∙ ap (λ ns. slice_get ns 0) c.at-lines.ensures ∙ sym (least-with c.args.place (finmap.entries c.args.self.now.lines))
