use Rattle.std.proofs.Common.{arith, sym, ap, ◌∙◌, ℕ, List, length}
use Rattle.std.specs.Prelude.{map, sum_by}
use Rattle.ground_model.specs.Line.{Line}
use Rattle.ground_model.specs.Table.{places_together}
use Rattle.line_table.proofs.Tables.{entries_of, places-small}
use Rattle.line_table.proofs.lines.Lines.places.Goals as goal

pub returns-clause-value : goal.returns-clause-value
returns-clause-value c =
    c.self.invariant.sound.together
    ∙ ap (λ (es : List (ℕ × Line)). sum_by (λ (line : Line). length line.places) (map (λ e. e.1) es)) (sym (entries_of _ c.self.invariant.sound.in_order))
    ∙ ap places_together c.self.view_is

pub returns-clause-small : goal.returns-clause-small
returns-clause-small c = omega (arith, places-small _ _ _ c.self.invariant.sound)
