use Rattle.std.proofs.Common.{ℕ, List, sym, ap, ◌∙◌, rules, tests}
use Rattle.std.specs.Prelude.{map, count_by}
use Rattle.std.proofs.lemmas.Iterator.Consumers.{count_from_yields_List, YieldsList-from_filter, YieldsList-from_first}
use Rattle.std.proofs.lemmas.List.Sums.{length-filter}
use Rattle.ground_model.specs.Line.{Line}
use Rattle.ground_model.specs.Table.{live}
use Rattle.line_table.specs.Ends.{spans}
use Rattle.line_table.proofs.Tables.{entries_of, numbers, passed-values}
use Rattle.line_table.proofs.lines.Lines.count_over.Goals as goal

pub new-requires : goal.new-requires
new-requires c = numbers c.self.inside.lines c.self.inside.next c.self.inside.places c.self.invariant.sound

pub returns : goal.returns
returns c =
    count_from_yields_List _ c.count.result c.count.ensures.ran
    (YieldsList-from_filter _ (λ (entry : ℕ × Line). spans c.args.p c.args.q entry.1) (YieldsList-from_first (λ item. (item.0.0, item.1.now)) (λ lines. lines) c.self.inside.lines (c.filter.ensures.source ∙ c.new.ensures)) c.filter.ensures.closure (λ x b q k. search (rules, tests)))
    ∙ passed-values (spans c.args.p c.args.q) c.self.inside.lines
    ∙ length-filter (spans c.args.p c.args.q) (map (λ entry. entry.1) c.self.inside.lines)
    ∙ ap (λ (es : List (ℕ × Line)). count_by (spans c.args.p c.args.q) (map (λ entry. entry.1) es)) (sym (entries_of c.self.inside.lines c.self.invariant.sound.in_order))
    ∙ ap (λ t. count_by (spans c.args.p c.args.q) (live t)) c.self.view_is
