use Rattle.std.proofs.Common.{rules, tests}
use Rattle.std.specs.FinMap as finmap
use Rattle.std.proofs.lemmas.Iterator.Consumers.{YieldsList-from_first}
use Rattle.std.proofs.lemmas.Iterator.Search.{find_from_yields_List}
use Rattle.std.specs.Prelude.{nat_le, ◌&&◌}
use Rattle.line_table.specs.Joints.{links_cross_over}
use Rattle.line_table.proofs.lines.Lines.entry_joined.Goals as goal

pub returns : goal.returns
returns c =
    find_from_yields_List (λ entry. nat_le c.args.id.0 entry.0 && links_cross_over c.args.place c.args.line.now entry.1) _ _ _ c.find.ensures.ran
    (YieldsList-from_first (λ item. (item.0.0, item.1.now)) (λ lines. lines) (finmap.entries c.args.self.now.lines) c.iter.ensures) (λ x b q k. search (rules, tests))
