use Rattle.std.proofs.Common.{rules, ◌∙◌}
use Rattle.std.specs.Prelude.{◌&&◌}
use Rattle.std.specs.FinMap as finmap
use Rattle.std.proofs.lemmas.Iterator.Search.{find_from_yields_List}
use borrow.Author.Tests.{tests}
use Rattle.ground_model.specs.Kept.{lies_in_ring}
use Rattle.ground_model.specs.Kind.{is_void_or_island}
use Rattle.rings.proofs.Entries.{lines-last}
use Rattle.rings.proofs.keep.last_void_or_island.Goals as goal

pub returns : goal.returns
returns c = find_from_yields_List (λ line. is_void_or_island line.kind && lies_in_ring c.args.centre line) _ _ _ c.find.ensures.ran (lines-last _ (finmap.entries c.args.lines.now.lines) (c.rev.ensures.source ∙ c.iter.ensures)) (λ x b q k. search (rules, tests))
