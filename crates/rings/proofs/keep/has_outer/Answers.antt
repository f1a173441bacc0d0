use Rattle.std.proofs.Common.{rules}
use Rattle.std.specs.FinMap as finmap
use Rattle.std.proofs.lemmas.Iterator.Search.{any_from_yields_List}
use borrow.Author.Tests.{tests}
use Rattle.ground_model.specs.Kind.{is_outer}
use Rattle.rings.proofs.Entries.{lines-first}
use Rattle.rings.proofs.keep.has_outer.Goals as goal

pub returns : goal.returns
returns c = any_from_yields_List (λ line. is_outer line.kind) _ _ _ c.any.ensures.ran (lines-first _ (finmap.entries c.args.lines.now.lines) c.iter.ensures) (λ x b q k. search (rules, tests))
