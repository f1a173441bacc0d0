use Rattle.std.proofs.lemmas.Iterator.Consumers.{nth_from_yields_List, YieldsList-from_first}
use Rattle.store.proofs.shown.entry_at.Goals as goal

pub returns : goal.returns
returns c = nth_from_yields_List c.nth.result c.nth.new.self c.args.k c.nth.ensures.ran (YieldsList-from_first (λ item. (item.0.0, item.1.now)) (λ lines. lines) _ c.iter.ensures)
