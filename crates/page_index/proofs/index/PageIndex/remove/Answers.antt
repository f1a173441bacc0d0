use Rattle.std.proofs.Common.{sym, ap, ◌∙◌}
use Rattle.std.specs.Prelude.{option_copied}
use Rattle.page_index.proofs.Order.{none_out}
use Rattle.page_index.proofs.index.PageIndex.remove.Goals as goal

pub returns-in-None-clause-ok : goal.returns-in-None-clause-ok
returns-in-None-clause-ok g c = none_out c.args.key c.args.self.now c.len-count.ensures.order (sym c.get.ensures.value ∙ ap option_copied c.in-None.is)
