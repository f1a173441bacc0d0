use Rattle.std.proofs.Common.{sym, subst, ◌∙◌}
use Rattle.measures.specs.SlopeList.{IsRelief}
use Rattle.store.proofs.Reliefs.{relief-none}
use Rattle.store.proofs.slopes.no_slopes.Goals as goal

pub new-requires : goal.new-requires
new-requires c = subst IsRelief (sym (c.from_vec.ensures ∙ c.new-slopes.ensures.items)) relief-none
