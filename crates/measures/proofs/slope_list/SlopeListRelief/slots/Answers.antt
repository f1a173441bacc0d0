use Rattle.std.proofs.Common.{sym, subst, IsPermutation}
use Rattle.std.proofs.lemmas.List.Sorted.{IsPermutation-refl}
use Rattle.measures.proofs.Found.{filter_map-some}
use Rattle.measures.proofs.slope_list.SlopeListRelief.slots.Goals as goal

pub returns-clause-each_once : goal.returns-clause-each_once
returns-clause-each_once c = subst (λ k. IsPermutation k c.args.self.now) (sym (filter_map-some c.args.self.now)) (IsPermutation-refl c.args.self.now)
