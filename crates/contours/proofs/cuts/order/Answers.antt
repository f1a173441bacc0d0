use Rattle.std.proofs.Common.{rules}
use Rattle.std.proofs.lemmas.List.Sorted.{answers_always}
use Rattle.contours.proofs.cuts.order.Goals as goal

pub returns-clause-in_order : goal.returns-clause-in_order
returns-clause-in_order c = c.sort_unstable_by_key.ensures.sorted (λ s. (s.facet.a, (s.facet.b, s.facet.c))) (answers_always _ _ _ (λ f a r q k. search rules))
