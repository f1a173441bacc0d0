use Rattle.store.proofs.store.Store.commit.Goals as goal

pub returns-clause-answer : goal.returns-clause-answer
returns-clause-answer g c = c.of.ensures _ _ _ c.settle_plan-settled.ensures.answer
