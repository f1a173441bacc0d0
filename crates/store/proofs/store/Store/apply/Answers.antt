use Rattle.store.proofs.store.Store.apply.Goals as goal

pub returns-clause-answer : goal.returns-clause-answer
returns-clause-answer g c = c.of.ensures _ _ _ c.settle-settled.ensures.answer
