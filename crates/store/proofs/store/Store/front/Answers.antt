use Rattle.store.proofs.store.Store.front.Goals as goal

pub returns-clause-legal : goal.returns-clause-legal
returns-clause-legal c = rw (← c.self.view_is) c.front.ensures.legal
