use Rattle.store.proofs.version.Version.front.Goals as goal

pub returns-clause-legal : goal.returns-clause-legal
returns-clause-legal c = rw (← c.self.view_is) (rw (← c.get.ensures) c.front.ensures.legal)
