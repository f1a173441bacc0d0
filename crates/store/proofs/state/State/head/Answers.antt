use Rattle.store.proofs.Exported.{journal-lawful}
use Rattle.store.proofs.state.State.head.Goals as goal

pub returns-clause-lawful : goal.returns-clause-lawful
returns-clause-lawful c = rw (← c.self.view_is) (journal-lawful (record { head = c.self.inside.head; limits = c.self.inside.limits; entries = c.self.inside.log }) c.self.invariant.origin c.self.invariant.legal)
