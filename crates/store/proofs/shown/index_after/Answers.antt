use Rattle.store.proofs.Exported.{first-place}
use Rattle.store.proofs.shown.index_after.Goals as goal

pub returns-in-None : goal.returns-in-None
returns-in-None c = rw c.in-None.is (first-place c.args.facets.now)
