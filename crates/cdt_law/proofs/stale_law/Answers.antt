use Rattle.cdt_law.proofs.StalePlans.{stale_law as law}
use Rattle.cdt_law.proofs.stale_law.Goals as goal

pub returns : goal.returns
returns c = law
