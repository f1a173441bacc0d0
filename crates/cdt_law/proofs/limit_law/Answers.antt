use Rattle.cdt_law.proofs.Limits.{limit_law as law}
use Rattle.cdt_law.proofs.limit_law.Goals as goal

pub returns : goal.returns
returns c = law
