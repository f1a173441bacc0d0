use Rattle.cdt_law.proofs.LocalLaw.{local_law}
use Rattle.cdt_law.proofs.local_law.Goals as goal

pub returns : goal.returns
returns c = local_law
