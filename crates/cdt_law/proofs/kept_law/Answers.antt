use Rattle.cdt_law.proofs.FlipKept.{kept_law as law}
use Rattle.cdt_law.proofs.kept_law.Goals as goal

pub returns : goal.returns
returns c = law
