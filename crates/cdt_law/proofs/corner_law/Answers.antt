use Rattle.cdt_law.proofs.SharedCorners.{corner_law as law}
use Rattle.cdt_law.proofs.corner_law.Goals as goal

pub returns : goal.returns
returns c = law
