use Rattle.cdt_law.proofs.Stars.{star_law as law}
use Rattle.cdt_law.proofs.star_law.Goals as goal

pub returns : goal.returns
returns c = law
