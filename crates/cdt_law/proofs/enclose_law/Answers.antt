use Rattle.cdt_law.proofs.Enclosed.{enclose_law as law}
use Rattle.cdt_law.proofs.enclose_law.Goals as goal

pub returns : goal.returns
returns c = law
