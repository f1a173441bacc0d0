use Rattle.cdt_law.proofs.IllegalEdge.{fall_law as law}
use Rattle.cdt_law.proofs.fall_law.Goals as goal

pub returns : goal.returns
returns c = law
