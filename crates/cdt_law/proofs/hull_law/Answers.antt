use Rattle.cdt_law.proofs.Hull.{hull_law}
use Rattle.cdt_law.proofs.hull_law.Goals as goal

pub returns : goal.returns
returns c = hull_law
