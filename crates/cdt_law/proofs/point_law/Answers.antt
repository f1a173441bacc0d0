use Rattle.cdt_law.proofs.PointLaw.{point_law as law}
use Rattle.cdt_law.proofs.point_law.Goals as goal

pub returns : goal.returns
returns c = law
