use Rattle.cdt_law.proofs.Boundary.{boundary_law as law}
use Rattle.cdt_law.proofs.boundary_law.Goals as goal

pub returns : goal.returns
returns c = law
