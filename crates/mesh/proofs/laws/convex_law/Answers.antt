use Rattle.mesh.proofs.LawsonFlips.{convex_law}
use Rattle.mesh.proofs.laws.convex_law.Goals as goal

pub returns : goal.returns
returns c = convex_law
