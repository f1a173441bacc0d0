use Rattle.mesh.proofs.LawsonFlips.{illegal_law}
use Rattle.mesh.proofs.laws.illegal_law.Goals as goal

pub returns : goal.returns
returns c = illegal_law
