use Rattle.mesh.proofs.StepContents.{flips_law}
use Rattle.mesh.proofs.laws.flips_law.Goals as goal

pub returns : goal.returns
returns c = flips_law
