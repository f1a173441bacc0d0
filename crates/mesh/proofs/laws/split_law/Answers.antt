use Rattle.mesh.proofs.StepContents.{split_law}
use Rattle.mesh.proofs.laws.split_law.Goals as goal

pub returns : goal.returns
returns c = split_law
