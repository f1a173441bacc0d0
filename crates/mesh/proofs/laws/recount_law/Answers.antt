use Rattle.mesh.proofs.StepContents.{recount_law}
use Rattle.mesh.proofs.laws.recount_law.Goals as goal

pub returns : goal.returns
returns c = recount_law
