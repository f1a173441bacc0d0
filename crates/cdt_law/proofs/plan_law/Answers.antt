use Rattle.cdt_law.proofs.PlanLaw.{plan_law as law}
use Rattle.cdt_law.proofs.plan_law.Goals as goal

pub returns : goal.returns
returns c = law
