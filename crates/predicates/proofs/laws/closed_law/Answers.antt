use Rattle.predicates.proofs.ClosedLaw.{closed_law as law}
use Rattle.predicates.proofs.laws.closed_law.Goals as goal

pub returns : goal.returns
returns c = law
