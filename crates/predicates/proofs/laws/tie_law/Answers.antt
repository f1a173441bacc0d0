use Rattle.predicates.proofs.Untied.{never_ties}
use Rattle.predicates.proofs.laws.tie_law.Goals as goal

pub returns : goal.returns
returns c = never_ties
