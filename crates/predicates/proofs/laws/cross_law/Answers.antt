use Rattle.predicates.proofs.NeverCross.{never_cross}
use Rattle.predicates.proofs.laws.cross_law.Goals as goal

pub returns : goal.returns
returns c = never_cross
