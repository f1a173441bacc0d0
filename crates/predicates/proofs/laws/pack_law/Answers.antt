use Rattle.predicates.proofs.FarTriangle.{packed}
use Rattle.predicates.proofs.laws.pack_law.Goals as goal

pub returns : goal.returns
returns c = packed
