use Rattle.predicates.proofs.OneOwner.{one_on_edge}
use Rattle.predicates.proofs.laws.owner_law.Goals as goal

pub returns : goal.returns
returns c = one_on_edge
