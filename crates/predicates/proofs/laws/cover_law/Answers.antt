use Rattle.predicates.proofs.Cover.{covered}
use Rattle.predicates.proofs.laws.cover_law.Goals as goal

pub returns : goal.returns
returns c = covered
