use Rattle.crossing_law.proofs.Ties.{tie_law}
use Rattle.crossing_law.proofs.tie_law.Goals as goal

pub returns : goal.returns
returns c = tie_law
