use Rattle.cdt_law.proofs.EdgeCounts.{count_law as law}
use Rattle.cdt_law.proofs.count_law.Goals as goal

pub returns : goal.returns
returns c = law
