use Rattle.cdt_law.proofs.FlipLaws.{destroyed_law as law}
use Rattle.cdt_law.proofs.destroyed_law.Goals as goal

pub returns : goal.returns
returns c = law
