use Rattle.cdt_law.proofs.FlipLaws.{flip_law as law}
use Rattle.cdt_law.proofs.flip_law.Goals as goal

pub returns : goal.returns
returns c = law
