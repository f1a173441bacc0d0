use Rattle.cdt_law.proofs.FlipLaws.{edit_law as law}
use Rattle.cdt_law.proofs.edit_law.Goals as goal

pub returns : goal.returns
returns c = law
