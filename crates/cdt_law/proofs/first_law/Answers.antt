use Rattle.cdt_law.proofs.FirstSheet.{first_law}
use Rattle.cdt_law.proofs.first_law.Goals as goal

pub returns : goal.returns
returns c = first_law
