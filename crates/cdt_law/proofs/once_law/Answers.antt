use Rattle.cdt_law.proofs.FacetsOnce.{once_law}
use Rattle.cdt_law.proofs.once_law.Goals as goal

pub returns : goal.returns
returns c = once_law
