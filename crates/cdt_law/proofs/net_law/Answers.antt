use Rattle.cdt_law.proofs.FacetLaws.{net_law}
use Rattle.cdt_law.proofs.net_law.Goals as goal

pub returns : goal.returns
returns c = net_law
