use Rattle.cdt_law.proofs.FacetLaws.{unique_law}
use Rattle.cdt_law.proofs.unique_law.Goals as goal

pub returns : goal.returns
returns c = unique_law
