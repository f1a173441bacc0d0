use Rattle.cdt_law.proofs.FacetLaws.{facet_law}
use Rattle.cdt_law.proofs.facet_law.Goals as goal

pub returns : goal.returns
returns c = facet_law
