use Rattle.cdt_law.proofs.CommonEdge.{edge_law}
use Rattle.cdt_law.proofs.edge_law.Goals as goal

pub returns : goal.returns
returns c = edge_law
