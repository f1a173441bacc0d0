use Rattle.mesh.proofs.EdgeContents.{edge_split_law}
use Rattle.mesh.proofs.laws.edge_split_law.Goals as goal

pub returns : goal.returns
returns c = edge_split_law
