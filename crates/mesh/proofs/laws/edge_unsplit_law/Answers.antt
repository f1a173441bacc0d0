use Rattle.mesh.proofs.EdgeUnsplitContents.{edge_unsplit_law}
use Rattle.mesh.proofs.laws.edge_unsplit_law.Goals as goal

pub returns : goal.returns
returns c = edge_unsplit_law
