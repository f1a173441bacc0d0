use Rattle.mesh.proofs.UnsplitContents.{unsplit_law}
use Rattle.mesh.proofs.laws.unsplit_law.Goals as goal

pub returns : goal.returns
returns c = unsplit_law
