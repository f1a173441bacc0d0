use Rattle.cdt_law.proofs.Vertices.{vertex_law as law}
use Rattle.cdt_law.proofs.vertex_law.Goals as goal

pub returns : goal.returns
returns c = law
