use Rattle.mesh.proofs.DelaunayNets.{delaunay_law}
use Rattle.mesh.proofs.laws.delaunay_law.Goals as goal

pub returns : goal.returns
returns c = delaunay_law
