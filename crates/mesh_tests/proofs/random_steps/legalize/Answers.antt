use Rattle.std.proofs.Common.{inl}
use Rattle.mesh.proofs.DelaunayNets.{delaunay_legal}
use Rattle.mesh_tests.proofs.random_steps.legalize.Goals as goal

pub returns-clause-suspects : goal.returns-clause-suspects
returns-clause-suspects c = λ s k n x. inl (delaunay_legal c.legalize.new.self.slots c.in_ok-legalize.ensures.sheet c.in_ok-legalize.ensures.delaunay s k n x)
