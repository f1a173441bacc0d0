use Rattle.std.proofs.Common.{inl}
use Rattle.mesh.proofs.DelaunayNets.{delaunay_legal}
use Rattle.mesh_tests.proofs.pairs.count_at.Goals as goal

pub legalize-requires-clause-suspects : goal.legalize-requires-clause-suspects
legalize-requires-clause-suspects c = c.in_ok-add_count.ensures.suspects (λ s k n x. inl (delaunay_legal c.args.mesh.now.slots c.requires.sheet c.requires.local s k n x))
