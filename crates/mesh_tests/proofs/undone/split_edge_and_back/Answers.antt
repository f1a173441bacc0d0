use Rattle.mesh_tests.proofs.undone.split_edge_and_back.Goals as goal

pub unsplit_edge-requires-clause-straight : goal.unsplit_edge-requires-clause-straight
unsplit_edge-requires-clause-straight c = c.can_unsplit_edge.ensures.straight c.if-not-can_unsplit_edge.false
