use Rattle.mesh_tests.proofs.random_steps.take_out.Goals as goal

pub unsplit_edge-requires-clause-straight : goal.unsplit_edge-requires-clause-straight
unsplit_edge-requires-clause-straight c = c.can_unsplit_edge.ensures.straight c.if-can_unsplit_edge.true

pub returns-in_ok-unsplit_edge-clause-suspects : goal.returns-in_ok-unsplit_edge-clause-suspects
returns-in_ok-unsplit_edge-clause-suspects c = c.in_ok-unsplit_edge.ensures.suspects c.requires.suspects
