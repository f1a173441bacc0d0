use Rattle.mesh_tests.proofs.random_steps.turn.Goals as goal

pub flip-requires-clause-convex : goal.flip-requires-clause-convex
flip-requires-clause-convex c = (c.can_flip.ensures c.if-can_flip.true).convex
