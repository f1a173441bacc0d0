use Rattle.mesh_tests.proofs.undone.flip_and_back.Goals as goal

pub flip-requires-clause-convex : goal.flip-requires-clause-convex
flip-requires-clause-convex c = (c.can_flip.ensures c.if-not-can_flip.false).convex

pub flip-requires-2-clause-convex : goal.flip-requires-2-clause-convex
flip-requires-2-clause-convex c = (c.can_flip-2.ensures c.if-not-can_flip-2.false).convex
