use Rattle.mesh.proofs.LineSides.{known_corner}
use Rattle.mesh.proofs.edge_line.is_flat.Goals as goal

pub side-requires-clause-a : goal.side-requires-clause-a
side-requires-clause-a c = known_corner c.args.a c.requires.a

pub side-requires-clause-b : goal.side-requires-clause-b
side-requires-clause-b c = known_corner c.args.b c.requires.b

pub side-requires-clause-c : goal.side-requires-clause-c
side-requires-clause-c c = known_corner c.args.c c.requires.c
