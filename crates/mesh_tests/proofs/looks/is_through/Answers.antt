use Rattle.std.proofs.Common.{sym, subst}
use Rattle.predicates.specs.Far.{IsKnown}
use Rattle.mesh.specs.Net.{side, after}
use Rattle.mesh_tests.proofs.ReadAcrosses.{known}
use Rattle.mesh_tests.proofs.looks.is_through.Goals as goal

pub is_flat-requires-clause-a : goal.is_flat-requires-clause-a
is_flat-requires-clause-a c = subst IsKnown (sym c.seen_from-t.ensures.c) (known c.args.mesh.now.slots c.args.slot c.args.here.now (after (after (side c.args.corner))) c.requires.sheet c.requires.here)

pub is_flat-requires-clause-b : goal.is_flat-requires-clause-b
is_flat-requires-clause-b c = subst IsKnown (sym c.seen_from-t.ensures.a) (known c.args.mesh.now.slots c.args.slot c.args.here.now (side c.args.corner) c.requires.sheet c.requires.here)

pub is_flat-requires-clause-c : goal.is_flat-requires-clause-c
is_flat-requires-clause-c c =
    let x = c.args.x.now in
    subst IsKnown (sym c.seen_from-u.ensures.c) (known c.args.mesh.now.slots x.slot x.tri (after (after (side x.edge))) c.requires.sheet c.requires.across.there)
