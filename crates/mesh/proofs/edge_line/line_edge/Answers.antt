use Rattle.std.proofs.Common.{sym, subst}
use Rattle.predicates.specs.Far.{IsKnown}
use Rattle.mesh.specs.Net.{side, after}
use Rattle.mesh.proofs.edge_line.line_edge.Goals as goal

pub is_flat-requires-clause-a : goal.is_flat-requires-clause-a
is_flat-requires-clause-a g c = subst IsKnown (sym c.seen_from-t.ensures.c) ((c.requires.sheet.turned c.args.slot c.read_live-here.result c.read_live-here.ensures.is).known (after (after (side c.args.corner))))

pub is_flat-requires-clause-b : goal.is_flat-requires-clause-b
is_flat-requires-clause-b g c = subst IsKnown (sym c.seen_from-t.ensures.a) ((c.requires.sheet.turned c.args.slot c.read_live-here.result c.read_live-here.ensures.is).known (side c.args.corner))

pub is_flat-requires-clause-c : goal.is_flat-requires-clause-c
is_flat-requires-clause-c g c =
    let x = c.read_across-across.result in
    subst IsKnown (sym c.seen_from-u.ensures.c) ((c.requires.sheet.turned x.slot x.tri c.read_across-across.ensures.across.there).known (after (after (side x.edge))))
