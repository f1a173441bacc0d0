use Rattle.std.proofs.Common.{ap, ◌∙◌}
use Rattle.predicates.specs.Sign.{sign}
use Rattle.predicates.proofs.FarOrientations.{with-first, with-second, with-last}
use Rattle.predicates.proofs.far.side_with_far.Goals as goal

pub returns-in-Far : goal.returns-in-Far
returns-in-Far c =
    let known = c.requires in
    c.side_with.ensures ∙ ap sign (with-last c.args.a c.args.b c.args.c c.in-Far.k known.a known.b known.c c.in-Far.is)

pub returns-in-Far-b : goal.returns-in-Far-b
returns-in-Far-b c =
    let known = c.requires in
    c.side_with-in-Far-b.ensures ∙ ap sign (with-second c.args.a c.args.b c.args.c c.in-Far-b.k known.a known.b known.c c.in-Far-b.is)

pub returns-in-Far-a : goal.returns-in-Far-a
returns-in-Far-a c =
    let known = c.requires in
    c.side_with-in-Far-a.ensures ∙ ap sign (with-first c.args.a c.args.b c.args.c c.in-Far-a.k known.a known.b known.c c.in-Far-a.is)
