use Rattle.std.proofs.Common.{◌≡◌, ◌++◌, take}
use Rattle.std.specs.Prelude.{filter_map}
use Rattle.ground_model.specs.Loops.{facet_at}
use Rattle.slow_tri.proofs.triples.add_facets_on.Given as goal

abbrev pub invariant-loop-c : goal.invariant-loop-c
invariant-loop-c l = l.found.items ≡ l.fn.found.items ++ filter_map (facet_at l.points l.pieces l.a l.b) (take l.c-index l.points)
