use Rattle.std.proofs.Common.{◌≡◌, ◌++◌, take}
use Rattle.std.specs.Prelude.{flat_map}
use Rattle.ground_model.specs.Loops.{facets_on}
use Rattle.slow_tri.proofs.triples.add_facets_from.Given as goal

abbrev pub invariant-loop-b : goal.invariant-loop-b
invariant-loop-b l = l.found.items ≡ l.fn.found.items ++ flat_map (facets_on l.points l.pieces l.a) (take l.b-index l.points)
