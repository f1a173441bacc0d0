use Rattle.std.proofs.Common.{◌≡◌, take}
use Rattle.std.specs.Prelude.{flat_map}
use Rattle.ground_model.specs.Loops.{facets_from}
use Rattle.slow_tri.proofs.triples.facets_by_loops.Given as goal

abbrev pub invariant-loop-a : goal.invariant-loop-a
invariant-loop-a l = l.found.items ≡ flat_map (facets_from l.points l.pieces) (take l.a-index l.points)
