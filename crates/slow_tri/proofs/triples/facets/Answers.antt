use Rattle.std.proofs.Common.{sym, ◌∙◌}
use Rattle.ground_model.proofs.Loops.{facets-loops}
use Rattle.slow_tri.proofs.triples.facets.Goals as goal

pub returns : goal.returns
returns c = c.from_vec.ensures ∙ c.in_ok-facets_by_loops.ensures ∙ sym (facets-loops c.args.points.now c.args.pieces.now)
