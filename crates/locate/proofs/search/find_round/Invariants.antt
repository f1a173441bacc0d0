use Rattle.locate.specs.Facets.{IsCornerOf}
use Rattle.locate.proofs.search.find_round.Given as goal

abbrev pub invariant-loop : goal.invariant-loop
invariant-loop l = IsCornerOf l.mesh.slots l.at.0 l.at.1 l.facet.a
