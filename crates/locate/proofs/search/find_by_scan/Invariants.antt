use Rattle.locate.specs.Facets.{HasNoFacetBefore}
use Rattle.locate.proofs.search.find_by_scan.Given as goal

abbrev pub invariant-loop-slot : goal.invariant-loop-slot
invariant-loop-slot l = HasNoFacetBefore l.mesh.slots l.slot l.facet
