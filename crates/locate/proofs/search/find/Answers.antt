use Rattle.mesh.specs.Net.{side}
use Rattle.locate.proofs.Facets.{none_inside, none_on_edge}
use Rattle.locate.proofs.search.find.Goals as goal

pub returns-in-Inside-clause-none : goal.returns-in-Inside-clause-none
returns-in-Inside-clause-none c = none_inside c.args.mesh.now.slots c.args.facet.now c.requires.sheet c.e-easting.ensures.place c.in-Inside.field-0 c.in-Inside.ensures.0 c.in-Inside.ensures.1

pub returns-in-OnEdge-clause-none : goal.returns-in-OnEdge-clause-none
returns-in-OnEdge-clause-none c =
    let e = c.in-OnEdge.ensures in
    none_on_edge c.args.mesh.now.slots c.args.facet.now c.requires.sheet c.e-easting.ensures.place c.in-OnEdge.field-0 (side c.in-OnEdge.field-1) e.0 e.2
