use Rattle.landxml_write.proofs.Sizes.{vertex_short}
use Rattle.landxml_write.proofs.vertex.put_vertex.Goals as goal

pub returns-clause-takes : goal.returns-clause-takes
returns-clause-takes g c =
    let both = g.met.O.Output.takes_both in
    both _ _ _ _ _ c.put_northing.ensures.takes (both _ _ _ _ _ c.put.ensures (both _ _ _ _ _ c.put_easting.ensures.takes (both _ _ _ _ _ c.put-2.ensures c.put_level.ensures.takes)))

pub returns-clause-short : goal.returns-clause-short
returns-clause-short g c = vertex_short c.args.origin.now c.args.place c.args.level c.put_northing.ensures.short c.put_easting.ensures.short c.put_level.ensures.short
