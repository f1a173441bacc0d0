use Rattle.landxml_write.proofs.line.put_next.Goals as goal

pub returns : goal.returns
returns g c = g.met.O.Output.takes_both _ _ _ _ _ c.put.ensures c.put_place.ensures
