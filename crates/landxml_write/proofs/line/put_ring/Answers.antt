use Rattle.landxml_write.proofs.line.put_ring.Goals as goal

pub returns : goal.returns
returns g c =
    let both = g.met.O.Output.takes_both in
    both _ _ _ _ _ c.put.ensures (both _ _ _ _ _ c.put-2.ensures (both _ _ _ _ _ c.put-3.ensures (both _ _ _ _ _ c.put_closed.ensures c.put-4.ensures)))
