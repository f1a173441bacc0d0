use Rattle.landxml_write.specs.Text.{source_text}
use Rattle.landxml_write.proofs.source.put_source.Goals as goal

pub returns-clause-takes : goal.returns-clause-takes
unfolding source_text
returns-clause-takes g c =
    let both = g.met.O.Output.takes_both in
    both _ _ _ _ _ c.put.ensures (both _ _ _ _ _ c.put_boundaries.ensures (both _ _ _ _ _ c.put-2.ensures (both _ _ _ _ _ c.put_breaklines.ensures
    (both _ _ _ _ _ c.put-3.ensures (both _ _ _ _ _ c.put_data_points.ensures.takes c.put-4.ensures)))))
