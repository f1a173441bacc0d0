use Rattle.landxml_write.specs.Text.{head_text}
use Rattle.landxml_write.proofs.head.put_head.Goals as goal

pub returns : goal.returns
unfolding head_text
returns g c =
    let both = g.met.O.Output.takes_both in
    both _ _ _ _ _ c.put.ensures (both _ _ _ _ _ c.put_unit.ensures (both _ _ _ _ _ c.put-2.ensures (both _ _ _ _ _ c.put_name.ensures c.put-3.ensures)))
