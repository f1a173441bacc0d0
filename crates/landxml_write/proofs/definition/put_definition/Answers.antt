use Rattle.landxml_write.specs.Text.{definition_text}
use Rattle.landxml_write.proofs.definition.put_definition.Goals as goal

pub returns : goal.returns
unfolding definition_text
returns g c =
    let both = g.met.O.Output.takes_both in
    both _ _ _ _ _ c.put.ensures (both _ _ _ _ _ c.put_points.ensures (both _ _ _ _ _ c.put-2.ensures (both _ _ _ _ _ c.put_faces.ensures c.put-3.ensures)))
