use Rattle.landxml_write.specs.Text.{face_text}
use Rattle.landxml_write.proofs.definition.put_face.Goals as goal

pub returns : goal.returns
unfolding face_text
returns g c =
    let both = g.met.O.Output.takes_both in
    both _ _ _ _ _ c.put_tag.ensures (both _ _ _ _ _ c.put_id.ensures (both _ _ _ _ _ c.put.ensures (both _ _ _ _ _ c.put_id-2.ensures (both _ _ _ _ _ c.put-2.ensures (both _ _ _ _ _ c.put_id-3.ensures c.put-3.ensures)))))
