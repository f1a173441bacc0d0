use Rattle.std.proofs.Common.{List, ℕ, subst}
use Rattle.ground_num.specs.declared.head.Origin.{Origin}
use Rattle.landxml_write.specs.Text.{point_text, vertex_text}
use Rattle.landxml_write.proofs.definition.put_point.Goals as goal

pub returns : goal.returns
unfolding point_text
returns g c =
    let both = g.met.O.Output.takes_both in
    let vertex = subst (λ (o : Origin). g.O.Output.Takes c.put-2.new.self c.put_vertex.new.out (vertex_text o c.args.vertex.now)) c.origin_of.ensures.origin c.put_vertex.ensures.takes in
    both _ _ _ _ _ c.put.ensures (both _ _ _ _ _ c.put_number.ensures (both _ _ _ _ _ c.put-2.ensures (both _ _ _ _ _ vertex c.put-3.ensures)))
