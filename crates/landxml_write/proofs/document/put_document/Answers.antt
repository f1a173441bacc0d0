use Rattle.std.proofs.Common.{subst}
use Rattle.ground_num.specs.declared.head.Head.{Head}
use Rattle.landxml_write.specs.Text.{document, head_text}
use Rattle.landxml_write.proofs.document.put_document.Goals as goal

pub returns-clause-takes : goal.returns-clause-takes
unfolding document
returns-clause-takes g c =
    let both = g.met.O.Output.takes_both in
    let head = subst (λ (h : Head). g.O.Output.Takes c.args.out.now c.put_head.new.out (head_text h)) c.head.ensures.value c.put_head.ensures in
    both _ _ _ _ _ head (both _ _ _ _ _ c.put_source.ensures.takes (both _ _ _ _ _ c.put_definition.ensures c.put.ensures))
