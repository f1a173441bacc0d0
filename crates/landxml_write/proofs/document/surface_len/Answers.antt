use Rattle.std.proofs.Common.{arith, subst, ◌<◌, length}
use Rattle.ground_num.specs.declared.head.Head.{Head}
use Rattle.ground_num.specs.Names.{IsName}
use Rattle.landxml_write.proofs.Sizes.{document_short}
use Rattle.landxml_write.proofs.document.surface_len.Goals as goal

pub returns-clause-bound : goal.returns-clause-bound
returns-clause-bound g c =
    document_short (g.E.Export.shown c.args.export.now) c.points-points.ensures.lawful c.put_document.ensures.short
    (omega (arith, c.points-points.ensures.value)) (omega (arith, c.lines-lines.ensures.value)) (omega (arith, c.faces-faces.ensures.value))
    (subst (λ (h : Head). IsName h.name) c.head.ensures.value c.len-name.ensures.name)
