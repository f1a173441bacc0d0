use Rattle.std.proofs.Common.{◌≡◌, ◌+◌, ◌∙◌, arith, refl, sym, ap, subst}
use Rattle.std.specs.Prelude.{slice_get, Some, None, get_or}
use Rattle.std.proofs.lemmas.Option.{slice_get-get_or}
use Rattle.landxml_write.specs.Exports.{Face, first_after}
use Rattle.landxml_write.specs.Found.{last_of}
use Rattle.landxml_write.specs.Text.{face_text}
use Rattle.landxml_write.proofs.Shown.{flat-more}
use Rattle.landxml_write.proofs.Faces.{face-at, no-gap, last-more}
use Rattle.landxml_write.proofs.definition.put_faces.Goals as goal

pub unreachable-requires : goal.unreachable-requires
unreachable-requires g c =
    let e = g.E.Export.shown c.args.export.now in
    no-gap e.faces c.faces-index-end.ensures.lawful.faces c.loop-index._index c.loop-index.last c.loop-index.invariant.1 (omega (arith, c.faces-index-end.ensures.value, c.loop-index-test.true)) (sym c.face_after.ensures ∙ c.in_default.is)

pub put_face-requires-clause-a : goal.put_face-requires-clause-a
put_face-requires-clause-a g c =
    let e = g.E.Export.shown c.args.export.now in
    let lawful = c.faces-index-end.ensures.lawful in
    let at = face-at e.faces lawful.faces c.loop-index._index c.loop-index.last (c.in-Some.facet, c.in-Some.is_kept) c.loop-index.invariant.1 (omega (arith, c.faces-index-end.ensures.value, c.loop-index-test.true)) (sym c.face_after.ensures ∙ c.in-Some.is) in
    lawful.a c.loop-index._index (c.in-Some.facet, c.in-Some.is_kept) at

pub put_face-requires-clause-b : goal.put_face-requires-clause-b
put_face-requires-clause-b g c =
    let e = g.E.Export.shown c.args.export.now in
    let lawful = c.faces-index-end.ensures.lawful in
    let at = face-at e.faces lawful.faces c.loop-index._index c.loop-index.last (c.in-Some.facet, c.in-Some.is_kept) c.loop-index.invariant.1 (omega (arith, c.faces-index-end.ensures.value, c.loop-index-test.true)) (sym c.face_after.ensures ∙ c.in-Some.is) in
    lawful.b c.loop-index._index (c.in-Some.facet, c.in-Some.is_kept) at

pub put_face-requires-clause-c : goal.put_face-requires-clause-c
put_face-requires-clause-c g c =
    let e = g.E.Export.shown c.args.export.now in
    let lawful = c.faces-index-end.ensures.lawful in
    let at = face-at e.faces lawful.faces c.loop-index._index c.loop-index.last (c.in-Some.facet, c.in-Some.is_kept) c.loop-index.invariant.1 (omega (arith, c.faces-index-end.ensures.value, c.loop-index-test.true)) (sym c.face_after.ensures ∙ c.in-Some.is) in
    lawful.c c.loop-index._index (c.in-Some.facet, c.in-Some.is_kept) at

pub loop-index-preserved : goal.loop-index-preserved
loop-index-preserved g c =
    let e = g.E.Export.shown c.args.export.now in
    let face : Face = (c.in-Some.facet, c.in-Some.is_kept) in
    let at = face-at e.faces c.faces-index-end.ensures.lawful.faces c.loop-index._index c.loop-index.last face c.loop-index.invariant.1 (omega (arith, c.faces-index-end.ensures.value, c.loop-index-test.true)) (sym c.face_after.ensures ∙ c.in-Some.is) in
    let put = g.met.O.Output.takes_both _ _ _ _ _ c.loop-index.invariant.0 c.put_face.ensures in
    (subst (g.O.Output.Takes c.args.out.now c.put_face.new.out) (sym (flat-more (face_text e) e.faces c.loop-index._index face at)) put, last-more e.faces c.loop-index._index face at)
