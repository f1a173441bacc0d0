use Rattle.std.proofs.Common.{◌≡◌, ◌∙◌, refl, sym, ap, subst, List}
use Rattle.std.specs.Prelude.{slice_get, Some}
use Rattle.ground_model.specs.Place.{Coords}
use Rattle.ground_model.specs.Line.{Line}
use Rattle.landxml_write.specs.Text.{breakline_text, breakline_of}
use Rattle.landxml_write.proofs.Shown.{flat-more}
use Rattle.landxml_write.proofs.source.put_breaklines.Goals as goal

pub put_breakline-requires : goal.put_breakline-requires
put_breakline-requires g c =
    let line : Line = record { kind = c.in-Some.kind; places = c.in-Some.places.now } in
    let at : slice_get (g.E.Export.shown c.args.export.now).lines c.loop-k.k ≡ Some line = rw (← c.line.ensures, c.in-Some.is) refl in
    rw c.as_slice.ensures (c.lines-k-end.ensures.lawful.places c.loop-k.k line at)

pub loop-k-preserved : goal.loop-k-preserved
unfolding breakline_text
loop-k-preserved g c =
    let e = g.E.Export.shown c.args.export.now in
    let line : Line = record { kind = c.in-Some.kind; places = c.in-Some.places.now } in
    let at : slice_get e.lines c.loop-k.k ≡ Some line = rw (← c.line.ensures, c.in-Some.is) refl in
    let put = subst (λ (ps : List Coords). g.O.Output.Takes c.loop-k.out c.put_breakline.new.out (breakline_of e c.in-Some.kind ps)) c.as_slice.ensures c.put_breakline.ensures in
    subst (g.O.Output.Takes c.args.out.now c.put_breakline.new.out) (sym (flat-more (breakline_text e) e.lines c.loop-k.k line at)) (g.met.O.Output.takes_both _ _ _ _ _ c.loop-k.invariant put)
