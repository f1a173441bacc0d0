use Rattle.std.proofs.Common.{arith, take, subst, sym}
use Rattle.std.proofs.lemmas.List.{length-take-le, take_more}
use Rattle.landxml_surface.specs.Heights.{is_double, is_clash}
use Rattle.landxml_surface.specs.Notes.{AreHeights}
use Rattle.landxml_surface.proofs.Marks.{marked-few}
use Rattle.landxml_surface.proofs.heights.Heights.of.Goals as goal

pub note-requires-clause-doubles : goal.note-requires-clause-doubles
note-requires-clause-doubles c = omega (arith, c.loop-triple.invariant.doubles, marked-few is_double (take c.loop-triple.triple-index c.args.triples.now), length-take-le c.loop-triple.triple-index c.args.triples.now (omega (arith, c.loop-triple-test.true)), c.loop-triple-test.true, c.requires)

pub note-requires-clause-clashes : goal.note-requires-clause-clashes
note-requires-clause-clashes c = omega (arith, c.loop-triple.invariant.clashes, marked-few is_clash (take c.loop-triple.triple-index c.args.triples.now), length-take-le c.loop-triple.triple-index c.args.triples.now (omega (arith, c.loop-triple-test.true)), c.loop-triple-test.true, c.requires)

pub loop-triple-preserved : goal.loop-triple-preserved
loop-triple-preserved c =
    subst (λ ts. AreHeights ts c.note.new.self) (sym (take_more c.args.triples.now c.loop-triple.triple-index _ c.loop-triple-test.true))
    (c.in_ok-note.ensures (take c.loop-triple.triple-index c.args.triples.now) c.loop-triple.invariant)
