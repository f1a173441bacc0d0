use Rattle.std.proofs.Common.{take}
use Rattle.landxml_surface.specs.Notes.{AreHeights}
use Rattle.landxml_surface.proofs.heights.Heights.of.Given as goal

abbrev pub invariant-loop-triple : goal.invariant-loop-triple
invariant-loop-triple l = AreHeights (take l.triple-index l.triples) l.heights
