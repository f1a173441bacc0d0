use Rattle.locate.specs.Spots.{HasNoneBefore}
use Rattle.locate.proofs.scan.scan.Given as goal

abbrev pub invariant-loop-slot : goal.invariant-loop-slot
invariant-loop-slot l = HasNoneBefore l.mesh.slots l.slot l.place
