use Rattle.std.proofs.Common.{◌≡◌, List, take}
use Rattle.std.specs.List.{flat_map}
use Rattle.landxml_read.specs.declared.raw.Triple.{Triple}
use Rattle.landxml_surface.specs.Faults.{pair_faults, least_of}
use Rattle.landxml_surface.specs.Notes.{AreHeights}
use Rattle.landxml_surface.proofs.check.pairs_fault.Given as goal

abbrev pub invariant-loop-pair : goal.invariant-loop-pair
invariant-loop-pair l = (ts : List Triple) → AreHeights ts l.heights → l.least ≡ least_of (flat_map (pair_faults ts) (take l.pair-index l.pairs))
