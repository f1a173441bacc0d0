use Rattle.std.proofs.Common.{◌≡◌, take}
use Rattle.std.specs.List.{flat_map}
use Rattle.landxml_surface.specs.Faults.{range_faults, least_of}
use Rattle.landxml_surface.proofs.check.triples_fault.Given as goal

abbrev pub invariant-loop-triple : goal.invariant-loop-triple
invariant-loop-triple l = l.least ≡ least_of (flat_map (range_faults l.origin) (take l.triple-index l.triples))
