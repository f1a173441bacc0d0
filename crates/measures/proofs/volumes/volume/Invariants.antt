use Rattle.std.proofs.Common.{take}
use Rattle.std.specs.List.{filter_map}
use Rattle.measures.specs.Volumes.{IsSumOf}
use Rattle.measures.proofs.volumes.volume.Given as goal

abbrev pub invariant-loop-slot : goal.invariant-loop-slot
invariant-loop-slot g l = IsSumOf l.datum (filter_map (λ slope. slope) (take l.slot (g.R.Relief.table l.relief))) l.sum
