use Rattle.std.proofs.Common.{◌-◌, length, ◌≤◌}
use Rattle.landxml_write.specs.Found.{IsWithin}
use Rattle.landxml_write.proofs.find.index_of.Given as goal

abbrev pub invariant-loop-high : goal.invariant-loop-high
invariant-loop-high g l = IsWithin (g.E.Export.shown l.export).points l.place l.low l.high × (l.high ≤ length (g.E.Export.shown l.export).points)

abbrev pub decreases-loop-high : goal.decreases-loop-high
decreases-loop-high g l = l.high - l.low
