use Rattle.std.proofs.Common.{◌-◌}
use Rattle.page_index.specs.Parts.{IsBetween}
use Rattle.page_index.proofs.node.place_of.Given as goal

abbrev pub invariant-loop-high : goal.invariant-loop-high
invariant-loop-high g l = IsBetween l.key l.low l.high l.kids.items

abbrev pub decreases-loop-high : goal.decreases-loop-high
decreases-loop-high g l = l.high - l.low
