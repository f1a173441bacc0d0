use Rattle.std.proofs.Common.{◌-◌, ◌≤◌, length, drop, take}
use Rattle.page_index.specs.Pairs.{AreBelow, AreFrom}
use Rattle.page_index.proofs.search.rank.Given as goal

abbrev pub invariant-loop-low : goal.invariant-loop-low
invariant-loop-low g l = AreBelow l.key (take l.low l.pairs) × AreFrom l.key (drop l.high l.pairs) × (l.low ≤ l.high) × (l.high ≤ length l.pairs)

abbrev pub decreases-loop-low : goal.decreases-loop-low
decreases-loop-low g l = l.high - l.low
