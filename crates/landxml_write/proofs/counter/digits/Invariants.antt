use Rattle.std.proofs.Common.{◌+◌, ◌-◌, ◌≡◌, ◌≤◌, ◌<◌, ◌^◌, length, ℕ, ◌*◌}
use Rattle.std.specs.Fmt.{decimal}
use Rattle.landxml_write.proofs.counter.digits.Given as goal

abbrev pub invariant-loop-rest : goal.invariant-loop-rest
invariant-loop-rest l = (l.count + length (decimal l.rest) ≡ 1 + length (decimal l.number)) × (l.rest < 2 ^ 64)

abbrev pub decreases-loop-rest : goal.decreases-loop-rest
decreases-loop-rest l = l.rest
