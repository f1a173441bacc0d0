use Rattle.std.proofs.Common.{◌≡◌, take, Some}
use Rattle.ground_num.specs.declared.reading.Reading.TheVariants.{Start}
use Rattle.ground_num.proofs.Scan.{run}
use Rattle.ground_num.proofs.reading.first_fault.Given as goal

abbrev pub invariant-loop-k : goal.invariant-loop-k
invariant-loop-k l = run (Some Start) (take l.k l.text) ≡ Some l.state
