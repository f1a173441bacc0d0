use Rattle.std.proofs.Common.{ℕ, ◌+◌, drop}
use Rattle.ground_num.specs.FirstFault.{IsFirstFault}
use Rattle.line_protocol.specs.Scanning.{EndsNumbers}
use Rattle.line_protocol.proofs.fault.numbers_fault.Given as goal

-- the fault offset of what is left is that of the whole
abbrev pub invariant-loop-i : goal.invariant-loop-i
invariant-loop-i l = (k : ℕ) → IsFirstFault (EndsNumbers l.scan) (drop l.i l.text) k → IsFirstFault (EndsNumbers l.fn.scan) l.text (l.i + k)
