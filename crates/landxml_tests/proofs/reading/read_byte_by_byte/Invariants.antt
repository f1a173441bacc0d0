use Rattle.std.proofs.Common.{◌≡◌}
use Rattle.landxml_read.specs.Reader.{fed}
use Rattle.landxml_tests.proofs.reading.read_byte_by_byte.Given as goal

abbrev pub invariant-loop-b : goal.invariant-loop-b
invariant-loop-b l = fed l.reader ≡ l.b-index
