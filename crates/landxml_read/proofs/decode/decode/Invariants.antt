use Rattle.std.proofs.Common.{◌≡◌, take, Some}
use Rattle.landxml_read.specs.Decoding.{no_decoding, decoding_run}
use Rattle.landxml_read.proofs.decode.decode.Given as goal

abbrev pub invariant-loop-b : goal.invariant-loop-b
invariant-loop-b l = decoding_run (Some no_decoding) (take l.b-index l.value) ≡ Some l.decoding
