use Rattle.std.proofs.Common.{sym}
use Rattle.line_protocol.proofs.PlaceLists.{places_first}
use Rattle.line_protocol.proofs.line_edit.read_pair.Goals as goal

pub returns-in_ok-read_coordinates-in-Some-clause-pair : goal.returns-in_ok-read_coordinates-in-Some-clause-pair
returns-in_ok-read_coordinates-in-Some-clause-pair c =
    rw (c.in_ok-n.ensures.words, c.in-Some.ensures.words) (places_first c.in_ok-n.n.now c.in-Some.e.now c.in-Some.rest.now _ (sym c.in_ok-read_coordinates-in-Some.ensures.value))
