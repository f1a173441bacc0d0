use Rattle.std.proofs.Common.{arith}
use Rattle.std.proofs.lemmas.Int.{ints}
use Rattle.rings.proofs.tripled.Tripled.centre.Goals as goal

pub invariant_of-result : goal.invariant_of-result
invariant_of-result c = record {
  west = omega (arith, ints);
  east = omega (arith, ints);
  south = omega (arith, ints);
  north = omega (arith, ints);
}
