use Rattle.std.proofs.Common.{arith}
use Rattle.std.proofs.lemmas.Int.{ints, to_z-of_z}
use Rattle.point_table.proofs.points.key_of.Goals as goal

pub returns-clause-key : goal.returns-clause-key
returns-clause-key c = first_of (omega (arith, ints), grind (arith, ints, to_z-of_z))
