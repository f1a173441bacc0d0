use Rattle.std.proofs.Common.{◌≡◌, ◌+◌, length}
use Rattle.ground_model.specs.Line.{links}
use Rattle.line_table.proofs.SelfCrossings.{pair_from}
use Rattle.line_table.proofs.crossing.self_cross.Given as goal

abbrev pub invariant-links : goal.invariant-links
invariant-links l =
    (pair_from l.points 1 (links l.line) ≡ pair_from l.points l.number l.rest)
    × (l.number + length l.rest ≡ 1 + length (links l.line))

abbrev pub decreases-links : goal.decreases-links
decreases-links l = length l.rest
