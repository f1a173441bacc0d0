use Rattle.std.specs.Prelude.{◌-ℤ◌, unsigned_abs}
use Rattle.crossing_law.specs.Runs.{along}
use Rattle.line_edit.proofs.Marches.{IsUpTo}
use Rattle.line_edit.proofs.march.way_from.Given as goal

abbrev pub invariant-points : goal.invariant-points
invariant-points l = IsUpTo l.mesh.slots l.p l.q l.place l.at.slot l.at.edge l.points.items l.met

abbrev pub decreases-points : goal.decreases-points
decreases-points l = unsigned_abs (along l.p l.q l.q -ℤ along l.p l.q l.place)
