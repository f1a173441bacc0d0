use Rattle.point_edit.proofs.Straight.{straight_law}
use Rattle.point_edit.proofs.laws.straight_law.Goals as goal

pub returns : goal.returns
returns c = straight_law
