use Rattle.point_edit.proofs.Removables.{removable_law}
use Rattle.point_edit.proofs.laws.removable_law.Goals as goal

pub returns : goal.returns
returns c = removable_law
