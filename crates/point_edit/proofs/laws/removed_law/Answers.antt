use Rattle.point_edit.proofs.RemovedContents.{removed_law}
use Rattle.point_edit.proofs.laws.removed_law.Goals as goal

pub returns : goal.returns
returns c = removed_law
