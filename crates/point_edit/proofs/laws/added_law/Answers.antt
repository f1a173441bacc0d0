use Rattle.point_edit.proofs.Shown.{added_law}
use Rattle.point_edit.proofs.laws.added_law.Goals as goal

pub returns : goal.returns
returns c = added_law
