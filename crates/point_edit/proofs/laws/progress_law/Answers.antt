use Rattle.point_edit.proofs.Progress.{progress_law}
use Rattle.point_edit.proofs.laws.progress_law.Goals as goal

pub returns : goal.returns
returns c = progress_law
