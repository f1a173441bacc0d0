use Rattle.point_edit.proofs.Shown.{content_law}
use Rattle.point_edit.proofs.laws.content_law.Goals as goal

pub returns : goal.returns
returns c = content_law
