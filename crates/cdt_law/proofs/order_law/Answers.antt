use Rattle.cdt_law.proofs.Reordered.{order_law as law}
use Rattle.cdt_law.proofs.order_law.Goals as goal

pub returns : goal.returns
returns c = law
