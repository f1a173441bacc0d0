use Rattle.cdt_law.proofs.Renewed.{zone_law as law}
use Rattle.cdt_law.proofs.zone_law.Goals as goal

pub returns : goal.returns
returns c = law
