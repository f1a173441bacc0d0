use Rattle.cdt_law.proofs.Patched.{patch_law as law}
use Rattle.cdt_law.proofs.patch_law.Goals as goal

pub returns : goal.returns
returns c = law
