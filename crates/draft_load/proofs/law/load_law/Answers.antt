use Rattle.draft_load.proofs.LoadedAgain.{load_law}
use Rattle.draft_load.proofs.law.load_law.Goals as goal

pub returns : goal.returns
returns c = load_law
