use Rattle.crossing_law.proofs.Runs.{run_law}
use Rattle.crossing_law.proofs.run_law.Goals as goal

pub returns : goal.returns
returns c = run_law
