use Rattle.session.proofs.Runs.{transcript_law}
use Rattle.session.proofs.law.transcript_law.Goals as goal

pub returns : goal.returns
returns c = transcript_law
