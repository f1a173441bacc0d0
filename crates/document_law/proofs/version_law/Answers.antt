use Rattle.document_law.proofs.Histories.{version_law}
use Rattle.document_law.proofs.version_law.Goals as goal

pub returns : goal.returns
returns c = version_law
