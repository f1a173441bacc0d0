use Rattle.document_law.proofs.Reload.{reload_law}
use Rattle.document_law.proofs.reload_law.Goals as goal

pub returns : goal.returns
returns c = reload_law
