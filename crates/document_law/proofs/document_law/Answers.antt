use Rattle.document_law.proofs.ReadBack.{document_law}
use Rattle.document_law.proofs.document_law.Goals as goal

pub returns : goal.returns
returns c = document_law
