use Rattle.cdt_law.proofs.KeptPieces.{piece_law as law}
use Rattle.cdt_law.proofs.piece_law.Goals as goal

pub returns : goal.returns
returns c = law
