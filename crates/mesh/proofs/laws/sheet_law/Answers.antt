use Rattle.mesh.proofs.NetOfMesh.{net_law}
use Rattle.mesh.proofs.SheetLaw.{sheet_law}
use Rattle.mesh.proofs.laws.sheet_law.Goals as goal

pub returns-clause-sheet : goal.returns-clause-sheet
returns-clause-sheet c = sheet_law

pub returns-clause-net : goal.returns-clause-net
returns-clause-net c = net_law
