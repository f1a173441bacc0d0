use Rattle.std.proofs.Common.{sym, subst}
use Rattle.predicates.specs.Sheet.{IsLocallyDelaunay}
use Rattle.mesh.specs.Sheets.{IsSheetMesh, net_in}
use Rattle.mesh.proofs.StepSheets.{far_sheet}
use Rattle.mesh.proofs.DelaunayNets.{far_delaunay}
use Rattle.mesh.proofs.mesh.Mesh.empty.Goals as goal

pub returns-clause-sheet : goal.returns-clause-sheet
returns-clause-sheet c = subst IsSheetMesh (sym c.in_ok-pages.ensures) far_sheet

pub returns-clause-delaunay : goal.returns-clause-delaunay
returns-clause-delaunay c = subst (λ ps. IsLocallyDelaunay (net_in ps)) (sym c.in_ok-pages.ensures) far_delaunay
