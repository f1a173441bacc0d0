use Rattle.ground_model.specs.declared.corner.Corner.TheVariants.{At}
use Rattle.mesh.specs.Sheets.{IsSheetMesh}
use Rattle.mesh.specs.Suspects.{KeepsSuspects}
use Rattle.locate.specs.Facets.{IsCornerOf}
use Rattle.point_edit.specs.Degrees.{degree}
use Rattle.point_edit.specs.Removals.{FlipsAt}
use Rattle.point_edit.proofs.remove.flip_down.Given as goal

abbrev pub invariant-loop-found : goal.invariant-loop-found
invariant-loop-found l = IsSheetMesh l.mesh.slots × IsCornerOf l.mesh.slots l.at.slot l.at.corner l.point × FlipsAt (At l.point) l.fn.mesh l.mesh l.fn.script l.script × KeepsSuspects l.fn.mesh.slots l.mesh.slots l.fn.script l.script

abbrev pub decreases-loop-found : goal.decreases-loop-found
decreases-loop-found l = degree l.mesh.slots (At l.point)
