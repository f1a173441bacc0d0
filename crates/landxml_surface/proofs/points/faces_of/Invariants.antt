use Rattle.std.proofs.Common.{◌≡◌, take}
use Rattle.std.specs.Prelude.{filter_map}
use Rattle.landxml_surface.specs.Drafts.{face_of}
use Rattle.landxml_surface.proofs.points.faces_of.Given as goal

abbrev pub invariant-loop-face : goal.invariant-loop-face
invariant-loop-face l = l.faces.items ≡ filter_map (face_of l.origin l.surface) (take l.face-index l.surface.faces)
