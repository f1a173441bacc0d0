use Rattle.std.proofs.Common.{◌≡◌, List, take}
use Rattle.std.specs.Prelude.{bytes_eq}
use Rattle.std.specs.List.{flat_map}
use Rattle.indexmap.specs.IndexMap.{get_by}
use Rattle.landxml_read.specs.declared.raw.RawId.{RawId}
use Rattle.landxml_surface.specs.Faults.{face_faults, least_of}
use Rattle.landxml_surface.specs.Ids.{AreIds}
use Rattle.landxml_surface.proofs.check.faces_fault.Given as goal

abbrev pub invariant-loop-face : goal.invariant-loop-face
invariant-loop-face l = (is : List RawId) → AreIds is (λ name. get_by (λ k. bytes_eq name k.now) l.ids.triples) → l.least ≡ least_of (flat_map (face_faults is) (take l.face-index l.faces))
