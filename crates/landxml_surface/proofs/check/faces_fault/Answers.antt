use Rattle.std.proofs.Common.{◌∙◌, ap, take}
use Rattle.std.specs.Prelude.{Option}
use Rattle.std.specs.List.{flat_map}
use Rattle.landxml_read.specs.declared.fault.DocFault.{DocFault}
use Rattle.landxml_read.specs.declared.raw.RawFace.{RawFace}
use Rattle.landxml_surface.specs.Faults.{earlier_fault, face_faults, least_of}
use Rattle.landxml_surface.proofs.Least.{least-more}
use Rattle.landxml_surface.proofs.check.faces_fault.Goals as goal

pub loop-face-preserved : goal.loop-face-preserved
loop-face-preserved c is are =
    c.earlier-least.ensures ∙ ap (λ (f : Option DocFault). earlier_fault f c.face_fault.result) (c.loop-face.invariant is are) ∙ ap (earlier_fault _) (c.face_fault.ensures is are)
    ∙ ap (earlier_fault (least_of (flat_map (face_faults is) (take c.loop-face.face-index c.args.faces.now)))) (ap (λ (f : RawFace). least_of (face_faults is f)) c.face-item.is)
    ∙ least-more (face_faults is) c.args.faces.now c.loop-face.face-index c.face-item.result c.loop-face-test.true
