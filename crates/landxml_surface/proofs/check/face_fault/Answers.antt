use Rattle.std.proofs.Common.{◌∙◌, sym, ap, not, Bool, List, ℕ}
use Rattle.std.specs.Prelude.{is_some, bytes_eq, ◌&&◌}
use Rattle.indexmap.specs.IndexMap.{get_by}
use Rattle.landxml_read.specs.declared.fault.DocCause.TheVariants.{Face}
use Rattle.landxml_surface.specs.Faults.{least_of, when}
use Rattle.landxml_surface.proofs.Named.{is_id-some}
use Rattle.landxml_surface.proofs.check.face_fault.Goals as goal

pub returns : goal.returns
returns c is are =
    let look = λ (name : List ℕ). get_by (λ k. bytes_eq name k.now) c.args.ids.now.triples in
    let a = c.is_some-a.ensures ∙ ap is_some (c.triple.ensures ∙ ap look c.as_bytes.ensures.bytes ∙ are c.args.face.now.a) ∙ sym (is_id-some is c.args.face.now.a) in
    let b = c.is_some-b.ensures ∙ ap is_some (c.triple-2.ensures ∙ ap look c.as_bytes-2.ensures.bytes ∙ are c.args.face.now.b) ∙ sym (is_id-some is c.args.face.now.b) in
    let d = c.is_some-c.ensures ∙ ap is_some (c.triple-3.ensures ∙ ap look c.as_bytes-3.ensures.bytes ∙ are c.args.face.now.c) ∙ sym (is_id-some is c.args.face.now.c) in
    c.fault_if.ensures ∙ ap (λ (t : Bool). least_of (when (not t) c.args.face.now.at Face)) (c.all_three.ensures ∙ (λ i. a i && b i && d i))
