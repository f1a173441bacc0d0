use Rattle.std.proofs.Common.{◌≡◌, ◌+◌, ◌∙◌, sym, ap, subst, take, [], ◌∷◌, ◌++◌, List, Bool}
use Rattle.std.specs.Prelude.{bytes_eq, not, Option}
use Rattle.std.proofs.Math.Bool.{not-not}
use Rattle.std.proofs.lemmas.List.{take_more}
use Rattle.indexmap.specs.IndexMap.{get_by}
use Rattle.landxml_read.specs.declared.fault.DocFault.{DocFault}
use Rattle.landxml_read.specs.declared.fault.DocCause.TheVariants.{Id}
use Rattle.landxml_read.specs.declared.raw.RawId.{RawId}
use Rattle.landxml_surface.specs.Faults.{id_faults, least_of, earlier_fault, when}
use Rattle.landxml_surface.specs.Ids.{AreIds, is_id}
use Rattle.landxml_surface.proofs.Least.{least-append}
use Rattle.landxml_surface.proofs.Named.{id_faults-more}
use Rattle.landxml_surface.proofs.ids.gather_ids.Goals as goal

pub loop-id-preserved : goal.loop-id-preserved
loop-id-preserved c =
    let before = take c.loop-id.id-index c.args.ids.now in
    let item = c.id-item.result in
    let noted = c.in_ok-is_new.ensures before c.loop-id.invariant.0 in
    let more : take (c.loop-id.id-index + 1) c.args.ids.now ≡ before ++ item ∷ [] = take_more c.args.ids.now c.loop-id.id-index item c.loop-id-test.true ∙ ap (λ (i : RawId). before ++ i ∷ []) (sym c.id-item.is) in
    let clash = ap not noted.0 ∙ not-not (is_id before item.id) in (
      subst (λ (is : List RawId). AreIds is (λ name. get_by (λ k. bytes_eq name k.now) c.note.new.self.triples)) (sym more) noted.1,
      c.earlier-least.ensures ∙ ap (λ (f : Option DocFault). earlier_fault f c.id_fault.result) c.loop-id.invariant.1
          ∙ ap (earlier_fault (least_of (id_faults [] before))) (c.id_fault.ensures ∙ ap (λ (b : Bool). least_of (when b item.at Id)) clash)
          ∙ sym (least-append (id_faults [] before) (when (is_id before item.id) item.at Id)) ∙ ap least_of (sym (id_faults-more [] before item)) ∙ ap (λ (is : List RawId). least_of (id_faults [] is)) (sym more),
    )
