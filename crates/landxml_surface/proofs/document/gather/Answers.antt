use Rattle.std.proofs.Common.{◌∙◌, ap, subst, [], List}
use Rattle.std.specs.Prelude.{bytes_eq}
use Rattle.std.specs.List.{flat_map}
use Rattle.indexmap.specs.IndexMap.{get_by}
use Rattle.landxml_read.specs.declared.raw.Pair2.{Pair2}
use Rattle.landxml_read.specs.declared.raw.RawFace.{RawFace}
use Rattle.landxml_read.specs.declared.raw.RawId.{RawId}
use Rattle.landxml_read.specs.declared.raw.Triple.{Triple}
use Rattle.landxml_surface.specs.Faults.{range_faults, pair_faults, id_faults, face_faults, earlier_fault, least_of}
use Rattle.landxml_surface.specs.Ids.{AreIds}
use Rattle.landxml_surface.specs.Origins.{origin_by}
use Rattle.landxml_surface.specs.Notes.{AreHeights}
use Rattle.landxml_surface.proofs.Surface.{surface-least}
use Rattle.landxml_surface.proofs.document.gather.Goals as goal

pub returns-clause-least : goal.returns-clause-least
returns-clause-least c =
    let s = c.args.surface.now in
    let origin = c.origin_by-origin.ensures.origin ∙ ap (origin_by c.args.rule) c.as_slice.ensures.values in
    let heights = subst (λ (ts : List Triple). AreHeights ts c.in_ok-heights.heights) c.as_slice-2.ensures.values c.in_ok-heights.ensures in
    let ids = subst (λ (is : List RawId). AreIds is (λ name. get_by (λ k. bytes_eq name k.now) c.in_ok-ids.ids.triples)) c.as_slice-3.ensures.values c.in_ok-ids.ensures.0 in
    let far = c.triples_fault-far.ensures ∙ (λ i. least_of (flat_map (range_faults (origin i)) (c.as_slice-4.ensures.values i))) in
    let low = c.pairs_fault-low.ensures s.triples heights ∙ ap (λ (ps : List Pair2). least_of (flat_map (pair_faults s.triples) ps)) c.as_slice-5.ensures.values in
    let repeated = c.in_ok-ids.ensures.1 ∙ ap (λ (is : List RawId). least_of (id_faults [] is)) c.as_slice-3.ensures.values in
    let nameless = c.faces_fault-nameless.ensures s.ids ids ∙ ap (λ (fs : List RawFace). least_of (flat_map (face_faults s.ids) fs)) c.as_slice-6.ensures.values in
    c.earlier-least.ensures ∙ ap (earlier_fault c.triples_fault-far.result) (c.earlier-2.ensures ∙ ap (earlier_fault c.pairs_fault-low.result) c.earlier.ensures)
    ∙ (λ i. earlier_fault (far i) (earlier_fault (low i) (earlier_fault (repeated i) (nameless i)))) ∙ surface-least c.args.rule s
