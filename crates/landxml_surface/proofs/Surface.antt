-- The least fault of a surface, from those of its parts.
use Rattle.std.proofs.Common.{◌≡◌, [], ◌++◌, sym, ap, ◌∙◌}
use Rattle.std.specs.List.{flat_map}
use Rattle.landxml_read.specs.declared.raw.RawSurface.{RawSurface}
use Rattle.landxml_surface.specs.declared.origin.OriginRule.{OriginRule}
use Rattle.landxml_surface.specs.Faults.{surface_faults, range_faults, pair_faults, id_faults, face_faults, earlier_fault, least_of}
use Rattle.landxml_surface.specs.Origins.{origin_by}
use Rattle.landxml_surface.proofs.Least.{least-append}

pub surface-least : (rule : OriginRule) (s : RawSurface) → earlier_fault (least_of (flat_map (range_faults (origin_by rule s.triples)) s.triples)) (earlier_fault (least_of (flat_map (pair_faults s.triples) s.pairs)) (earlier_fault (least_of (id_faults [] s.ids)) (least_of (flat_map (face_faults s.ids) s.faces)))) ≡ least_of (surface_faults rule s)
unfolding surface_faults
surface-least rule s =
    let far = flat_map (range_faults (origin_by rule s.triples)) s.triples in
    let low = flat_map (pair_faults s.triples) s.pairs in
    let repeated = id_faults [] s.ids in
    let nameless = flat_map (face_faults s.ids) s.faces in
    ap (λ f. earlier_fault (least_of far) (earlier_fault (least_of low) f)) (sym (least-append repeated nameless))
    ∙ ap (earlier_fault (least_of far)) (sym (least-append low (repeated ++ nameless))) ∙ sym (least-append far (low ++ (repeated ++ nameless)))
