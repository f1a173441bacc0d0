use Rattle.std.proofs.Common.{◌≡◌, [], take}
use Rattle.std.specs.Prelude.{bytes_eq}
use Rattle.indexmap.specs.IndexMap.{get_by}
use Rattle.landxml_surface.specs.Faults.{id_faults, least_of}
use Rattle.landxml_surface.specs.Ids.{AreIds}
use Rattle.landxml_surface.proofs.ids.gather_ids.Given as goal

abbrev pub invariant-loop-id : goal.invariant-loop-id
invariant-loop-id l =
    AreIds (take l.id-index l.ids) (λ name. get_by (λ k. bytes_eq name k.now) l.gathered.triples) × (l.least ≡ least_of (id_faults [] (take l.id-index l.ids)))
