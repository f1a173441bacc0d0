-- Places tie in their order only where they are one.
use Rattle.std.proofs.Common.{◌≡◌, refl}
use Rattle.std.specs.declared.cmp.Ordering.{Ordering}
use Rattle.std.specs.declared.cmp.Ordering.TheVariants.{Less, Equal, Greater}
use Rattle.std.specs.Ordering.{int_cmp, ordering_then}
use Rattle.std.specs.FinMap as finmap
use Rattle.ground_model.specs.Place.{place_cmp}

tied_by : (e n : Ordering) → ordering_then e n ≡ Equal → (e ≡ Equal) × (n ≡ Equal)
tied_by Less n h = cc
tied_by Equal n h = (refl, h)
tied_by Greater n h = cc

pub places_apart : finmap.IsAntisymmetric place_cmp
places_apart p q h =
    let both = tied_by (int_cmp p.e q.e) (int_cmp p.n q.n) h in
    let e : p.e ≡ q.e = finmap.int_cmp-IsAntisymmetric p.e q.e both.0 in
    let n : p.n ≡ q.n = finmap.int_cmp-IsAntisymmetric p.n q.n both.1 in
    λ i. record { e = e i; n = n i }
