use Rattle.std.proofs.Common.{ap, sym, subst}
use Rattle.std.specs.Prelude.{T}
use Rattle.std.specs.FinMap as finmap
use Rattle.std.proofs.lemmas.Map.Entries.{entries_from_clone}
use Rattle.ground_model.specs.Place.{place_cmp}
use Rattle.store.proofs.Oks.{ok_where}
use Rattle.store.proofs.surface.Surface.same_points.Goals as goal

pub returns-clause-content : goal.returns-clause-content
returns-clause-content c = rw (← c.self.view_is) (ok_where _ _ _ c.clone.result (λ points cloned t. ap (λ es. record { points = finmap.from_sorted es; table = t }) (entries_from_clone _ _ (λ x y h. h) (λ x y h. h) _ _ cloned)) c.clone.ensures.cases)

pub returns-clause-sorted : goal.returns-clause-sorted
returns-clause-sorted c = ok_where _ _ _ c.clone.result (λ points cloned. subst (λ es. T (finmap.is_sorted place_cmp es)) (sym (entries_from_clone _ _ (λ x y h. h) (λ x y h. h) _ _ cloned)) c.self.invariant.sorted) c.clone.ensures.cases
