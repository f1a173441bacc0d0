use Rattle.std.proofs.Common.{ap}
use Rattle.std.specs.BTreeMap.{is_at}
use Rattle.std.specs.Map.{lookup}
use Rattle.std.proofs.lemmas.Map.Entries.{entries_from_clone}
use Rattle.ground_model.specs.Place.{place_cmp}
use Rattle.store.proofs.Oks.{ok_where}
use Rattle.store.proofs.births.Births.same_points.Goals as goal

pub returns : goal.returns
returns c = ok_where _ _ _ c.clone.result (λ points cloned p. ap (lookup (is_at (place_cmp p))) (entries_from_clone _ _ (λ x y h. h) (λ x y h. h) _ _ cloned)) c.clone.ensures.cases
