use Rattle.std.proofs.Common.{◌≡◌, ap, ◌∙◌, cond, Some}
use Rattle.std.specs.BTreeMap.{is_at}
use Rattle.std.specs.Map.{lookup}
use Rattle.std.proofs.lemmas.Map.Entries.{entries_from_clone}
use Rattle.ground_model.specs.Place.{place_cmp}
use Rattle.store.proofs.births.Births.points_with.Goals as goal

pub returns : goal.returns
returns c p =
    let same : c.in_ok-points.points.entries ≡ c.args.self.now.points.entries = entries_from_clone _ _ (λ x y h. h) (λ x y h. h) _ _ c.in_ok-points.ensures.cases in
    c.in_ok-insert.ensures.updates.0 p ∙ ap (λ es. cond (is_at (place_cmp c.args.place) p) (Some c.args.front) (lookup (is_at (place_cmp p)) es)) same
