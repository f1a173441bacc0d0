use Rattle.std.proofs.Common.{◌≡◌, ap, ◌∙◌, cond, None}
use Rattle.std.specs.BTreeMap.{is_at}
use Rattle.std.specs.Map.{lookup}
use Rattle.std.proofs.lemmas.Map.Entries.{entries_from_clone}
use Rattle.ground_model.specs.Place.{place_cmp}
use Rattle.line_table.proofs.Maps.{keys-sorted}
use Rattle.store.proofs.Contents.{content-removed}
use Rattle.store.proofs.surface.Surface.points_without.Goals as goal

pub returns-clause-content : goal.returns-clause-content
returns-clause-content c =
    let same : c.in_ok-points.points.entries ≡ c.self.inside.points.entries = entries_from_clone _ _ (λ x y h. h) (λ x y h. h) _ _ c.in_ok-points.ensures.cases in
    rw (← c.self.view_is) (content-removed c.self.inside.points.entries c.remove-level.new.self.entries c.self.inside.lines c.args.place c.self.invariant.sorted (keys-sorted place_cmp _ c.remove-level.ensures.ordered)
    (λ q. c.remove-level.ensures.updates.0 q ∙ ap (λ es. cond (is_at (place_cmp c.args.place) q) None (lookup (is_at (place_cmp q)) es)) same))

pub returns-clause-sorted : goal.returns-clause-sorted
returns-clause-sorted c = keys-sorted place_cmp _ c.remove-level.ensures.ordered
