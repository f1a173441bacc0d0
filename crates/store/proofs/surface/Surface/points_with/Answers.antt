use Rattle.std.proofs.Common.{◌≡◌, ap, sym, subst, ◌∙◌, cond, Some}
use Rattle.std.specs.Prelude.{map, IsSome}
use Rattle.ground_model.specs.Content.{level_of}
use Rattle.std.specs.BTreeMap.{is_at}
use Rattle.std.specs.Map.{lookup}
use Rattle.std.proofs.lemmas.Map.Entries.{entries_from_clone}
use Rattle.ground_model.specs.Place.{place_cmp}
use Rattle.line_table.proofs.Maps.{keys-sorted}
use Rattle.store.proofs.Contents.{content-added, level_of-content, points_of-content}
use Rattle.store.proofs.surface.Surface.points_with.Goals as goal

pub returns-clause-content : goal.returns-clause-content
returns-clause-content c =
    let same : c.in_ok-points.points.entries ≡ c.self.inside.points.entries = entries_from_clone _ _ (λ x y h. h) (λ x y h. h) _ _ c.in_ok-points.ensures.cases in
    rw (← c.self.view_is) (content-added c.self.inside.points.entries c.insert.new.self.entries c.self.inside.lines c.args.place c.self.invariant.sorted (keys-sorted place_cmp _ c.insert.ensures.ordered) c.args.level
    (λ q. c.in_ok-insert.ensures.updates.0 q ∙ ap (λ es. cond (is_at (place_cmp c.args.place) q) (Some c.args.level) (lookup (is_at (place_cmp q)) es)) same))

pub returns-clause-sorted : goal.returns-clause-sorted
returns-clause-sorted c = keys-sorted place_cmp _ c.insert.ensures.ordered

pub returns-clause-places : goal.returns-clause-places
returns-clause-places c there =
    let same : c.in_ok-points.points.entries ≡ c.self.inside.points.entries = entries_from_clone _ _ (λ x y h. h) (λ x y h. h) _ _ c.in_ok-points.ensures.cases in
    let found : level_of c.args.self.now c.args.place ≡ c.in_ok-insert.field-0 = rw (← c.self.view_is) (level_of-content c.self.inside.points.entries c.self.inside.lines c.self.invariant.sorted c.args.place ∙ ap (lookup (is_at (place_cmp c.args.place))) (sym same) ∙ sym c.in_ok-insert.ensures.old) in
    c.in_ok-insert.ensures.keys_stay (subst IsSome found there) ∙ ap (map (λ e. e.0)) same ∙ rw (← c.self.view_is) (sym (points_of-content c.self.inside.points.entries c.self.inside.lines c.self.invariant.sorted))
