use Rattle.std.proofs.Common.{◌≡◌, ◌<◌, ◌^◌, ap, sym, subst, ◌∙◌, length}
use Rattle.std.specs.Prelude.{map}
use Rattle.std.specs.List.{filter}
use Rattle.std.specs.BTreeMap.{get, keys}
use Rattle.ground_model.specs.Place.{place_cmp}
use Rattle.ground_model.specs.Tri.{facets}
use Rattle.ground_model.specs.Table.{live, pieces_on}
use Rattle.measures.specs.SlopeList.{IsRelief}
use Rattle.ground_model.specs.Kept.{is_kept}
use Rattle.ground_model.specs.Slope.{slope_of}
use Rattle.line_table.proofs.Maps.{keys-sorted}
use Rattle.store.proofs.Contents.{relief-content, tri-content}
use Rattle.store.proofs.Reliefs.{kept-relief}
use Rattle.store.proofs.slopes.relief_on.Goals as goal

pub new-requires : goal.new-requires
new-requires c =
    let found : c.args.facets.now ≡ facets (keys c.args.points.now) (pieces_on (keys c.args.points.now) (live c.args.lines.now)) = c.requires.facets ∙ tri-content c.args.points.now.entries c.args.lines.now (keys-sorted place_cmp c.args.points.now.entries c.requires.ordered) in
    let made : c.from_vec.result ≡ map (slope_of (get place_cmp c.args.points.now)) (filter (is_kept (live c.args.lines.now)) (facets (keys c.args.points.now) (pieces_on (keys c.args.points.now) (live c.args.lines.now)))) =
    c.from_vec.ensures ∙ c.in_ok-slopes.ensures ∙ ap (λ fs. map (slope_of (get place_cmp c.args.points.now)) (filter (is_kept (live c.args.lines.now)) fs)) found in
    subst IsRelief (sym made) (kept-relief (keys c.args.points.now) (pieces_on (keys c.args.points.now) (live c.args.lines.now)) (get place_cmp c.args.points.now) (is_kept (live c.args.lines.now)) c.requires.ordered (subst (λ fs. length fs < 2 ^ 30) found c.requires.few))

pub returns : goal.returns
returns c =
    let found : c.args.facets.now ≡ facets (keys c.args.points.now) (pieces_on (keys c.args.points.now) (live c.args.lines.now)) = c.requires.facets ∙ tri-content c.args.points.now.entries c.args.lines.now (keys-sorted place_cmp c.args.points.now.entries c.requires.ordered) in
    c.new.ensures ∙ c.from_vec.ensures ∙ c.in_ok-slopes.ensures ∙ ap (λ fs. map (slope_of (get place_cmp c.args.points.now)) (filter (is_kept (live c.args.lines.now)) fs)) found ∙ relief-content c.args.points.now.entries c.args.lines.now (keys-sorted place_cmp c.args.points.now.entries c.requires.ordered)
