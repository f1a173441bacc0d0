-- What the points and lines of a surface make.
use Rattle.std.proofs.Common.{◌≡◌, refl, sym, ap, ◌∙◌, List, [], length, cond, arith, None, Some}
use Rattle.std.specs.Prelude.{ℤ, T, map}
use Rattle.std.specs.List.{filter}
use Rattle.std.specs.FinMap as finmap
use Rattle.std.specs.BTreeMap.{is_at}
use Rattle.std.specs.Map.{lookup}
use Rattle.ground_model.specs.declared.edit.Edit.TheVariants.{AddPoint, RemovePoint, SetLevel, AddLine, RemoveLine}
use Rattle.ground_model.specs.declared.line.LineId.{LineId}
use Rattle.ground_model.specs.declared.slope.Slope.{Slope}
use Rattle.ground_model.specs.Place.{Coords, place_cmp}
use Rattle.ground_model.specs.Line.{Line}
use Rattle.ground_model.specs.Content.{Content, empty, after, points_of, level_of}
use Rattle.ground_model.specs.declared.facet.Facet.{Facet}
use Rattle.ground_model.specs.Tri.{facets, tri}
use Rattle.ground_model.specs.Slope.{relief, slope_of}
use Rattle.ground_model.proofs.Contents.{places_total}
use Rattle.ground_model.specs.Table.{Table, no_lines, live, with_line, without_line, pieces_on}
use Rattle.line_table.proofs.Maps.{get_of, added, removed}
use Rattle.ground_model.specs.Kept.{is_kept}
use Rattle.store.specs.Surfaces.{content_by, IsSurface}
use Rattle.store.proofs.Points.{places_apart}
use Rattle.store.proofs.Reliefs.{relief-by, relief-level}

module _ (es : List (Coords × ℤ)) (t : Table) (sorted : T (finmap.is_sorted place_cmp es)) where
  pub points_of-content : points_of (content_by es t) ≡ map (λ e. e.0) es
  points_of-content = ap (map (λ e. e.0)) (finmap.entries-from_sorted place_cmp es sorted)

  pub level_of-content : (p : Coords) → level_of (content_by es t) p ≡ lookup (is_at (place_cmp p)) es
  level_of-content p = get_of place_cmp es p sorted

  pub relief-content : map (slope_of (λ p. lookup (is_at (place_cmp p)) es)) (filter (is_kept (live t)) (facets (map (λ e. e.0) es) (pieces_on (map (λ e. e.0) es) (live t)))) ≡ relief (content_by es t)
  relief-content =
      let levels : level_of (content_by es t) ≡ (λ p. lookup (is_at (place_cmp p)) es) = λ i p. level_of-content p i in
      sym (relief-by (content_by es t)
      ∙ ap (λ level. map (slope_of level) (filter (is_kept (live t)) (facets (points_of (content_by es t)) (pieces_on (points_of (content_by es t)) (live t))))) levels
      ∙ ap (λ points. map (slope_of (λ p. lookup (is_at (place_cmp p)) es)) (filter (is_kept (live t)) (facets points (pieces_on points (live t))))) points_of-content)

  -- its facets are those on its points
  pub tri-content : tri (content_by es t) ≡ facets (map (λ e. e.0) es) (pieces_on (map (λ e. e.0) es) (live t))
  tri-content = ap (λ points. facets points (pieces_on points (live t))) points_of-content

  pub len-content : finmap.len (content_by es t).points ≡ length es
  len-content = finmap.len-entries (content_by es t).points ∙ ap length (finmap.entries-from_sorted place_cmp es sorted)

-- ---- no points and no lines

pub content-empty : content_by [] no_lines ≡ empty
unfolding empty
content-empty = ap (λ points. record { points = points; table = no_lines }) (finmap.empty_of_len (finmap.from_sorted []) (finmap.len-entries (finmap.from_sorted []) ∙ ap length (finmap.entries-from_sorted place_cmp [] tt)))

surface_of_nothing : IsSurface [] no_lines [] []
unfolding facets
surface_of_nothing = record { sorted = tt; facets_are = sym (tri-content [] no_lines tt); few = omega arith; slopes_are = relief-content [] no_lines tt }

pub surface_empty : (es : List (Coords × ℤ)) (t : Table) (fs : List Facet) (slopes : List Slope) → es ≡ [] → t ≡ no_lines → fs ≡ [] → slopes ≡ [] → IsSurface es t fs slopes
surface_empty es t fs slopes e f g h = rw (e, f, g, h) surface_of_nothing

pub seen_empty : (es : List (Coords × ℤ)) (t : Table) → es ≡ [] → t ≡ no_lines → content_by es t ≡ empty
seen_empty es t e f = rw (e, f) content-empty

-- ---- an edit made

module _ (es fs : List (Coords × ℤ)) (t : Table) (p : Coords) (before : T (finmap.is_sorted place_cmp es)) (now : T (finmap.is_sorted place_cmp fs)) where
  pub content-added : (z : ℤ) → ((q : Coords) → lookup (is_at (place_cmp q)) fs ≡ cond (is_at (place_cmp p) q) (Some z) (lookup (is_at (place_cmp q)) es)) → content_by fs t ≡ after (content_by es t) (AddPoint p z)
  unfolding after
  content-added z h = ap (λ points. record { points = points; table = t }) (added places_total places_apart es fs p z before now h)

  pub content-removed : ((q : Coords) → lookup (is_at (place_cmp q)) fs ≡ cond (is_at (place_cmp p) q) None (lookup (is_at (place_cmp q)) es)) → content_by fs t ≡ after (content_by es t) (RemovePoint p)
  unfolding after
  content-removed h = ap (λ points. record { points = points; table = t }) (removed places_total places_apart es fs p before now h)

-- a level is set as a point is added
pub set-is-added : (c : Content) (p : Coords) (z : ℤ) → after c (AddPoint p z) ≡ after c (SetLevel p z)
unfolding after
set-is-added c p z = refl

-- the facets of points at the same places, of which one has its level set
pub facets-set : (c : Content) (fs : List (Coords × ℤ)) (t : Table) (p : Coords) (z : ℤ) → T (finmap.is_sorted place_cmp fs) → content_by fs t ≡ after c (AddPoint p z) → map (λ e. e.0) fs ≡ points_of c → tri c ≡ tri (content_by fs t)
unfolding after
facets-set c fs t p z sorted made keys =
    let table : t ≡ c.table = ap (λ d. d.table) made in
    let points : points_of (content_by fs t) ≡ points_of c = points_of-content fs t sorted ∙ keys in
    sym (λ i. facets (points i) (pieces_on (points i) (live (table i))))

-- the slopes with the levels of points at the same places, of which one is set
pub slopes-set : (c : Content) (fs : List (Coords × ℤ)) (t : Table) (p : Coords) (z : ℤ) (slopes : List Slope) → T (finmap.is_sorted place_cmp fs) → content_by fs t ≡ after c (AddPoint p z) → map (λ e. e.0) fs ≡ points_of c → slopes ≡ relief c
    → map (λ s. slope_of (λ q. lookup (is_at (place_cmp q)) fs) s.facet) slopes ≡ relief (content_by fs t)
slopes-set c fs t p z slopes sorted made keys were =
    let levels : (λ q. lookup (is_at (place_cmp q)) fs) ≡ level_of (content_by fs t) = λ i q. sym (level_of-content fs t sorted q) i in
    let content : content_by fs t ≡ after c (SetLevel p z) = made ∙ set-is-added c p z in
    let points : points_of (after c (SetLevel p z)) ≡ points_of c = ap points_of (sym content) ∙ points_of-content fs t sorted ∙ keys in
    ap (λ level. map (λ s. slope_of level s.facet) slopes) levels ∙ ap (map (λ s. slope_of (level_of (content_by fs t)) s.facet)) were
    ∙ ap (λ d. map (λ s. slope_of (level_of d) s.facet) (relief c)) content ∙ sym (relief-level c p z points) ∙ ap relief (sym content)

pub with_line-after : (c : Content) (line : Line) → record c { table = with_line c.table line } ≡ after c (AddLine line.kind line.places)
unfolding after
with_line-after c line = refl

pub without_line-after : (c : Content) (id : LineId) → record c { table = without_line c.table id.0 } ≡ after c (RemoveLine id)
unfolding after
without_line-after c id = refl
