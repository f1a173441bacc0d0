-- A plan that is no hull plan, and of which no planned facet or point is missing at a newer content, is right there.
use Rattle.std.proofs.Common.{◌≡◌, ◌⊎◌, inl, inr, refl, sym, ◌∙◌, List, Bool, true, false}
use Rattle.std.specs.Prelude.{ℤ, not, ◌&&◌, ◌||◌}
use Rattle.std.specs.List.{All, list_any}
use Rattle.std.specs.FinMap as finmap
use Rattle.std.proofs.lemmas.Cmp.{nat_cmp_total}
use Rattle.std.proofs.lemmas.Bool.{and_parts, and_from, or_left, or_right, or_cases, not_from_false}
use Rattle.ground_model.specs.declared.corner.Corner.{Corner}
use Rattle.ground_model.specs.declared.corner.Corner.TheVariants.{At}
use Rattle.ground_model.specs.declared.facet.Facet.{Facet}
use Rattle.ground_model.specs.declared.line.LineId.{LineId}
use Rattle.ground_model.specs.declared.line.LineKind.{LineKind}
use Rattle.ground_model.specs.declared.edit.Edit.{Edit}
use Rattle.ground_model.specs.declared.edit.Edit.TheVariants.{AddPoint, RemovePoint, SetLevel, AddLine, RemoveLine}
use Rattle.ground_model.specs.Place.{Coords, IsPlace}
use Rattle.ground_model.specs.Line.{Line, has_place}
use Rattle.ground_model.specs.Table.{numbered}
use Rattle.ground_model.specs.Crossings.{is_on_points}
use Rattle.ground_model.specs.Content.{Content, after, points_of, lines_of, count}
use Rattle.ground_model.specs.Tri.{tri}
use Rattle.ground_model.specs.Mark.{is_among}
use Rattle.ground_model.specs.Zone.{destroyed, made, shaken, planned_facets}
use Rattle.ground_model.specs.Planar.{IsPlanar}
use Rattle.ground_model.proofs.Elements.{In, both_true, each_at, each_from, in_map, entry_of_get}
use Rattle.ground_model.proofs.LinePieces.{in_points, is_point_in}
use Rattle.ground_model.proofs.Planar.{on_at, still_on}
use Rattle.predicates.specs.Net.{Net, Triangle, has, facets_of, net_over}
use Rattle.cdt_law.specs.Patch.{is_in}
use Rattle.cdt_law.specs.Hull.{Encloses}
use Rattle.cdt_law.specs.Boundary.{gone}
use Rattle.cdt_law.specs.Point.{IsJoined, is_corner_of}
use Rattle.cdt_law.specs.Enclose.{HasPointMore}
use Rattle.cdt_law.specs.Corners.{IsCornerOfGone}
use Rattle.cdt_law.specs.Vertices.{AreCarried}
use Rattle.cdt_law.specs.Plans.{Plan, HasMeshes, Stands, IsMesh, IsRight, PlanLaw, base_net, planned_net, newest_net, renewed, is_carried, is_on_hull, is_hull_plan}
use Rattle.cdt_law.proofs.FacetLaws.{facet_law}
use Rattle.cdt_law.proofs.PointLaw.{added-points, added-it, added-places, removed-points, point_law}
use Rattle.cdt_law.proofs.Hull.{hull_law}
use Rattle.cdt_law.proofs.Enclosed.{enclose_law}
use Rattle.cdt_law.proofs.Stars.{star_law}
use Rattle.cdt_law.proofs.GoneFacets.{gone-of, facet-among}
use Rattle.cdt_law.proofs.PiecesWithout.{still}
use Rattle.cdt_law.proofs.TableCounts.{line-more, line-less}
use Rattle.cdt_law.proofs.LineEdits.{line-added, line-taken}
use Rattle.cdt_law.proofs.PointCounts.{both-even}
use Rattle.cdt_law.proofs.PointEdits.{IsLess, point-added}
use Rattle.cdt_law.proofs.TakenPoints.{point-taken}
use Rattle.cdt_law.proofs.Standing as standing
use Rattle.cdt_law.proofs.CarriedFacets.{made-facet, kept-facet, after-facet}
use Rattle.cdt_law.proofs.Able.{Able, able-of}
use Rattle.cdt_law.proofs.PlanZone.{among-in, in-among, facets-newest, destroyed-in, made-in, of-destroyed, of-made, inner-base, inner-planned, some-gone, unchanged, alike}
use Rattle.cdt_law.proofs.PlanPoints.{carried-same, carried-more, carried-less, at-its-corner}

-- the newest content after the edit, with the patched mesh
abbrev pub after_net : Plan → Net
after_net plan = net_over (after plan.newest plan.edit) (renewed plan)

-- ---- where the points and the counts are right, the plan is
module _ (plan : Plan) (m : HasMeshes plan) (s : Stands plan) where
  stands-by : planned_facets plan.base plan.edit ≡ shaken plan.base plan.edit → Encloses (base_net plan) (planned_net plan) → Encloses (planned_net plan) (base_net plan)
      → AreCarried (base_net plan) (planned_net plan) (newest_net plan) (after_net plan) → All IsPlace (points_of (after plan.newest plan.edit)) → standing.Standing (base_net plan) (planned_net plan) (newest_net plan) (after_net plan)
  stands-by facets out out' carried places = record {
    base_sheet = m.before.sheet;
    base_local = m.before.local;
    planned_sheet = m.planned.sheet;
    planned_local = m.planned.local;
    newest_sheet = m.now.sheet;
    newest_local = m.now.local;
    encloses = out;
    enclosed = out';
    inner = inner-base plan m s;
    inner_planned = inner-planned plan m s;
    some = some-gone plan m s facets;
    unchanged = unchanged plan m s facets;
    alike = alike plan m s facets;
    triangles = refl;
    carried = carried;
    places = places;
  }

  right-by : (st : standing.Standing (base_net plan) (planned_net plan) (newest_net plan) (after_net plan)) → standing.Counted (base_net plan) (planned_net plan) (newest_net plan) (after_net plan) st → IsRight plan
  right-by st c = record { mesh = mesh; facets = λ f. sym (facet_law (after plan.newest plan.edit) (renewed plan) mesh.sheet mesh.local f) ∙ both_true (is_among (facets_of (after_net plan)) f) (is_carried plan f) (to f) (from f) }
    where
      mesh : IsMesh (after plan.newest plan.edit) (renewed plan)
      mesh = let r = standing.renewed (base_net plan) (planned_net plan) (newest_net plan) (after_net plan) st c in record { sheet = r.0; local = r.1.0 }

      to : (f : Facet) → is_among (facets_of (after_net plan)) f ≡ true → is_carried plan f ≡ true
      to f e = by (after-facet (base_net plan) (planned_net plan) (newest_net plan) (after_net plan) st c f e)
        where
          not-destroyed : (is_among (facets_of (base_net plan)) f ≡ true → is_among (facets_of (planned_net plan)) f ≡ false → ⊥) → is_among (destroyed plan.base plan.edit) f ≡ false
          not-destroyed h = test (is_among (destroyed plan.base plan.edit) f) refl
            where
              test : (t : Bool) → is_among (destroyed plan.base plan.edit) f ≡ t → t ≡ false
              test false g = refl
              test true g = let d = of-destroyed plan m s f (among-in (destroyed plan.base plan.edit) f g) in absurd (h d.0 d.1)

          by : ((is_among (facets_of (planned_net plan)) f ≡ true) × (is_among (facets_of (base_net plan)) f ≡ false)) ⊎ ((is_among (facets_of (newest_net plan)) f ≡ true) × (is_among (facets_of (base_net plan)) f ≡ true → is_among (facets_of (planned_net plan)) f ≡ false → ⊥))
              → is_carried plan f ≡ true
          by (inl h) =
              or_right (is_among (tri plan.newest) f && not (is_among (destroyed plan.base plan.edit) f)) (is_among (made plan.base plan.edit) f)
              (in-among (made plan.base plan.edit) f (made-in plan m s f h.0 h.1))
          by (inr h) =
              or_left (is_among (tri plan.newest) f && not (is_among (destroyed plan.base plan.edit) f)) (is_among (made plan.base plan.edit) f)
              (and_from (is_among (tri plan.newest) f) (not (is_among (destroyed plan.base plan.edit) f)) (sym (facets-newest plan m s f) ∙ h.0) (not_from_false (is_among (destroyed plan.base plan.edit) f) (not-destroyed h.1)))

      from : (f : Facet) → is_carried plan f ≡ true → is_among (facets_of (after_net plan)) f ≡ true
      from f e = by (or_cases (is_among (tri plan.newest) f && not (is_among (destroyed plan.base plan.edit) f)) (is_among (made plan.base plan.edit) f) e)
        where
          off : (t : Bool) → not t ≡ true → t ≡ true → ⊥
          off true g h = cc
          off false g h = cc

          by : ((is_among (tri plan.newest) f && not (is_among (destroyed plan.base plan.edit) f)) ≡ true) ⊎ (is_among (made plan.base plan.edit) f ≡ true) → is_among (facets_of (after_net plan)) f ≡ true
          by (inr h) =
              let d = of-made plan m s f (among-in (made plan.base plan.edit) f h) in
              made-facet (base_net plan) (planned_net plan) (newest_net plan) (after_net plan) st c f d.0 d.1
          by (inl h) =
              let both = and_parts (is_among (tri plan.newest) f) (not (is_among (destroyed plan.base plan.edit) f)) h in
              kept-facet (base_net plan) (planned_net plan) (newest_net plan) (after_net plan) st c f (facets-newest plan m s f ∙ both.0)
              (λ b p. off (is_among (destroyed plan.base plan.edit) f) both.1 (in-among (destroyed plan.base plan.edit) f (destroyed-in plan m s f b p)))

-- ---- what is known of the two contents
pub record Apt (plan : Plan) : Type 0 where
  pub planar : IsPlanar plan.base
  pub planar_now : IsPlanar plan.newest
  pub able : Able plan.base plan.edit
  pub able_now : Able plan.newest plan.edit
  pub same_line : (id : LineId) → plan.edit ≡ RemoveLine id → finmap.get plan.newest.table.lines id.0 ≡ finmap.get plan.base.table.lines id.0

joined-of : (c : Content) (triangles : List Triangle) → IsMesh c triangles → IsPlanar c → IsJoined c
joined-of c triangles m planar = record { places = m.sheet.places; on_points = planar.on_points }

-- ---- kind of edit by kind
module _ (base newest : Content) (before planned now : List Triangle) where
  abbrev pub plan_of : Edit → Plan
  plan_of edit = record { edit = edit; base = base; before = before; planned = planned; newest = newest; now = now }

  -- ---- a line, which leaves the points as they are
  pub line-stands : (kind : LineKind) (places : List Coords) → HasMeshes (plan_of (AddLine kind places)) → Stands (plan_of (AddLine kind places))
      → standing.Standing (base_net (plan_of (AddLine kind places))) (planned_net (plan_of (AddLine kind places))) (newest_net (plan_of (AddLine kind places))) (after_net (plan_of (AddLine kind places)))
  unfolding after
  line-stands kind places m s =
      let plan : Plan = plan_of (AddLine kind places) in
      stands-by plan m s refl (hull_law (base_net plan) m.before.sheet m.before.local) (hull_law (planned_net plan) m.planned.sheet m.planned.local)
      (carried-same (base_net plan) (planned_net plan) (newest_net plan) (after_net plan) refl refl) m.now.sheet.places

  pub taken-line-stands : (id : LineId) → HasMeshes (plan_of (RemoveLine id)) → Stands (plan_of (RemoveLine id))
      → standing.Standing (base_net (plan_of (RemoveLine id))) (planned_net (plan_of (RemoveLine id))) (newest_net (plan_of (RemoveLine id))) (after_net (plan_of (RemoveLine id)))
  unfolding after
  taken-line-stands id m s =
      let plan : Plan = plan_of (RemoveLine id) in
      stands-by plan m s refl (hull_law (base_net plan) m.before.sheet m.before.local) (hull_law (planned_net plan) m.planned.sheet m.planned.local)
      (carried-same (base_net plan) (planned_net plan) (newest_net plan) (after_net plan) refl refl) m.now.sheet.places

  add-line : (kind : LineKind) (places : List Coords) → HasMeshes (plan_of (AddLine kind places)) → Apt (plan_of (AddLine kind places)) → Stands (plan_of (AddLine kind places)) → IsRight (plan_of (AddLine kind places))
  unfolding after
  add-line kind places m l s =
      let plan : Plan = plan_of (AddLine kind places) in
      right-by plan m s (line-stands kind places m s)
      (line-added (base_net plan) (planned_net plan) (newest_net plan) (after_net plan) (line-stands kind places m s) (record { kind = kind; places = places }) l.able
      (both-even (count (after newest (AddLine kind places)))) refl refl (line-more base kind places l.planar) (line-more newest kind places l.planar_now))

  remove-line : (id : LineId) → HasMeshes (plan_of (RemoveLine id)) → Apt (plan_of (RemoveLine id)) → Stands (plan_of (RemoveLine id)) → IsRight (plan_of (RemoveLine id))
  unfolding after
  remove-line id m l s =
      let plan : Plan = plan_of (RemoveLine id) in
      right-by plan m s (taken-line-stands id m s)
      (line-taken (base_net plan) (planned_net plan) (newest_net plan) (after_net plan) (taken-line-stands id m s) l.able.0
      (on_at base l.planar l.able.0 (in_map (λ e. e.1) (numbered base.table) (id.0, l.able.0) (entry_of_get nat_cmp_total finmap.nat_cmp-IsAntisymmetric base.table.lines id.0 l.able.0 l.able.1)))
      (both-even (count (after newest (RemoveLine id)))) refl refl (line-less base id l.able.0 l.able.1) (line-less newest id l.able.0 (l.same_line id refl ∙ l.able.1)))

  -- ---- a point that is added
  module _ (p : Coords) (z : ℤ) (m : HasMeshes (plan_of (AddPoint p z))) (planar : IsPlanar base) (able : Able base (AddPoint p z)) (s : Stands (plan_of (AddPoint p z))) where
    more : IsLess (finmap.keys (finmap.insert base.points p z)) (points_of base) p
    more = record { without = added-points base.points p z able; at_c = added-it base.points p z }

    place : IsPlace p
    unfolding after
    place = each_at IsPlace (finmap.keys (finmap.insert base.points p z)) p m.planned.sheet.places (in_points (finmap.keys (finmap.insert base.points p z)) p more.at_c)

    corner : (x y w : Corner) → is_in (gone (planned_net (plan_of (AddPoint p z))) (base_net (plan_of (AddPoint p z)))) x y w ≡ true → (At p ≡ x) ⊎ ((At p ≡ y) ⊎ (At p ≡ w))
    corner x y w e =
        let plan : Plan = plan_of (AddPoint p z) in
        let g = gone-of (planned_net plan) (base_net plan) x y w e in
        let new = in-among (made base (AddPoint p z)) g.facet (made-in plan m s g.facet (facet-among (planned_net plan) g.index g.triangle g.facet g.at g.is) g.none) in
        at-its-corner (planned_net plan) (base_net plan) m.planned.sheet p x y w g
        (and_parts (is_among (tri (after base (AddPoint p z))) g.facet) (is_corner_of p g.facet) (sym (point_law.added base p z (joined-of base before m.before planar) place able g.facet) ∙ new)).1

    has_more : HasPointMore (planned_net (plan_of (AddPoint p z))) (base_net (plan_of (AddPoint p z))) p
    unfolding after
    has_more = record { points = more.without; at_c = more.at_c; corner = corner }

    pub added-encloses : Encloses (planned_net (plan_of (AddPoint p z))) (base_net (plan_of (AddPoint p z))) × Encloses (base_net (plan_of (AddPoint p z))) (planned_net (plan_of (AddPoint p z)))
    added-encloses =
        let plan : Plan = plan_of (AddPoint p z) in
        enclose_law (planned_net plan) (base_net plan) p m.planned.sheet m.planned.local m.before.sheet m.before.local has_more (inner-planned plan m s) (inr (some-gone plan m s refl))

    pub made-at-it : IsCornerOfGone (planned_net (plan_of (AddPoint p z))) (base_net (plan_of (AddPoint p z))) p
    made-at-it =
        let plan : Plan = plan_of (AddPoint p z) in
        star_law.made (planned_net plan) (base_net plan) p m.planned.sheet m.planned.local m.before.sheet m.before.local has_more (inner-planned plan m s) (inr (some-gone plan m s refl))

  add-point : (p : Coords) (z : ℤ) → HasMeshes (plan_of (AddPoint p z)) → Apt (plan_of (AddPoint p z)) → Stands (plan_of (AddPoint p z)) → IsRight (plan_of (AddPoint p z))
  unfolding after
  add-point p z m l s = right-by plan m s st counted
    where
      plan : Plan
      plan = plan_of (AddPoint p z)

      more_now : IsLess (finmap.keys (finmap.insert newest.points p z)) (points_of newest) p
      more_now = record { without = added-points newest.points p z l.able_now; at_c = added-it newest.points p z }

      st : standing.Standing (base_net plan) (planned_net plan) (newest_net plan) (after_net plan)
      st = stands-by plan m s refl (added-encloses p z m l.planar l.able s).1 (added-encloses p z m l.planar l.able s).0
          (carried-more (base_net plan) (planned_net plan) (newest_net plan) (after_net plan) p (more p z m l.planar l.able s) more_now (made-at-it p z m l.planar l.able s))
          (added-places newest.points p z l.able_now m.now.sheet.places (place p z m l.planar l.able s))

      counted : standing.Counted (base_net plan) (planned_net plan) (newest_net plan) (after_net plan) st
      counted = point-added (points_of base) (finmap.keys (finmap.insert base.points p z)) (points_of newest) (finmap.keys (finmap.insert newest.points p z)) (lines_of base) (lines_of newest) before planned now (renewed plan) p st
          (on_at base l.planar) (on_at newest l.planar_now) (more p z m l.planar l.able s) more_now

  -- ---- a point that is taken
  module _ (p : Coords) (m : HasMeshes (plan_of (RemovePoint p))) (planar : IsPlanar base) (able : Able base (RemovePoint p)) (s : Stands (plan_of (RemovePoint p))) where
    less : IsLess (points_of base) (finmap.keys (finmap.remove base.points p)) p
    less = record { without = removed-points base.points p; at_c = able.0 }

    its-corner : (x y w : Corner) → is_in (gone (base_net (plan_of (RemovePoint p))) (planned_net (plan_of (RemovePoint p)))) x y w ≡ true → (At p ≡ x) ⊎ ((At p ≡ y) ⊎ (At p ≡ w))
    its-corner x y w e =
        let plan : Plan = plan_of (RemovePoint p) in
        let g = gone-of (base_net plan) (planned_net plan) x y w e in
        let old = in-among (destroyed base (RemovePoint p)) g.facet (destroyed-in plan m s g.facet (facet-among (base_net plan) g.index g.triangle g.facet g.at g.is) g.none) in
        at-its-corner (base_net plan) (planned_net plan) m.before.sheet p x y w g
        (and_parts (is_among (tri base) g.facet) (is_corner_of p g.facet) (sym (point_law.removed base p (joined-of base before m.before planar) able.0 able.1 g.facet) ∙ old)).1

    had_more : HasPointMore (base_net (plan_of (RemovePoint p))) (planned_net (plan_of (RemovePoint p))) p
    unfolding after
    had_more = record { points = less.without; at_c = less.at_c; corner = its-corner }

    taken-encloses : Encloses (base_net (plan_of (RemovePoint p))) (planned_net (plan_of (RemovePoint p))) × Encloses (planned_net (plan_of (RemovePoint p))) (base_net (plan_of (RemovePoint p)))
    taken-encloses =
        let plan : Plan = plan_of (RemovePoint p) in
        enclose_law (base_net plan) (planned_net plan) p m.before.sheet m.before.local m.planned.sheet m.planned.local had_more (inner-base plan m s) (inl (some-gone plan m s refl))

    pub destroyed-at-it : IsCornerOfGone (base_net (plan_of (RemovePoint p))) (planned_net (plan_of (RemovePoint p))) p
    destroyed-at-it =
        let plan : Plan = plan_of (RemovePoint p) in
        star_law.made (base_net plan) (planned_net plan) p m.before.sheet m.before.local m.planned.sheet m.planned.local had_more (inner-base plan m s) (inl (some-gone plan m s refl))

    pub all-destroyed : (y w : Corner) → has (newest_net (plan_of (RemovePoint p))) (At p) y w ≡ true → is_in (gone (base_net (plan_of (RemovePoint p))) (planned_net (plan_of (RemovePoint p)))) (At p) y w ≡ true
    all-destroyed =
        let plan : Plan = plan_of (RemovePoint p) in
        star_law.taken (base_net plan) (planned_net plan) (newest_net plan) p m.before.sheet m.before.local m.planned.sheet m.planned.local m.now.sheet had_more (inner-base plan m s) (inl (some-gone plan m s refl)) (unchanged plan m s refl)

  remove-point : (p : Coords) → HasMeshes (plan_of (RemovePoint p)) → Apt (plan_of (RemovePoint p)) → Stands (plan_of (RemovePoint p)) → IsRight (plan_of (RemovePoint p))
  unfolding after
  remove-point p m l s = right-by plan m s st counted
    where
      plan : Plan
      plan = plan_of (RemovePoint p)

      less_now : IsLess (points_of newest) (finmap.keys (finmap.remove newest.points p)) p
      less_now = record { without = removed-points newest.points p; at_c = l.able_now.0 }

      on-still : (c : Content) → IsPlanar c → All (λ line. has_place p line ≡ false) (lines_of c) → (line : Line) → In line (lines_of c) → is_on_points (finmap.keys (finmap.remove c.points p)) line ≡ true
      on-still c planar e line i = still_on c.points p line (on_at c planar line i) (each_at (λ line. has_place p line ≡ false) (lines_of c) line e i)

      st : standing.Standing (base_net plan) (planned_net plan) (newest_net plan) (after_net plan)
      st = stands-by plan m s refl (taken-encloses p m l.planar l.able s).0 (taken-encloses p m l.planar l.able s).1
          (carried-less (base_net plan) (planned_net plan) (newest_net plan) (after_net plan) p (less p m l.planar l.able s) less_now (all-destroyed p m l.planar l.able s))
          (each_from IsPlace (finmap.keys (finmap.remove newest.points p)) (λ x i. each_at IsPlace (points_of newest) x m.now.sheet.places (in_points (points_of newest) x (still (points_of newest) (finmap.keys (finmap.remove newest.points p)) p less_now.without less_now.at_c x (is_point_in (finmap.keys (finmap.remove newest.points p)) x i)))))

      counted : standing.Counted (base_net plan) (planned_net plan) (newest_net plan) (after_net plan) st
      counted = point-taken (points_of base) (finmap.keys (finmap.remove base.points p)) (points_of newest) (finmap.keys (finmap.remove newest.points p)) (lines_of base) (lines_of newest) before planned now (renewed plan) p st
          (on-still base l.planar l.able.1) (on-still newest l.planar_now l.able_now.1) (less p m l.planar l.able s) less_now (all-destroyed p m l.planar l.able s)

  -- a level that is set has no facet in its zone
  pub set-level : (p : Coords) (z : ℤ) → Stands (plan_of (SetLevel p z)) → ⊥
  unfolding is_hull_plan
  set-level p z s = by s.inner
    where
      by : (true || list_any (is_on_hull (tri base)) (destroyed base (SetLevel p z)) || list_any (is_on_hull (tri (after base (SetLevel p z)))) (made base (SetLevel p z))) ≡ false → ⊥
      by e = cc

  by-kind : (edit : Edit) → HasMeshes (plan_of edit) → Apt (plan_of edit) → Stands (plan_of edit) → IsRight (plan_of edit)
  by-kind (AddPoint p z) m l s = add-point p z m l s
  by-kind (RemovePoint p) m l s = remove-point p m l s
  by-kind (SetLevel p z) m l s = absurd (set-level p z s)
  by-kind (AddLine kind places) m l s = add-line kind places m l s
  by-kind (RemoveLine id) m l s = remove-line id m l s

pub right-where-apt : (plan : Plan) → HasMeshes plan → Apt plan → Stands plan → IsRight plan
right-where-apt plan m l s = by-kind plan.base plan.newest plan.before plan.planned plan.now plan.edit m l s

pub plan_law : PlanLaw
plan_law limits plan m l s =
    right-where-apt plan m (record { planar = l.planar; planar_now = l.planar_now; able = able-of plan.base limits plan.edit l.lawful; able_now = able-of plan.newest limits plan.edit l.lawful_now; same_line = l.same_line }) s
