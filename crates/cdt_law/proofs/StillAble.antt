-- An edit whose plan is fresh can be made at the history's front, but for limits and crossings.
use Rattle.std.proofs.Common.{◌≡◌, ℕ, suc, ◌+◌, ◌<◌, ◌≤◌, ◌⊎◌, inl, inr, refl, sym, ap, subst, ◌∙◌, arith, List, Bool, true, false, Some, None}
use Rattle.std.specs.Prelude.{ℤ, slice_get, length, take}
use Rattle.std.specs.FinMap as finmap
use Rattle.std.proofs.lemmas.Bool.{both_ways as clash}
use Rattle.std.proofs.lemmas.Cmp.{nat_cmp_total}
use Rattle.ground_model.specs.declared.corner.Corner.{Corner}
use Rattle.ground_model.specs.declared.corner.Corner.TheVariants.{At}
use Rattle.ground_model.specs.declared.limits.Limits.{Limits}
use Rattle.ground_model.specs.declared.entry.Entry.{Entry}
use Rattle.ground_model.specs.declared.line.LineKind.{LineKind}
use Rattle.ground_model.specs.declared.edit.Edit.{Edit}
use Rattle.ground_model.specs.declared.edit.Edit.TheVariants.{AddPoint, RemovePoint, SetLevel, AddLine, RemoveLine}
use Rattle.ground_model.specs.Place.{Coords, is_same}
use Rattle.ground_model.specs.Line.{Line, is_point, has_place}
use Rattle.ground_model.specs.Table.{numbered}
use Rattle.ground_model.specs.Content.{Content, after, points_of, lines_of}
use Rattle.ground_model.specs.Refusal.{edit_refusal}
use Rattle.ground_model.proofs.Elements.{In, any_gives, each_at, each_from, of_map, in_map, entry_of_insert, entry_of_remove}
use Rattle.ground_model.proofs.LinePieces.{IsPiece}
use Rattle.ground_model.proofs.Ties.{same_of_is_same}
use Rattle.ground_model.proofs.Past.{content_of-next}
use Rattle.ground_model.proofs.Causes.{lawful_edit}
use Rattle.predicates.specs.Net.{Triangle, count_between}
use Rattle.predicates.proofs.Owners.{IsTurn, Still, Once, Twice, owner}
use Rattle.predicates.proofs.HasTriangles.{HasOwner, has-owner, owner-has}
use Rattle.cdt_law.specs.Corners.{IsCornerOfGone}
use Rattle.cdt_law.specs.Plans.{Plan, HasMeshes, Stands, base_net, planned_net, newest_net}
use Rattle.cdt_law.specs.StalePlan.{Stale, IsFresh, content_at, plan_at}
use Rattle.cdt_law.specs.Limits.{HaveMeshes}
use Rattle.cdt_law.proofs.Numbers.{larger-first}
use Rattle.cdt_law.proofs.GoodInSheet.{over-first, sheet-only}
use Rattle.cdt_law.proofs.GoneFacets.{GoneOn}
use Rattle.cdt_law.proofs.SharedCorners.{Covered, covered-by}
use Rattle.cdt_law.proofs.LineTimes.{runs_on, piece-runs, piece-runs-back}
use Rattle.cdt_law.proofs.TableCounts.{line-more}
use Rattle.cdt_law.proofs.Standing as standing
use Rattle.cdt_law.proofs.Able.{Able, able-of}
use Rattle.cdt_law.proofs.PlanZone.{unchanged, alike}
use Rattle.cdt_law.proofs.PlanLaw.{added-encloses, made-at-it, destroyed-at-it, all-destroyed}
use Rattle.cdt_law.proofs.StalePlans.{planar-taken, from-base, able-base, stands-at}
use Rattle.cdt_law.proofs.LinkPieces.{piece-at}
use Rattle.cdt_law.proofs.LimitCauses.{two-places, no-point-link, long-of}

module _ (limits : Limits) (h : List Entry) (b : ℕ) (before planned : List Triangle) (now : ℕ → List Triangle) where
  abbrev pub stale_of : Edit → Stale
  stale_of edit = record { history = h; pending = record { base = b; edit = edit }; before = before; planned = planned }

  abbrev base : Content
  base = content_at h b

  all : length h ≤ length h
  all = omega arith

  -- ---- a point that is added: the newest net has none at its place
  module _ (p : Coords) (z : ℤ) (f : IsFresh limits (stale_of (AddPoint p z))) (m : HaveMeshes (stale_of (AddPoint p z)) now) where
    abbrev plan : Plan
    plan = plan_at (stale_of (AddPoint p z)) (length h) (now (length h))

    meshes : HasMeshes plan
    meshes = m (length h) f.within all

    stands : Stands plan
    stands = stands-at limits (stale_of (AddPoint p z)) f (length h) f.within all (now (length h))

    able : Able base (AddPoint p z)
    able = able-base limits (stale_of (AddPoint p z)) f

    made : IsCornerOfGone (planned_net plan) (base_net plan) p
    made = made-at-it base (content_at h (length h)) before planned (now (length h)) p z meshes (planar-taken limits h b f.legal) able stands

    cover : Covered (base_net plan) (planned_net plan) meshes.before.sheet meshes.planned.sheet (added-encloses base (content_at h (length h)) before planned (now (length h)) p z meshes (planar-taken limits h b f.legal) able stands).1 p made
    cover = covered-by (base_net plan) (planned_net plan) meshes.before.sheet meshes.planned.sheet (added-encloses base (content_at h (length h)) before planned (now (length h)) p z meshes (planar-taken limits h b f.legal) able stands).1 p made

    not-there : is_point (points_of (content_at h (length h))) p ≡ true → ⊥
    not-there e = by (sheet-only (newest_net plan) meshes.now.sheet o.owner.index o.owner.triangle cover.triangle.a cover.triangle.b cover.triangle.c o.owner.at turn p e cover.ab cover.bc cover.ca)
      where
        o : HasOwner (newest_net plan) cover.triangle.a cover.triangle.b cover.triangle.c
        o = has-owner (newest_net plan) cover.triangle.a cover.triangle.b cover.triangle.c ((unchanged plan meshes stands refl).destroyed cover.triangle.a cover.triangle.b cover.triangle.c cover.gone)

        turn : IsTurn o.owner.triangle cover.triangle.a cover.triangle.b cover.triangle.c
        turn = subst (λ w. IsTurn o.owner.triangle cover.triangle.a cover.triangle.b w) o.third o.owner.turn

        never : (x y w : Corner) → IsTurn cover.triangle x y w → At p ≡ x → ⊥
        never x y w t g = clash (is_point (points_of base) p) able (over-first (base_net plan) meshes.before.sheet cover.index cover.triangle (At p) y w cover.at (subst (λ k. IsTurn cover.triangle k y w) (sym g) t))

        by : (At p ≡ cover.triangle.a) ⊎ ((At p ≡ cover.triangle.b) ⊎ (At p ≡ cover.triangle.c)) → ⊥
        by (inl g) = never cover.triangle.a cover.triangle.b cover.triangle.c Still g
        by (inr (inl g)) = never cover.triangle.b cover.triangle.c cover.triangle.a Once g
        by (inr (inr g)) = never cover.triangle.c cover.triangle.a cover.triangle.b Twice g

    pub still-free : is_point (points_of (content_at h (length h))) p ≡ false
    still-free = by (is_point (points_of (content_at h (length h))) p) refl
      where
        by : (t : Bool) → is_point (points_of (content_at h (length h))) p ≡ t → t ≡ false
        by true e = absurd (not-there e)
        by false e = refl

  -- ---- a point that is taken: it is there, and no line has it
  module _ (p : Coords) (f : IsFresh limits (stale_of (RemovePoint p))) (m : HaveMeshes (stale_of (RemovePoint p)) now) where
    abbrev plan-of : ℕ → Plan
    plan-of k = plan_at (stale_of (RemovePoint p)) k (now k)

    stands-of : (k : ℕ) → b ≤ k → k ≤ length h → Stands (plan-of k)
    stands-of k le most = stands-at limits (stale_of (RemovePoint p)) f k le most (now k)

    able-then : Able base (RemovePoint p)
    able-then = able-base limits (stale_of (RemovePoint p)) f

    pub still-there : is_point (points_of (content_at h (length h))) p ≡ true
    still-there =
        let g = destroyed-at-it base (content_at h (length h)) before planned (now (length h)) p (m (length h) f.within all) (planar-taken limits h b f.legal) able-then (stands-of (length h) f.within all) in
        standing.point-of (newest_net (plan-of (length h))) (m (length h) f.within all).now.sheet p g.y g.z ((unchanged (plan-of (length h)) (m (length h) f.within all) (stands-of (length h) f.within all) refl).destroyed (At p) g.y g.z g.there)

    -- over the edges at the point the base and the nets from it on count alike, where there is a piece
    alike-at : (k : ℕ) (le : b ≤ k) (most : k ≤ length h) (w : Coords) (g : GoneOn (base_net (plan-of k)) (planned_net (plan-of k)) (At p) (At w)) → count_between base p w ≡ count_between (content_at h k) p w
    alike-at k le most w g = alike (plan-of k) (m k le most) (stands-of k le most) refl (At p) (At w) g.third g.there

    destroyed-there : (k : ℕ) (le : b ≤ k) (most : k ≤ length h) (w : Coords) → 0 < count_between (content_at h k) p w → GoneOn (base_net (plan-of k)) (planned_net (plan-of k)) (At p) (At w)
    destroyed-there k le most w some =
        let o = owner (newest_net (plan-of k)) (At p) (At w) ((m k le most).now.sheet.pieces p w some) in
        record {
          third = o.third;
          there = all-destroyed base (content_at h k) before planned (now k) p (m k le most) (planar-taken limits h b f.legal) able-then (stands-of k le most) (At w) o.third (owner-has (newest_net (plan-of k)) (At p) (At w) o);
        }

    -- a line that is added has not its place
    module _ (k : ℕ) (le : b ≤ k) (lt : k < length h) (kind : LineKind) (places : List Coords) (x : Entry) (at : slice_get h k ≡ Some x) (is : x.edit ≡ AddLine kind places) where
      most : k ≤ length h
      most = omega (arith, lt)

      later : b ≤ suc k
      later = omega (arith, le)

      last-one : suc k ≤ length h
      last-one = omega (arith, lt)

      next-is : content_at h (suc k) ≡ after (content_at h k) (AddLine kind places)
      next-is = content_of-next h k x at ∙ ap (after (content_at h k)) is

      lawful : edit_refusal (content_at h k) limits (AddLine kind places) ≡ None
      lawful = sym (ap (edit_refusal (content_at h k) limits) is) ∙ lawful_edit (content_at h k) (length (take k h)) limits x.edit (f.legal k x at).0

      abbrev line : Line
      line = record { kind = kind; places = places }

      more : (w : Coords) → count_between (content_at h (suc k)) p w ≡ runs_on (points_of (content_at h k)) line p w + count_between (content_at h k) p w
      more w = ap (λ c. count_between c p w) next-is ∙ line-more (content_at h k) kind places (planar-taken limits h k f.legal) p w

      never-run : (w : Coords) → 0 < runs_on (points_of (content_at h k)) line p w → ⊥
      never-run w some =
          let counted = larger-first (count_between (content_at h (suc k)) p w) (runs_on (points_of (content_at h k)) line p w) (count_between (content_at h k) p w) (more w) some in
          let g = destroyed-there (suc k) later last-one w counted in
          clash-of (count_between (content_at h (suc k)) p w) (runs_on (points_of (content_at h k)) line p w) (count_between (content_at h k) p w) (count_between base p w) (more w) some (alike-at (suc k) later last-one w g) (alike-at k le most w g)
        where
          clash-of : (n r k c : ℕ) → n ≡ r + k → 0 < r → c ≡ n → c ≡ k → ⊥
          clash-of n r k c e h f g = omega (arith, e, h, f, g)

      never-place : has_place p line ≡ true → ⊥
      never-place e =
          let found = any_gives (is_same p) places e in
          let i : In p places = subst (λ q. In q places) (sym (same_of_is_same p found.0 found.2)) found.1 in
          let long = long-of (content_at h k) limits kind places lawful in
          let a = piece-at (points_of (content_at h k)) line (able-of (content_at h k) limits (AddLine kind places) lawful) (two-places line long) (no-point-link line long) p i in
          by a.other a.piece
        where
          by : (w : Coords) → IsPiece (points_of (content_at h k)) line p w ⊎ IsPiece (points_of (content_at h k)) line w p → ⊥
          by w (inl h') = never-run w (piece-runs (points_of (content_at h k)) line p w h')
          by w (inr h') = never-run w (piece-runs-back (points_of (content_at h k)) line w p h')

      new-unheld : has_place p line ≡ false
      new-unheld = by (has_place p line) refl
        where
          by : (t : Bool) → has_place p line ≡ t → t ≡ false
          by true e = absurd (never-place e)
          by false e = refl

    -- nor has one that was there
    unheld-after : (k : ℕ) → b ≤ k → k < length h → (x : Entry) → slice_get h k ≡ Some x → (edit : Edit) → x.edit ≡ edit → ((line : Line) → In line (lines_of (content_at h k)) → has_place p line ≡ false)
        → (line : Line) → In line (lines_of (after (content_at h k) edit)) → has_place p line ≡ false
    unfolding after
    unheld-after k le lt x at (AddPoint q z) is old line i = old line i
    unheld-after k le lt x at (RemovePoint q) is old line i = old line i
    unheld-after k le lt x at (SetLevel q z) is old line i = old line i
    unheld-after k le lt x at (AddLine kind places) is old line i =
        let e = of_map (λ entry. entry.1) (finmap.entries (finmap.insert (content_at h k).table.lines (content_at h k).table.next (record { kind = kind; places = places }))) line i in
        by e.0 e.2 (entry_of_insert nat_cmp_total finmap.nat_cmp-IsAntisymmetric (content_at h k).table.lines (content_at h k).table.next (record { kind = kind; places = places }) e.0 e.1)
      where
        by : (e : ℕ × Line) → line ≡ e.1 → ((e.0 ≡ (content_at h k).table.next) × (e.1 ≡ record { kind = kind; places = places })) ⊎ In e (finmap.entries (content_at h k).table.lines) → has_place p line ≡ false
        by e g (inl new) = ap (has_place p) (g ∙ new.1) ∙ new-unheld k le lt kind places x at is
        by e g (inr j) = ap (has_place p) g ∙ old e.1 (in_map (λ entry. entry.1) (numbered (content_at h k).table) e j)
    unheld-after k le lt x at (RemoveLine id) is old line i =
        let e = of_map (λ entry. entry.1) (finmap.entries (finmap.remove (content_at h k).table.lines id.0)) line i in
        ap (has_place p) e.2 ∙ old e.0.1 (in_map (λ entry. entry.1) (numbered (content_at h k).table) e.0 (entry_of_remove nat_cmp_total finmap.nat_cmp-IsAntisymmetric (content_at h k).table.lines id.0 e.0 e.1))

    unheld : (k : ℕ) → b ≤ k → k ≤ length h → (line : Line) → In line (lines_of (content_at h k)) → has_place p line ≡ false
    unheld = from-base h b (λ k. (line : Line) → In line (lines_of (content_at h k)) → has_place p line ≡ false) (λ line i. each_at (λ line. has_place p line ≡ false) (lines_of base) line able-then.1 i) next
      where
        next : (k : ℕ) (x : Entry) → b ≤ k → k < length h → slice_get h k ≡ Some x → ((line : Line) → In line (lines_of (content_at h k)) → has_place p line ≡ false) → (line : Line) → In line (lines_of (content_at h (suc k))) → has_place p line ≡ false
        next k x le lt at old line i = unheld-after k le lt x at x.edit refl old line (subst (λ c. In line (lines_of c)) (content_of-next h k x at) i)

    pub still-able : Able (content_at h (length h)) (RemovePoint p)
    still-able = (still-there, each_from (λ line. has_place p line ≡ false) (lines_of (content_at h (length h))) (unheld (length h) f.within all))
