-- A line that a fresh plan adds or takes can be added or taken at the history's front, but for limits and crossings.
use Rattle.std.proofs.Common.{◌≡◌, ℕ, suc, ◌+◌, ◌<◌, ◌≤◌, ◌⊎◌, inl, inr, refl, sym, ap, ◌∙◌, arith, List, Bool, true, false, cond, Some, None}
use Rattle.std.specs.Prelude.{slice_get, length, if◌then◌else◌}
use Rattle.std.specs.List.{list_any}
use Rattle.std.specs.declared.cmp.Ordering.{Ordering}
use Rattle.std.specs.declared.cmp.Ordering.TheVariants.{Less, Equal, Greater}
use Rattle.std.specs.Ordering.{eq_by_cmp, nat_cmp, is_eq}
use Rattle.std.specs.FinMap as finmap
use Rattle.std.proofs.lemmas.Bool.{both_ways as clash}
use Rattle.std.proofs.lemmas.Cmp.{nat_cmp_total}
use Rattle.ground_model.specs.declared.corner.Corner.TheVariants.{At}
use Rattle.ground_model.specs.declared.limits.Limits.{Limits}
use Rattle.ground_model.specs.declared.entry.Entry.{Entry}
use Rattle.ground_model.specs.declared.line.LineId.{LineId}
use Rattle.ground_model.specs.declared.line.LineKind.{LineKind}
use Rattle.ground_model.specs.declared.edit.Edit.{Edit}
use Rattle.ground_model.specs.declared.edit.Edit.TheVariants.{AddPoint, RemovePoint, SetLevel, AddLine, RemoveLine}
use Rattle.ground_model.specs.Place.{Coords, is_before}
use Rattle.ground_model.specs.Line.{Line, is_point, has_piece, pairs}
use Rattle.ground_model.specs.Crossings.{is_on_points}
use Rattle.ground_model.specs.Content.{Content, after, points_of, count}
use Rattle.ground_model.specs.Mark.{is_among}
use Rattle.ground_model.proofs.Elements.{In, any_gives, all_from, none_at, in_pairs}
use Rattle.ground_model.proofs.LinePieces.{IsPiece, piece_of}
use Rattle.ground_model.proofs.Past.{content_of-next}
use Rattle.ground_model.proofs.Causes.{lawful_edit}
use Rattle.predicates.specs.Net.{Triangle, count_between, facets_of}
use Rattle.cdt_law.specs.Laws.{AreOverOne}
use Rattle.cdt_law.specs.Plans.{Plan, HasMeshes, Stands, base_net, planned_net, newest_net}
use Rattle.cdt_law.specs.StalePlan.{IsFresh, content_at, plan_at}
use Rattle.cdt_law.specs.Limits.{HaveMeshes}
use Rattle.cdt_law.proofs.Numbers.{along, larger-first, differs-from-last, last-left}
use Rattle.cdt_law.proofs.FacetLaws.{unique_law}
use Rattle.cdt_law.proofs.GoneFacets.{facet-among, gone-of, GoneOn}
use Rattle.cdt_law.proofs.PointCounts.{both-even}
use Rattle.cdt_law.proofs.LineTimes.{runs_on, once_on, runs-same, piece-runs}
use Rattle.cdt_law.proofs.LineEdits.{pieces-there}
use Rattle.cdt_law.proofs.TableCounts.{line-more, line-less}
use Rattle.cdt_law.proofs.Standing as standing
use Rattle.cdt_law.proofs.Able.{Able}
use Rattle.cdt_law.proofs.PlanZone.{some-gone, alike}
use Rattle.cdt_law.proofs.PlanLaw.{after_net, line-stands, taken-line-stands}
use Rattle.cdt_law.proofs.StalePlans.{planar-taken, from-base, not-next, still-old, able-base, stands-at}
use Rattle.cdt_law.proofs.LinkPieces.{piece-at}
use Rattle.cdt_law.proofs.LimitCauses.{IsLong, two-places, no-point-link, long-of}
use Rattle.cdt_law.proofs.StillAble.{stale_of}

-- after an edit the line of a number is the one that there was, or the edit took it
line-after : (c : Content) (edit : Edit) (n : ℕ) (line : Line) → n < c.table.next → finmap.get c.table.lines n ≡ Some line
    → (finmap.get (after c edit).table.lines n ≡ Some line) ⊎ ((id : LineId) × ((edit ≡ RemoveLine id) × (n ≡ id.0)))
unfolding after
line-after c (AddPoint p z) n line lt e = inl e
line-after c (RemovePoint p) n line lt e = inl e
line-after c (SetLevel p z) n line lt e = inl e
line-after c (AddLine kind places) n line lt e =
    inl (finmap.get-insert nat_cmp_total c.table.lines c.table.next (record { kind = kind; places = places }) n
    ∙ ap (λ t. cond t (Some (record { kind = kind; places = places })) (finmap.get c.table.lines n)) (not-next n c.table.next lt) ∙ e)
line-after c (RemoveLine id) n line lt e = by (eq_by_cmp nat_cmp n id.0) refl
  where
    equal : (r : Ordering) → nat_cmp n id.0 ≡ r → is_eq r ≡ true → n ≡ id.0
    equal Less e h = cc
    equal Equal e h = finmap.nat_cmp-IsAntisymmetric n id.0 e
    equal Greater e h = cc

    by : (t : Bool) → eq_by_cmp nat_cmp n id.0 ≡ t → (finmap.get (finmap.remove c.table.lines id.0) n ≡ Some line) ⊎ ((other : LineId) × ((RemoveLine id ≡ RemoveLine other) × (n ≡ other.0)))
    by true t = inr (id, (refl, equal (nat_cmp n id.0) refl t))
    by false t = inl (finmap.get-remove nat_cmp_total c.table.lines id.0 n ∙ ap (λ t. cond t None (finmap.get c.table.lines n)) t ∙ e)

-- 1 or 0
abbrev as_number : Bool → ℕ
as_number t = cond t 1 0

-- a line has a piece, or runs over nothing
some-piece : (points : List Coords) (line : Line) → ((p : Coords) × (q : Coords) × IsPiece points line p q) ⊎ ((p q : Coords) → runs_on points line p q ≡ 0)
some-piece points line = by (list_any (λ pair. has_piece points line pair.0 pair.1) (pairs points)) refl
  where
    none : list_any (λ pair. has_piece points line pair.0 pair.1) (pairs points) ≡ false → (p q : Coords) → once_on points line p q ≡ 0
    none e p q = test (has_piece points line p q) refl
      where
        test : (t : Bool) → has_piece points line p q ≡ t → as_number t ≡ 0
        test false f = refl
        test true f =
            let h = piece_of points line p q f in
            absurd (clash (has_piece points line p q) (none_at (λ pair. has_piece points line pair.0 pair.1) (pairs points) (p, q) e (in_pairs points p q h.first h.last)) f)

    either : (t : Bool) (x y : ℕ) → x ≡ 0 → y ≡ 0 → (if t then x else y) ≡ 0
    either true x y e f = e
    either false x y e f = f

    by : (t : Bool) → list_any (λ pair. has_piece points line pair.0 pair.1) (pairs points) ≡ t → ((p : Coords) × (q : Coords) × IsPiece points line p q) ⊎ ((p q : Coords) → runs_on points line p q ≡ 0)
    by true e = let found = any_gives (λ pair. has_piece points line pair.0 pair.1) (pairs points) e in inl (found.0.0, found.0.1, piece_of points line found.0.0 found.0.1 found.2)
    by false e = inr (λ p q. either (is_before p q) (once_on points line p q) (once_on points line q p) (none e p q) (none e q p))

module _ (limits : Limits) (h : List Entry) (b : ℕ) (before planned : List Triangle) (now : ℕ → List Triangle) where
  abbrev base : Content
  base = content_at h b

  all : length h ≤ length h
  all = omega arith

  -- ---- a line that is added: its places are points
  module _ (kind : LineKind) (places : List Coords) (f : IsFresh limits (stale_of limits h b before planned now (AddLine kind places))) (m : HaveMeshes (stale_of limits h b before planned now (AddLine kind places)) now) where
    abbrev plan : Plan
    plan = plan_at (stale_of limits h b before planned now (AddLine kind places)) (length h) (now (length h))

    abbrev line : Line
    line = record { kind = kind; places = places }

    stands : Stands plan
    stands = stands-at limits (stale_of limits h b before planned now (AddLine kind places)) f (length h) f.within all (now (length h))

    st : standing.Standing (base_net plan) (planned_net plan) (newest_net plan) (after_net plan)
    st = line-stands base (content_at h (length h)) before planned (now (length h)) kind places (m (length h) f.within all) stands

    able : Able base (AddLine kind places)
    able = able-base limits (stale_of limits h b before planned now (AddLine kind places)) f

    pub its-long : IsLong line
    its-long = long-of base limits kind places (lawful_edit base b limits (AddLine kind places) f.lawful)

    there : (p q : Coords) → IsPiece (points_of base) line p q → (is_point (points_of (content_at h (length h))) p ≡ true) × (is_point (points_of (content_at h (length h))) q ≡ true)
    unfolding after
    there p q piece =
        let t = pieces-there (base_net plan) (planned_net plan) (newest_net plan) (after_net plan) st line able (both-even (count (after (content_at h (length h)) (AddLine kind places)))) refl refl
        (line-more base kind places (planar-taken limits h b f.legal)) (line-more (content_at h (length h)) kind places (planar-taken limits h (length h) f.legal)) p q piece in
        (t.0, t.1.0)

    pub places-there : (v : Coords) → In v places → is_point (points_of (content_at h (length h))) v ≡ true
    places-there v i = let a = piece-at (points_of base) line able (two-places line its-long) (no-point-link line its-long) v i in by a.other a.piece
      where
        by : (w : Coords) → IsPiece (points_of base) line v w ⊎ IsPiece (points_of base) line w v → is_point (points_of (content_at h (length h))) v ≡ true
        by w (inl piece) = (there v w piece).0
        by w (inr piece) = (there w v piece).1

    pub still-on-points : is_on_points (points_of (content_at h (length h))) line ≡ true
    unfolding is_on_points
    still-on-points = all_from (is_point (points_of (content_at h (length h)))) places places-there

  -- ---- a line that is taken: it is there
  module _ (id : LineId) (f : IsFresh limits (stale_of limits h b before planned now (RemoveLine id))) (m : HaveMeshes (stale_of limits h b before planned now (RemoveLine id)) now) where
    abbrev plan-of : ℕ → Plan
    plan-of k = plan_at (stale_of limits h b before planned now (RemoveLine id)) k (now k)

    stands-of : (k : ℕ) → b ≤ k → k ≤ length h → Stands (plan-of k)
    stands-of k le most = stands-at limits (stale_of limits h b before planned now (RemoveLine id)) f k le most (now k)

    pub its : (line : Line) × (finmap.get base.table.lines id.0 ≡ Some line)
    its = able-base limits (stale_of limits h b before planned now (RemoveLine id)) f

    -- it has a piece, as its plan destroys a facet
    its-piece : (p : Coords) × (q : Coords) × IsPiece (points_of base) its.0 p q
    unfolding after
    its-piece = by (some-piece (points_of base) its.0)
      where
        start : HasMeshes (plan-of (length h))
        start = m (length h) f.within all

        same : ((p q : Coords) → runs_on (points_of base) its.0 p q ≡ 0) → AreOverOne (base_net (plan-of (length h))) (planned_net (plan-of (length h)))
        same none = record { points = refl; count = λ p q. last-left (count_between base p q) (runs_on (points_of base) its.0 p q) (count_between (after base (RemoveLine id)) p q) (line-less base id its.0 its.1 p q) (none p q) }

        never : AreOverOne (base_net (plan-of (length h))) (planned_net (plan-of (length h))) → ⊥
        never over =
            let lost = some-gone (plan-of (length h)) start (stands-of (length h) f.within all) refl in
            let g = gone-of (base_net (plan-of (length h))) (planned_net (plan-of (length h))) lost.a lost.b lost.c lost.there in
            clash (is_among (facets_of (planned_net (plan-of (length h)))) g.facet) g.none
            (sym (unique_law (base_net (plan-of (length h))) (planned_net (plan-of (length h))) start.before.sheet start.before.local start.planned.sheet start.planned.local over g.facet)
            ∙ facet-among (base_net (plan-of (length h))) g.index g.triangle g.facet g.at g.is)

        by : ((p : Coords) × (q : Coords) × IsPiece (points_of base) its.0 p q) ⊎ ((p q : Coords) → runs_on (points_of base) its.0 p q ≡ 0) → (p : Coords) × (q : Coords) × IsPiece (points_of base) its.0 p q
        by (inl h) = h
        by (inr none) = absurd (never (same none))

    abbrev p : Coords
    p = its-piece.0

    abbrev q : Coords
    q = its-piece.1

    runs : 0 < runs_on (points_of base) its.0 p q
    runs = piece-runs (points_of base) its.0 p q its-piece.2

    -- the piece is an edge of what is destroyed
    gone-there : (k : ℕ) → b ≤ k → k ≤ length h → GoneOn (base_net (plan-of k)) (planned_net (plan-of k)) (At p) (At q)
    gone-there k le most = standing.destroyed-on (base_net (plan-of k)) (planned_net (plan-of k)) (newest_net (plan-of k)) (after_net (plan-of k)) (taken-line-stands base (content_at h k) before planned (now k) id (m k le most) (stands-of k le most)) p q
        (larger-first (count_between base p q) (runs_on (points_of base) its.0 p q) (count_between (after base (RemoveLine id)) p q) (line-less base id its.0 its.1 p q) runs)
        (differs-from-last (count_between base p q) (runs_on (points_of base) its.0 p q) (count_between (after base (RemoveLine id)) p q) (line-less base id its.0 its.1 p q) runs)

    alike-at : (k : ℕ) (le : b ≤ k) (most : k ≤ length h) → count_between base p q ≡ count_between (content_at h k) p q
    alike-at k le most = let g = gone-there k le most in alike (plan-of k) (m k le most) (stands-of k le most) refl (At p) (At q) g.third g.there

    -- and the line has it at each front
    runs-at : (k : ℕ) (le : b ≤ k) (most : k ≤ length h) → 0 < runs_on (points_of (content_at h k)) its.0 p q
    runs-at k le most =
        let g = gone-there k le most in
        let st = taken-line-stands base (content_at h k) before planned (now k) id (m k le most) (stands-of k le most) in
        along (runs_on (points_of base) its.0 p q) (runs_on (points_of (content_at h k)) its.0 p q)
        (runs-same (points_of base) (points_of (content_at h k)) its.0 p q
        (standing.next-on (base_net (plan-of k)) (m k le most).before.sheet p q (standing.base-edge (base_net (plan-of k)) (planned_net (plan-of k)) (newest_net (plan-of k)) (after_net (plan-of k)) st (At p) (At q) g.third g.there))
        (standing.next-on (newest_net (plan-of k)) (m k le most).now.sheet p q (standing.newest-edge (base_net (plan-of k)) (planned_net (plan-of k)) (newest_net (plan-of k)) (after_net (plan-of k)) st (At p) (At q) g.third g.there))) runs

    pub still-line : (k : ℕ) → b ≤ k → k ≤ length h → finmap.get (content_at h k).table.lines id.0 ≡ Some its.0
    still-line = from-base h b (λ k. finmap.get (content_at h k).table.lines id.0 ≡ Some its.0) its.1 next
      where
        least : (k n : ℕ) → k < n → k ≤ n
        least k n g = omega (arith, g)

        up : (b k : ℕ) → b ≤ k → b ≤ suc k
        up b k g = omega (arith, g)

        over : (k n : ℕ) → k < n → suc k ≤ n
        over k n g = omega (arith, g)

        fewer : (n r k c : ℕ) → n ≡ r + k → 0 < r → c ≡ n → c ≡ k → ⊥
        fewer n r k c e g f i = omega (arith, e, g, f, i)

        -- no entry takes it
        never : (k : ℕ) (x : Entry) → b ≤ k → k < length h → slice_get h k ≡ Some x → finmap.get (content_at h k).table.lines id.0 ≡ Some its.0 → (other : LineId) → x.edit ≡ RemoveLine other → id.0 ≡ other.0 → ⊥
        never k x le lt at old other is e =
            fewer (count_between (content_at h k) p q) (runs_on (points_of (content_at h k)) its.0 p q) (count_between (content_at h (suc k)) p q) (count_between base p q)
            (line-less (content_at h k) other its.0 (sym (ap (finmap.get (content_at h k).table.lines) e) ∙ old) p q
            ∙ ap (λ c. runs_on (points_of (content_at h k)) its.0 p q + count_between c p q) (sym (content_of-next h k x at ∙ ap (after (content_at h k)) is)))
            (runs-at k le (least k (length h) lt)) (alike-at k le (least k (length h) lt)) (alike-at (suc k) (up b k le) (over k (length h) lt))

        next : (k : ℕ) (x : Entry) → b ≤ k → k < length h → slice_get h k ≡ Some x → finmap.get (content_at h k).table.lines id.0 ≡ Some its.0 → finmap.get (content_at h (suc k)).table.lines id.0 ≡ Some its.0
        next k x le lt at old = by (line-after (content_at h k) x.edit id.0 its.0 (still-old limits h f.legal b id.0 its.0 its.1 k le (least k (length h) lt)) old)
          where
            by : (finmap.get (after (content_at h k) x.edit).table.lines id.0 ≡ Some its.0) ⊎ ((other : LineId) × ((x.edit ≡ RemoveLine other) × (id.0 ≡ other.0))) → finmap.get (content_at h (suc k)).table.lines id.0 ≡ Some its.0
            by (inl e) = ap (λ (c : Content). finmap.get c.table.lines id.0) (content_of-next h k x at) ∙ e
            by (inr e) = absurd (never k x le lt at old e.0 e.1.0 e.1.1)
