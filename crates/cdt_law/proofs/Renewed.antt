-- What an edit makes fits into a newer sheet whose facets in the edit's zone have not changed.
use Rattle.std.proofs.Common.{◌≡◌, ℕ, zero, suc, ◌+◌, ◌<◌, ◌≤◌, inl, inr, ◌⊎◌, refl, ap, subst, ◌∙◌, arith, List, ◌++◌, Bool, true, false}
use Rattle.std.specs.Prelude.{not, Some, slice_get, cond}
use Rattle.std.specs.List.{All, list_all, filter}
use Rattle.std.proofs.lemmas.Bool.{both_ways as clash, or_left, not-true}
use Rattle.std.proofs.lemmas.List.Sums.{sum_by-append}
use Rattle.std.proofs.lemmas.List.Folds.{list_any-append}
use Rattle.ground_model.specs.declared.corner.Corner.{Corner}
use Rattle.ground_model.specs.declared.corner.Corner.TheVariants.{At}
use Rattle.ground_model.specs.declared.facet.Facet.{Facet}
use Rattle.ground_model.specs.Place.{IsPlace}
use Rattle.ground_model.specs.Mark.{is_among}
use Rattle.ground_model.proofs.Elements.{both_true, any_gives, any_from, of_filter, in_filter}
use Rattle.predicates.specs.Net.{Net, Triangle, Edge, edges_in, is_same_edge, is_triangle, times_in, rim, has, facet_by, facets_of}
use Rattle.predicates.specs.Sheet.{IsSheet, IsClosed, IsLocallyDelaunay, rimmed, are_over}
use Rattle.predicates.proofs.OneEach.{closed-once}
use Rattle.predicates.proofs.Owners.{IsTurn, Still, Owner, owner}
use Rattle.predicates.proofs.HasTriangles.{HasOwner, any-found, turn-of, has-owner}
use Rattle.predicates.proofs.OneOwner.{one_on_edge}
use Rattle.cdt_law.specs.Patch.{is_in, times_among, IsPatch}
use Rattle.cdt_law.specs.Hull.{Encloses}
use Rattle.cdt_law.specs.Boundary.{gone, IsMet, IsInner}
use Rattle.cdt_law.specs.Order.{AreAlike}
use Rattle.cdt_law.specs.Stale.{without, IsUnchanged, IsRenewed, ZoneLaw}
use Rattle.cdt_law.proofs.Patched.{any-either, any-second, among-append, rimmed-among, replaced-closed, patch_law}
use Rattle.cdt_law.proofs.Reordered.{order_law}
use Rattle.cdt_law.proofs.GoneFacets.{among-some, among-parts, turn-in, in-at, at-in, turn-shift, some-facet, Places, places-of, HasFacet, facet-there, gone-of, gone-in, GoneOn, gone-on}
use Rattle.cdt_law.proofs.Boundary.{gone-once, exchanged, boundary_law}

-- ---- triangles that are not in a list
-- a list has a triangle in each of its turns
pub in-turned : (ts : List Triangle) (t : Triangle) (a b c x y z : Corner) → IsTurn t a b c → IsTurn t x y z → is_in ts a b c ≡ true → is_in ts x y z ≡ true
in-turned ts t a b c x y z turn other e =
    let f = any-found (is_triangle a b c) ts e in
    turn-in ts f.index f.item x y z f.at (turn-shift t f.item a b c x y z turn other (turn-of a b c f.item f.passes))

-- a triangle of the net that is not in the list
pub record Without (net : Net) (ts : List Triangle) (a b c : Corner) : Type 0 where
  pub there : has net a b c ≡ true
  pub none : is_in ts a b c ≡ false

pub without-of : (net : Net) (ts : List Triangle) (a b c : Corner) → is_in (without net ts) a b c ≡ true → Without net ts a b c
without-of net ts a b c e =
    let found = any_gives (is_triangle a b c) (without net ts) e in
    let kept = of_filter (λ t. not (is_in ts t.a t.b t.c)) net.triangles found.0 found.1 in
    record { there = any_from (is_triangle a b c) net.triangles found.0 kept.0 found.2; none = by found.0 (turn-of a b c found.0 found.2) (not-true (is_in ts found.0.a found.0.b found.0.c) kept.1) (is_in ts a b c) refl }
  where
    by : (t : Triangle) → IsTurn t a b c → is_in ts t.a t.b t.c ≡ false → (s : Bool) → is_in ts a b c ≡ s → s ≡ false
    by t turn f false g = refl
    by t turn f true g = absurd (clash (is_in ts t.a t.b t.c) f (in-turned ts t a b c t.a t.b t.c turn Still g))

pub without-in : (net : Net) (ts : List Triangle) (k : ℕ) (t : Triangle) (a b c : Corner) → slice_get net.triangles k ≡ Some t → IsTurn t a b c → is_in ts a b c ≡ false → is_in (without net ts) a b c ≡ true
without-in net ts k t a b c at turn e =
    let i = in_filter (λ t. not (is_in ts t.a t.b t.c)) net.triangles t (at-in net.triangles k t at) (by (is_in ts t.a t.b t.c) refl) in
    let there = in-at (without net ts) t i in
    turn-in (without net ts) there.0 t a b c there.1 turn
  where
    by : (s : Bool) → is_in ts t.a t.b t.c ≡ s → not s ≡ true
    by false f = refl
    by true f = absurd (clash (is_in ts a b c) e (in-turned ts t t.a t.b t.c a b c Still turn f))

pub without-less : (net : Net) (ts : List Triangle) (e : Edge) → times_among (without net ts) e ≤ times_in (edges_in net) e
without-less net ts e = less (times_in (edges_in net) e) (times_among (without net ts) e) (times_among (filter (λ t. not (test t)) net.triangles) e) (among-parts test net.triangles e)
  where
    test : Triangle → Bool
    test t = not (is_in ts t.a t.b t.c)

    less : (n x y : ℕ) → n ≡ x + y → x ≤ n
    less n x y e = omega (arith, e)

pub edge-once : (net : Net) → IsSheet net → (e : Edge) → times_in (edges_in net) e ≤ 1
edge-once net sheet e = less (times_in (rimmed net) e) (times_in (edges_in net) e) (times_in rim e) (sum_by-append (λ y. cond (is_same_edge e y) 1 0) (edges_in net) rim) (sheet.once e)
  where
    less : (s n r : ℕ) → s ≡ n + r → s ≤ 1 → n ≤ 1
    less s n r e h = omega (arith, e, h)

-- ---- the newest sheet, what is destroyed first
abbrev pub regrouped : Net → List Triangle → Net
regrouped net ts = record net { triangles = ts ++ without net ts }

pub regrouped-alike : (net : Net) → IsSheet net → (ts : List Triangle) → ((a b c : Corner) → is_in ts a b c ≡ true → has net a b c ≡ true) → ((e : Edge) → times_among ts e ≤ 1) → AreAlike net (regrouped net ts)
regrouped-alike net sheet ts within once = record { over = record { points = refl; count = λ p q. refl }; same = same; once = twice }
  where
    either : (a b c : Corner) → (is_in ts a b c ≡ true) ⊎ (is_in (without net ts) a b c ≡ true) → has (regrouped net ts) a b c ≡ true
    either a b c (inl e) = list_any-append (is_triangle a b c) ts (without net ts) ∙ or_left (is_in ts a b c) (is_in (without net ts) a b c) e
    either a b c (inr e) = any-second (is_triangle a b c) ts (without net ts) e

    to : (a b c : Corner) → HasOwner net a b c → has (regrouped net ts) a b c ≡ true
    to a b c o = by (is_in ts a b c) refl
      where
        by : (s : Bool) → is_in ts a b c ≡ s → has (regrouped net ts) a b c ≡ true
        by true e = either a b c (inl e)
        by false e = either a b c (inr (without-in net ts o.owner.index o.owner.triangle a b c o.owner.at (subst (λ w. IsTurn o.owner.triangle a b w) o.third o.owner.turn) e))

    from : (a b c : Corner) → (is_in ts a b c ≡ true) ⊎ (is_in (without net ts) a b c ≡ true) → has net a b c ≡ true
    from a b c (inl e) = within a b c e
    from a b c (inr e) = (without-of net ts a b c e).there

    same : (a b c : Corner) → has net a b c ≡ has (regrouped net ts) a b c
    same a b c = both_true (has net a b c) (has (regrouped net ts) a b c) (λ e. to a b c (has-owner net a b c e)) (λ e. from a b c (any-either (is_triangle a b c) ts (without net ts) e))

    listed : List Triangle → Net
    listed us = record net { triangles = us }

    apart : (a b : Corner) → Owner ts a b → Owner (without net ts) a b → ⊥
    apart a b o q =
        let in_ts = turn-in ts o.index o.triangle a b o.third o.at o.turn in
        let rest = without-of net ts a b q.third (turn-in (without net ts) q.index q.triangle a b q.third q.at q.turn) in
        let one : q.third ≡ o.third = one_on_edge net sheet a b q.third o.third rest.there (within a b o.third in_ts) in
        clash (is_in ts a b q.third) rest.none (ap (is_in ts a b) one ∙ in_ts)

    owners : (e : Edge) → 0 < times_among ts e → 0 < times_among (without net ts) e → ⊥
    owners e some more = apart e.0 e.1 (owner (listed ts) e.0 e.1 some) (owner (listed (without net ts)) e.0 e.1 more)

    twice : (e : Edge) → times_in (edges_in (regrouped net ts)) e ≤ 1
    twice e = sum (times_in (edges_in (regrouped net ts)) e) (times_among ts e) (times_among (without net ts) e) (times_in (edges_in net) e) (among-append ts (without net ts) e) (once e) (without-less net ts e) (edge-once net sheet e) (owners e)
      where
        sum : (n x y m : ℕ) → n ≡ x + y → x ≤ 1 → y ≤ m → m ≤ 1 → (0 < x → 0 < y → ⊥) → n ≤ 1
        sum n zero y m e f g h k = omega (arith, e, g, h)
        sum n (suc x) zero m e f g h k = omega (arith, e, f)
        sum n (suc x) (suc y) m e f g h k = absurd (k (omega arith) (omega arith))

-- ---- the patch
pub gone-has : (net other : Net) (x y z : Corner) → is_in (gone net other) x y z ≡ true → has net x y z ≡ true
gone-has net other x y z e = let g = gone-of net other x y z e in turn-in net.triangles g.index g.triangle x y z g.at g.turn

-- its edges are those of what is made and of what stays
pub in-renewed : (base planned newest after : Net) → after.triangles ≡ gone planned base ++ without newest (gone base planned) → (x y : Corner)
    → (0 < times_among (gone planned base) (x, y)) ⊎ (0 < times_among (without newest (gone base planned)) (x, y)) → 0 < times_in (edges_in after) (x, y)
in-renewed base planned newest after triangles x y h = by (times_in (edges_in after) (x, y)) (times_among (gone planned base) (x, y)) (times_among (without newest (gone base planned)) (x, y))
    (ap (λ ts. times_among ts (x, y)) triangles ∙ among-append (gone planned base) (without newest (gone base planned)) (x, y)) h
  where
    by : (k m r : ℕ) → k ≡ m + r → (0 < m) ⊎ (0 < r) → 0 < k
    by k m r e (inl h) = omega (arith, e, h)
    by k m r e (inr h) = omega (arith, e, h)

module _ (base planned newest after : Net) (b : IsSheet base) (p : IsSheet planned) (n : IsSheet newest) (out : Encloses base planned) (out' : Encloses planned base)
    (inner : IsInner base planned) (inner' : IsInner planned base) (u : IsUnchanged base planned newest) where
  newest-sheet : IsSheet (regrouped newest (gone base planned)) × (IsLocallyDelaunay newest → IsLocallyDelaunay (regrouped newest (gone base planned)))
  newest-sheet = order_law newest (regrouped newest (gone base planned)) n (regrouped-alike newest n (gone base planned) u.destroyed (gone-once base planned b))

  -- with what is made in the place of what is destroyed, over places, it is closed
  pub renewed-closed : after.triangles ≡ gone planned base ++ without newest (gone base planned) → All IsPlace after.points → list_all (are_over after.points) after.triangles ≡ true → IsClosed after
  renewed-closed triangles places over =
      replaced-closed planned (regrouped newest (gone base planned)) after p newest-sheet.0 (gone base planned) (gone planned base) (without newest (gone base planned)) refl triangles (gone-has planned base)
      (boundary_law base planned b p out out' inner inner') places over

module _ (base planned newest after : Net) (b : IsSheet base) (p : IsSheet planned) (n : IsSheet newest) (out : Encloses base planned) (out' : Encloses planned base)
    (inner : IsInner base planned) (inner' : IsInner planned base) (u : IsUnchanged base planned newest) (r : IsRenewed base planned newest after) where
  closed : IsClosed after
  closed = renewed-closed base planned newest after b p n out out' inner inner' u r.triangles r.places r.over

  -- of the edge of a made triangle that has another beyond it in after, the reverse is none of a made one
  module _ (x y z w : Corner) (made : is_in (gone planned base) x y z ≡ true) (other : is_in (without newest (gone base planned)) y x w ≡ true) where
    alone : times_among (gone planned base) (y, x) ≡ 0
    alone = sum (times_in (rimmed after) (y, x)) (times_among (gone planned base) (y, x)) (times_among (without newest (gone base planned)) (y, x)) (times_in rim (y, x))
        (rimmed-among after (gone planned base) (without newest (gone base planned)) r.triangles (y, x)) (closed-once after closed (y, x)) (among-some (without newest (gone base planned)) y x w other)
      where
        sum : (s m o k : ℕ) → s ≡ m + o + k → s ≤ 1 → 0 < o → m ≡ 0
        sum s m o k e h l = omega (arith, e, h, l)

    m : IsMet planned x y
    m = inner' x y z made

    beyond : HasOwner planned y x (At m.third)
    beyond = has-owner planned y x (At m.third) m.there

    turn : IsTurn beyond.owner.triangle y x (At m.third)
    turn = subst (λ v. IsTurn beyond.owner.triangle y x v) beyond.third beyond.owner.turn

    ps : Places x y z
    ps = let g = gone-of planned base x y z made in places-of planned g.triangle x y z g.facet g.turn g.is

    its : (f : Facet) × (facet_by planned beyond.owner.triangle.a beyond.owner.triangle.b beyond.owner.triangle.c ≡ Some f)
    its = some-facet planned beyond.owner.triangle y x (At m.third) ps.q ps.p m.third turn ps.second ps.first refl

    -- the triangle beyond it in the planned net is one of the base
    stays : is_among (facets_of base) its.0 ≡ true
    stays = by (is_among (facets_of base) its.0) refl
      where
        some : (k : ℕ) → 0 < k → k ≡ 0 → ⊥
        some k h e = omega (arith, h, e)

        by : (s : Bool) → is_among (facets_of base) its.0 ≡ s → s ≡ true
        by true e = refl
        by false e = absurd (some (times_among (gone planned base) (y, x)) (among-some (gone planned base) y x (At m.third) (gone-in planned base beyond.owner.index beyond.owner.triangle y x (At m.third) its.0 beyond.owner.at turn its.1 e)) alone)

    in_base : HasFacet base its.0 y x (At m.third)
    in_base = facet-there planned base p b beyond.owner.index beyond.owner.triangle y x (At m.third) its.0 beyond.owner.at turn its.1 stays

    -- and it is beside one that is destroyed
    destroyed : GoneOn base planned x y
    destroyed = gone-on base planned x y (exchanged planned base p b out inner' x y (among-some (gone planned base) x y z made) alone).0

    beside : has planned y x w ≡ true
    beside =
        let in_newest = u.beside x y destroyed.third (At m.third) destroyed.there in_base.there in
        let one : w ≡ At m.third = one_on_edge newest n y x w (At m.third) (without-of newest (gone base planned) y x w other).there in_newest in
        ap (has planned y x) one ∙ m.there

  patch : IsPatch planned (regrouped newest (gone base planned)) after
  patch = record {
    destroyed = gone base planned;
    made = gone planned base;
    others = without newest (gone base planned);
    newest_is = refl;
    after_is = r.triangles;
    made_in = gone-has planned base;
    boundary = boundary_law base planned b p out out' inner inner';
    beside = beside;
    made_counts = r.made_counts;
    other_counts = r.other_counts;
    places = r.places;
    over = r.over;
    spanned = r.spanned;
  }

pub zone_law : ZoneLaw
zone_law base planned newest after b p local_p n local_n out out' inner inner' u r =
    let again = newest-sheet base planned newest after b p n out out' inner inner' u in
    patch_law planned (regrouped newest (gone base planned)) after p local_p again.0 (again.1 local_n) (patch base planned newest after b p n out out' inner inner' u r)
