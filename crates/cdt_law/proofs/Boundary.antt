-- The facets that each of two sheets has alone have one boundary, where none of them is on the hull.
use Rattle.std.proofs.Common.{◌≡◌, ℕ, zero, suc, ◌+◌, ◌<◌, ◌≤◌, inl, inr, ◌⊎◌, refl, sym, ap, subst, ◌∙◌, arith, Bool, true, false, Some}
use Rattle.std.specs.Prelude.{pos, ◌<ℤ◌, not, cond}
use Rattle.std.specs.List.{filter}
use Rattle.std.proofs.lemmas.Bool.{both_ways as clash}
use Rattle.std.proofs.lemmas.List.Sums.{sum_by-append}
use Rattle.ground_model.specs.declared.corner.Corner.{Corner}
use Rattle.ground_model.specs.declared.corner.Corner.TheVariants.{At, Far}
use Rattle.ground_model.specs.declared.facet.Facet.{Facet}
use Rattle.ground_model.specs.Place.{Coords}
use Rattle.ground_model.specs.Side.{is_left}
use Rattle.ground_model.specs.Mark.{is_among}
use Rattle.ground_model.specs.Corner.{corner_at, corner_side}
use Rattle.predicates.specs.Net.{Net, Triangle, Edge, edges_in, is_same_edge, times_in, rim, has, facet_by, facets_of}
use Rattle.predicates.specs.Sheet.{IsSheet, rimmed, is_over}
use Rattle.predicates.proofs.Tiling.{left-of}
use Rattle.predicates.proofs.Owners.{IsTurn, IsFarEdge, From0, From1, From2, Owner, owner-times, owner-behind, turn-side, turn-next}
use Rattle.predicates.proofs.HasTriangles.{HasOwner, has-owner, owner-has}
use Rattle.predicates.proofs.OneOwner.{one_on_edge}
use Rattle.predicates.proofs.NoFourInPlane.{is_left-from}
use Rattle.cdt_law.specs.Patch.{times_among}
use Rattle.cdt_law.specs.Hull.{Encloses, is_lower}
use Rattle.cdt_law.specs.Boundary.{is_missing, gone, IsMet, IsInner, BoundaryLaw}
use Rattle.cdt_law.proofs.GoodInSheet.{over-first}
use Rattle.cdt_law.proofs.GoneFacets.{among-some, among-parts, turn-in, some-facet, Places, places-of, facet-among, HasFacet, facet-there, Gone, gone-of, gone-in, GoneOn, gone-on}

-- an edge is that of one triangle that is gone, at most
pub gone-once : (net other : Net) → IsSheet net → (e : Edge) → times_among (gone net other) e ≤ 1
gone-once net other sheet e =
    less (times_in (rimmed net) e) (times_in (edges_in net) e) (times_in rim e) (times_among (gone net other) e) (times_among (filter (λ t. not (test t)) net.triangles) e)
    (sum_by-append (λ y. cond (is_same_edge e y) 1 0) (edges_in net) rim) (among-parts test net.triangles e) (sheet.once e)
  where
    test : Triangle → Bool
    test t = is_missing (facets_of other) (facet_by net t.a t.b t.c)

    less : (s n r x y : ℕ) → s ≡ n + r → n ≡ x + y → s ≤ 1 → x ≤ 1
    less s n r x y e f h = omega (arith, e, f, h)

-- ---- an edge of what is gone from the base, whose reverse is none
module _ (base planned : Net) (sheet : IsSheet base) (sheet' : IsSheet planned) (out : Encloses planned base) where
  -- t has the edge ab, where ab are places and so is the third corner; s is beyond it and is a facet of both
  module _ (a b z : Corner) (t : Gone base planned a b z) (m : IsMet base a b) (alone : times_among (gone base planned) (b, a) ≡ 0) where
    places : Places a b z
    places = places-of base t.triangle a b z t.facet t.turn t.is

    beyond : HasOwner base b a (At m.third)
    beyond = has-owner base b a (At m.third) m.there

    turn : IsTurn beyond.owner.triangle b a (At m.third)
    turn = subst (λ w. IsTurn beyond.owner.triangle b a w) beyond.third beyond.owner.turn

    its : (f : Facet) × (facet_by base beyond.owner.triangle.a beyond.owner.triangle.b beyond.owner.triangle.c ≡ Some f)
    its = some-facet base beyond.owner.triangle b a (At m.third) places.q places.p m.third turn places.second places.first refl

    -- the facet beyond is one of both
    stays : is_among (facets_of planned) its.0 ≡ true
    stays = by (is_among (facets_of planned) its.0) refl
      where
        some : (n : ℕ) → 0 < n → n ≡ 0 → ⊥
        some n h e = omega (arith, h, e)

        by : (s : Bool) → is_among (facets_of planned) its.0 ≡ s → s ≡ true
        by true e = refl
        by false e = absurd (some (times_among (gone base planned) (b, a)) (among-some (gone base planned) b a (At m.third) (gone-in base planned beyond.owner.index beyond.owner.triangle b a (At m.third) its.0 beyond.owner.at turn its.1 e)) alone)

    kept : HasFacet planned its.0 b a (At m.third)
    kept = facet-there base planned sheet sheet' beyond.owner.index beyond.owner.triangle b a (At m.third) its.0 beyond.owner.at turn its.1 stays

    not_far : IsFarEdge b a → ⊥
    not_far e = by b a e places.first
      where
        by : (x y : Corner) → IsFarEdge x y → y ≡ At places.p → ⊥
        by x y From0 f = cc
        by x y From1 f = cc
        by x y From2 f = cc

    back : Owner planned.triangles a b
    back = by (owner-behind planned sheet' b a (some (has-owner planned b a (At m.third) kept.there)))
      where
        some : HasOwner planned b a (At m.third) → 0 < times_in (edges_in planned) (b, a)
        some o = owner-times planned.triangles o.owner.triangle o.owner.index b a o.owner.third o.owner.at o.owner.turn

        by : Owner planned.triangles a b ⊎ IsFarEdge b a → Owner planned.triangles a b
        by (inl o) = o
        by (inr e) = absurd (not_far e)

    in_base : has base a b z ≡ true
    in_base = turn-in base.triangles t.index t.triangle a b z t.at t.turn

    -- the planned triangle at ab is not far
    no_far : (k : ℕ) → back.third ≡ Far k → ⊥
    no_far k e = clash (is_left (corner_at a) (corner_at b) places.r)
        (out a b k (subst (λ w. has planned a b w ≡ true) e (owner-has planned a b back)) (ap (λ w. is_lower w k) places.first) (ap (λ w. is_lower w k) places.second) places.r
        (ap (is_over base.points) (sym places.third) ∙ over-first base sheet t.index t.triangle z a b t.at (turn-next t.triangle b z a (turn-next t.triangle a b z t.turn))))
        (is_left-from (corner_at a) (corner_at b) places.r (subst (λ w. pos 0 <ℤ corner_side a b w) places.third (turn-side t.triangle a b z t.turn (left-of base sheet t.index t.triangle t.at))))

    -- nor is it a facet of both
    lost : (u : Coords) → back.third ≡ At u → (h : Facet) → facet_by planned back.triangle.a back.triangle.b back.triangle.c ≡ Some h → is_among (facets_of base) h ≡ false
    lost u e h is = by (is_among (facets_of base) h) refl
      where
        by : (s : Bool) → is_among (facets_of base) h ≡ s → s ≡ false
        by false f = refl
        by true f =
            let there = facet-there planned base sheet' sheet back.index back.triangle a b back.third h back.at back.turn is f in
            let same : back.third ≡ z = one_on_edge base sheet a b back.third z there.there in_base in
            let one : Some t.facet ≡ Some h = sym t.is ∙ there.each t.index t.triangle t.at (subst (λ w. IsTurn t.triangle a b w) (sym same) t.turn) in
            let equal : t.facet ≡ h = cc in
            absurd (clash (is_among (facets_of planned) t.facet) t.none (ap (is_among (facets_of planned)) equal ∙ facet-among planned back.index back.triangle h back.at is))

    made-some : 0 < times_among (gone planned base) (a, b)
    made-some = by back.third refl
      where
        by : (w : Corner) → back.third ≡ w → 0 < times_among (gone planned base) (a, b)
        by (Far k) e = absurd (no_far k e)
        by (At u) e =
            let h = some-facet planned back.triangle a b back.third places.p places.q u back.turn places.first places.second e in
            among-some (gone planned base) a b back.third (gone-in planned base back.index back.triangle a b back.third h.0 back.at back.turn h.1 (lost u e h.0 h.1))

    made-none : times_among (gone planned base) (b, a) ≡ 0
    made-none = by (times_among (gone planned base) (b, a)) refl
      where
        never : GoneOn planned base b a → ⊥
        never o = at (gone-of planned base b a o.third o.there)
          where
            at : Gone planned base b a o.third → ⊥
            at g =
                let same : o.third ≡ At m.third = one_on_edge planned sheet' b a o.third (At m.third) (turn-in planned.triangles g.index g.triangle b a o.third g.at g.turn) kept.there in
                let one : Some g.facet ≡ Some its.0 = sym g.is ∙ kept.each g.index g.triangle g.at (subst (λ w. IsTurn g.triangle b a w) same g.turn) in
                let equal : g.facet ≡ its.0 = cc in
                clash (is_among (facets_of base) g.facet) g.none (ap (is_among (facets_of base)) equal ∙ facet-among base beyond.owner.index beyond.owner.triangle its.0 beyond.owner.at its.1)

        by : (n : ℕ) → times_among (gone planned base) (b, a) ≡ n → n ≡ 0
        by zero e = refl
        by (suc n) e = absurd (never (gone-on planned base b a (omega (arith, e))))

  pub exchanged : IsInner base planned → (a b : Corner) → 0 < times_among (gone base planned) (a, b) → times_among (gone base planned) (b, a) ≡ 0 → (0 < times_among (gone planned base) (a, b)) × (times_among (gone planned base) (b, a) ≡ 0)
  exchanged inner a b some alone = by (gone-on base planned a b some)
    where
      by : GoneOn base planned a b → (0 < times_among (gone planned base) (a, b)) × (times_among (gone planned base) (b, a) ≡ 0)
      by o =
          let t = gone-of base planned a b o.third o.there in
          let m = inner a b o.third o.there in
          (made-some a b o.third t m alone, made-none a b o.third t m alone)

pub boundary_law : BoundaryLaw
boundary_law base planned sheet sheet' out out' inner inner' x =
    balanced (times_among (gone base planned) (x.0, x.1)) (times_among (gone base planned) (x.1, x.0)) (times_among (gone planned base) (x.0, x.1)) (times_among (gone planned base) (x.1, x.0))
    (gone-once base planned sheet (x.0, x.1)) (gone-once base planned sheet (x.1, x.0)) (gone-once planned base sheet' (x.0, x.1)) (gone-once planned base sheet' (x.1, x.0))
    (exchanged base planned sheet sheet' out' inner x.0 x.1) (exchanged base planned sheet sheet' out' inner x.1 x.0) (exchanged planned base sheet' sheet out inner' x.0 x.1) (exchanged planned base sheet' sheet out inner' x.1 x.0)
  where
    balanced : (d d' m m' : ℕ) → d ≤ 1 → d' ≤ 1 → m ≤ 1 → m' ≤ 1 → (0 < d → d' ≡ 0 → (0 < m) × (m' ≡ 0)) → (0 < d' → d ≡ 0 → (0 < m') × (m ≡ 0)) → (0 < m → m' ≡ 0 → (0 < d) × (d' ≡ 0)) → (0 < m' → m ≡ 0 → (0 < d') × (d ≡ 0)) → d + m' ≡ m + d'
    balanced zero zero zero zero ld ld' lm lm' f g h k = refl
    balanced zero zero zero (suc m') ld ld' lm lm' f g h k = let less : 0 < 0 = (k (omega arith) refl).0 in absurd (omega (arith, less))
    balanced zero zero (suc m) zero ld ld' lm lm' f g h k = let less : 0 < 0 = (h (omega arith) refl).0 in absurd (omega (arith, less))
    balanced zero zero (suc m) (suc m') ld ld' lm lm' f g h k = omega (arith, lm, lm')
    balanced zero (suc d') m m' ld ld' lm lm' f g h k = let both = g (omega arith) refl in omega (arith, ld', lm', both.0, both.1)
    balanced (suc d) zero m m' ld ld' lm lm' f g h k = let both = f (omega arith) refl in omega (arith, ld, lm, both.0, both.1)
    balanced (suc d) (suc d') zero zero ld ld' lm lm' f g h k = omega (arith, ld, ld')
    balanced (suc d) (suc d') zero (suc m') ld ld' lm lm' f g h k = let equal : suc d ≡ 0 = (k (omega arith) refl).1 in absurd (omega (arith, equal))
    balanced (suc d) (suc d') (suc m) zero ld ld' lm lm' f g h k = let equal : suc d' ≡ 0 = (h (omega arith) refl).1 in absurd (omega (arith, equal))
    balanced (suc d) (suc d') (suc m) (suc m') ld ld' lm lm' f g h k = omega (arith, ld, ld', lm, lm')
