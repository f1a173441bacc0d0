-- Two facets of a content with a directed edge in common are one.
use Rattle.std.proofs.Common.{◌≡◌, ℕ, ◌⊎◌, inl, inr, refl, sym, ap, subst, ◌∙◌, List, Bool, true, false}
use Rattle.std.specs.Prelude.{◌&&◌, ◌||◌}
use Rattle.std.specs.List.{All}
use Rattle.std.proofs.lemmas.Bool.{and_parts, or_cases, true≢false}
use Rattle.ground_model.specs.declared.corner.Corner.TheVariants.{At}
use Rattle.ground_model.specs.declared.facet.Facet.{Facet}
use Rattle.ground_model.specs.declared.piece.Piece.{Piece}
use Rattle.ground_model.specs.Place.{Coords, IsPlace, is_before, is_same}
use Rattle.ground_model.specs.Line.{is_point}
use Rattle.ground_model.specs.Content.{points_of, count}
use Rattle.ground_model.specs.Corner.{corner_at}
use Rattle.ground_model.proofs.Ties.{same_of_is_same}
use Rattle.ground_model.proofs.Segments.{not_after}
use Rattle.ground_model.proofs.Along.{same_place}
use Rattle.cdt_law.specs.Laws.{EdgeLaw, has_edge}
use Rattle.predicates.proofs.OneOwner.{on_one_side, turned-third}
use Rattle.predicates.proofs.Owners.{Still}
use Rattle.cdt_law.proofs.GoodTriangle.{Site, IsSite, IsGood, good-turned}
use Rattle.cdt_law.proofs.OneTriangle.{one_triangle}
use Rattle.cdt_law.proofs.Counts.{CountsPieces, both_ways, Joined, joined-by, IsCounted, counted-of, both-then, both-else}
use Rattle.cdt_law.proofs.GoodFacet.{site_by}
use Rattle.cdt_law.proofs.SheetFacets.{IsFacetOf, facets-equal, tested-of}
use Rattle.cdt_law.proofs.FacetLaws.{content-counts, tri-test}

-- ---- the points and pieces of a count
both-even : (g : Coords → Coords → ℕ) (p q : Coords) → both_ways g p q ≡ both_ways g q p
both-even g p q = by (is_before p q) (is_before q p) refl refl
  where
    by : (t u : Bool) → is_before p q ≡ t → is_before q p ≡ u → both_ways g p q ≡ both_ways g q p
    by true u e f = both-then g p q e ∙ sym (both-else g q p (not_after p q e))
    by false true e f = both-else g p q e ∙ sym (both-then g q p f)
    by false false e f = let same = same_place p q e f in (λ i. both_ways g (same i) (sym same i))

count-site : (g : Coords → Coords → ℕ) (points : List Coords) → CountsPieces points g → All IsPlace points → IsSite (site_by g points)
count-site g points c places = record {
  places = places;
  even = both-even g;
  ends = λ p q some. by p q (joined-by g points c p q some);
}
  where
    end : (p q : Coords) (x : Piece) → IsCounted g x → ((x.p ≡ p) × (x.q ≡ q)) ⊎ ((x.p ≡ q) × (x.q ≡ p)) → is_point points p ≡ true
    end p q x k (inl e) = sym (ap (is_point points) e.0) ∙ c.first x.p x.q k.some
    end p q x k (inr e) = sym (ap (is_point points) e.1) ∙ c.last x.p x.q k.some

    by : (p q : Coords) → Joined g points p q → is_point points p ≡ true
    by p q j = end p q j.piece (counted-of g points j.piece j.of) j.ends

-- ---- a facet that begins with the edge
-- p, q and r are the facet's places, in its turn
data Begins (f : Facet) (p q r : Coords) : Type 0 where
  AtFirst : p ≡ f.a → q ≡ f.b → r ≡ f.c → Begins f p q r
  AtSecond : p ≡ f.b → q ≡ f.c → r ≡ f.a → Begins f p q r
  AtThird : p ≡ f.c → q ≡ f.a → r ≡ f.b → Begins f p q r

record HasThird (f : Facet) (p q : Coords) : Type 0 where
  third : Coords
  begins : Begins f p q third

edge-third : (f : Facet) (p q : Coords) → has_edge f p q ≡ true → HasThird f p q
edge-third f p q e = by (or_cases (at f.a f.b) (at f.b f.c || (at f.c f.a || false)) e)
  where
    at : Coords → Coords → Bool
    at x y = is_same x p && is_same y q

    same : (x y : Coords) → (is_same x p && is_same y q) ≡ true → (p ≡ x) × (q ≡ y)
    same x y h = let both = and_parts (is_same x p) (is_same y q) h in (sym (same_of_is_same x p both.0), sym (same_of_is_same y q both.1))

    last : (at f.c f.a ≡ true) ⊎ (false ≡ true) → HasThird f p q
    last (inl h) = let s = same f.c f.a h in record { third = f.b; begins = AtThird s.0 s.1 refl }
    last (inr h) = cc

    rest : (at f.b f.c ≡ true) ⊎ ((at f.c f.a || false) ≡ true) → HasThird f p q
    rest (inl h) = let s = same f.b f.c h in record { third = f.a; begins = AtSecond s.0 s.1 refl }
    rest (inr h) = last (or_cases (at f.c f.a) false h)

    by : (at f.a f.b ≡ true) ⊎ ((at f.b f.c || (at f.c f.a || false)) ≡ true) → HasThird f p q
    by (inl h) = let s = same f.a f.b h in record { third = f.c; begins = AtFirst s.0 s.1 refl }
    by (inr h) = rest (or_cases (at f.b f.c) (at f.c f.a || false) h)

-- ---- its corners are points, and its triangle is good
record IsGoodAt (s : Site) (p q r : Coords) : Type 0 where
  at_p : is_point s.points p ≡ true
  at_q : is_point s.points q ≡ true
  at_r : is_point s.points r ≡ true
  good : IsGood s (At p) (At q) (At r)

moved : (s : Site) (p q r x y z : Coords) → p ≡ x → q ≡ y → r ≡ z → IsGoodAt s x y z → IsGoodAt s p q r
moved s p q r x y z e f g h = subst (λ (k : Coords). IsGoodAt s p q k) (sym g) (subst (λ (k : Coords). IsGoodAt s p k z) (sym f) (subst (λ (k : Coords). IsGoodAt s k y z) (sym e) h))

begins-good : (s : Site) (f : Facet) (p q r : Coords) → IsFacetOf s f → Begins f p q r → IsGoodAt s p q r
begins-good s f p q r h (AtFirst e1 e2 e3) = moved s p q r f.a f.b f.c e1 e2 e3 (record { at_p = h.at_a; at_q = h.at_b; at_r = h.at_c; good = h.good })
begins-good s f p q r h (AtSecond e1 e2 e3) = moved s p q r f.b f.c f.a e1 e2 e3 (record { at_p = h.at_b; at_q = h.at_c; at_r = h.at_a; good = good-turned s (At f.a) (At f.b) (At f.c) h.good })
begins-good s f p q r h (AtThird e1 e2 e3) = moved s p q r f.c f.a f.b e1 e2 e3 (record { at_p = h.at_c; at_q = h.at_a; at_r = h.at_b; good = good-turned s (At f.b) (At f.c) (At f.a) (good-turned s (At f.a) (At f.b) (At f.c) h.good) })

-- the third corner on an edge is one
third-one : (s : Site) → IsSite s → (p q r t : Coords) → IsGoodAt s p q r → IsGoodAt s p q t → t ≡ r
third-one s site p q r t g h =
    let shared = on_one_side p q r t g.good.turned h.good.turned in
    let turn = one_triangle s site (At p) (At q) (At r) (At p) (At q) (At t) g.good h.good shared.point shared.first shared.second
    (record { first = λ d. record { place = p; is = refl; at = h.at_p }; second = λ d. record { place = q; is = refl; at = h.at_q }; third = λ d. record { place = t; is = refl; at = h.at_r } })
    (record { first = λ d. record { place = p; is = refl; at = g.at_p }; second = λ d. record { place = q; is = refl; at = g.at_q }; third = λ d. record { place = r; is = refl; at = g.at_r } }) in
    ap corner_at (turned-third (record { a = At p; b = At q; c = At r }) (At p) (At q) (At r) (At p) (At q) (At t) Still turn refl g.good.turned)

-- ---- of two facets with the same places the least is first, so that they are one
no_both : (x y : Coords) → is_before x y ≡ true → is_before y x ≡ true → ⊥
no_both x y e f = true≢false (sym f ∙ not_after x y e)

before-along : (x y x' y' : Coords) → x ≡ x' → y ≡ y' → is_before x' y' ≡ true → is_before x y ≡ true
before-along x y x' y' e f h = (λ i. is_before (e i) (f i)) ∙ h

first-of : (s : Site) (f : Facet) → IsFacetOf s f → is_before f.a f.b ≡ true
first-of s f h = (and_parts (is_before f.a f.b) (is_before f.a f.c) h.least).0

second-of : (s : Site) (f : Facet) → IsFacetOf s f → is_before f.a f.c ≡ true
second-of s f h = (and_parts (is_before f.a f.b) (is_before f.a f.c) h.least).1

equal : (s : Site) (f g : Facet) → IsFacetOf s f → IsFacetOf s g → f.a ≡ g.a → f.b ≡ g.b → f.c ≡ g.c → f ≡ g
equal s f g h k ea eb ec =
    facets-equal f g ea eb ec
    (h.ab ∙ (λ i. s.count (ea i) (eb i)) ∙ sym k.ab) (h.bc ∙ (λ i. s.count (eb i) (ec i)) ∙ sym k.bc) (h.ca ∙ (λ i. s.count (ec i) (ea i)) ∙ sym k.ca)

one-facet : (s : Site) (f g : Facet) (p q r : Coords) → IsFacetOf s f → IsFacetOf s g → Begins f p q r → Begins g p q r → f ≡ g
one-facet s f g p q r h k (AtFirst a b c) (AtFirst x y z) = equal s f g h k (sym a ∙ x) (sym b ∙ y) (sym c ∙ z)
one-facet s f g p q r h k (AtSecond a b c) (AtSecond x y z) = equal s f g h k (sym c ∙ z) (sym a ∙ x) (sym b ∙ y)
one-facet s f g p q r h k (AtThird a b c) (AtThird x y z) = equal s f g h k (sym b ∙ y) (sym c ∙ z) (sym a ∙ x)
one-facet s f g p q r h k (AtFirst a b c) (AtSecond x y z) = absurd (no_both f.a f.c (second-of s f h) (before-along f.c f.a g.a g.b (sym c ∙ z) (sym a ∙ x) (first-of s g k)))
one-facet s f g p q r h k (AtFirst a b c) (AtThird x y z) = absurd (no_both f.a f.b (first-of s f h) (before-along f.b f.a g.a g.c (sym b ∙ y) (sym a ∙ x) (second-of s g k)))
one-facet s f g p q r h k (AtSecond a b c) (AtFirst x y z) = absurd (no_both f.a f.b (first-of s f h) (before-along f.b f.a g.a g.c (sym a ∙ x) (sym c ∙ z) (second-of s g k)))
one-facet s f g p q r h k (AtSecond a b c) (AtThird x y z) = absurd (no_both f.a f.c (second-of s f h) (before-along f.c f.a g.a g.b (sym b ∙ y) (sym c ∙ z) (first-of s g k)))
one-facet s f g p q r h k (AtThird a b c) (AtFirst x y z) = absurd (no_both f.a f.c (second-of s f h) (before-along f.c f.a g.a g.b (sym a ∙ x) (sym b ∙ y) (first-of s g k)))
one-facet s f g p q r h k (AtThird a b c) (AtSecond x y z) = absurd (no_both f.a f.b (first-of s f h) (before-along f.b f.a g.a g.c (sym c ∙ z) (sym b ∙ y) (second-of s g k)))

pub edge_law : EdgeLaw
edge_law c places f g in_f in_g p q at_f at_g =
    one-facet s f g p q e.third h k e.begins (subst (Begins g p q) (third-one s site p q e.third t.third (begins-good s f p q e.third h e.begins) (begins-good s g p q t.third k t.begins)) t.begins)
  where
    s : Site
    s = site_by (count c) (points_of c)

    site : IsSite s
    site = count-site (count c) (points_of c) (content-counts c) places

    h : IsFacetOf s f
    h = tested-of (count c) (points_of c) (content-counts c) places f (sym (tri-test c f) ∙ in_f)

    k : IsFacetOf s g
    k = tested-of (count c) (points_of c) (content-counts c) places g (sym (tri-test c g) ∙ in_g)

    e : HasThird f p q
    e = edge-third f p q at_f

    t : HasThird g p q
    t = edge-third g p q at_g
