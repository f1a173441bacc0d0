-- A triangle whose facet the other sheet has too is a triangle there, with the same facet.
use Rattle.std.proofs.Common.{◌≡◌, ℕ, zero, suc, ◌+◌, ◌<◌, inl, inr, refl, sym, ap, subst, ◌∙◌, arith, List, [], ◌∷◌, Bool, true, false, cond, Some, None, flat_map}
use Rattle.std.specs.Prelude.{pos, ◌<ℤ◌, not, ◌&&◌, Option, slice_get}
use Rattle.std.specs.List.{filter}
use Rattle.std.proofs.lemmas.List.Sums.{sum_by-append}
use Rattle.ground_model.specs.declared.corner.Corner.{Corner}
use Rattle.ground_model.specs.declared.corner.Corner.TheVariants.{At}
use Rattle.ground_model.specs.declared.facet.Facet.{Facet}
use Rattle.ground_model.specs.Place.{Coords, is_before}
use Rattle.ground_model.specs.Side.{side}
use Rattle.ground_model.specs.Mark.{is_among, is_same_facet}
use Rattle.ground_model.specs.Corner.{corner_side}
use Rattle.ground_model.proofs.Elements.{In, any_gives, of_filter, in_filter}
use Rattle.predicates.specs.Net.{Net, Triangle, Edge, edges_of, is_same_edge, is_triangle, times_in, has, facet_on, facet_turned, facet_by, facets_of}
use Rattle.predicates.specs.Sheet.{IsSheet}
use Rattle.predicates.proofs.Tiling.{left-of}
use Rattle.predicates.proofs.Owners.{IsTurn, Still, Once, Twice, owner, owner-times, turn-next}
use Rattle.predicates.proofs.HasTriangles.{any-found, turn-of, owner-has}
use Rattle.predicates.proofs.Signs.{never-level}
use Rattle.predicates.proofs.FlatSides.{flat_ab, flat_bc, flat_ca}
use Rattle.cdt_law.specs.Patch.{is_in, times_among}
use Rattle.cdt_law.specs.Boundary.{is_missing, gone}
use Rattle.cdt_law.proofs.Kept.{Kept, kept-of, kept-in}
use Rattle.ground_model.proofs.Members.{same-facet, facet-itself}
use Rattle.cdt_law.proofs.SheetFacets.{OfPlaces, of-places, TurnedFirst, turned-first, turn-facet}

-- ---- triangles of a list
abbrev listed : List Triangle → Net
listed ts = record { points = []; count = λ p q. 0; triangles = ts }

pub among-some : (ts : List Triangle) (a b c : Corner) → is_in ts a b c ≡ true → 0 < times_among ts (a, b)
among-some ts a b c e =
    let f = any-found (is_triangle a b c) ts e in
    owner-times ts f.item f.index a b c f.at (turn-of a b c f.item f.passes)

pub turn-in : (ts : List Triangle) (k : ℕ) (t : Triangle) (a b c : Corner) → slice_get ts k ≡ Some t → IsTurn t a b c → is_in ts a b c ≡ true
turn-in ts k t a b c at turn = owner-has (listed ts) a b (record { index = k; triangle = t; third = c; at = at; turn = turn })

pub in-at : {X : Type 0} (xs : List X) (x : X) → In x xs → (k : ℕ) × (slice_get xs k ≡ Some x)
in-at [] x i = absurd i
in-at (y ∷ ys) x (inl e) = (zero, ap Some (sym e))
in-at (y ∷ ys) x (inr i) = let at = in-at ys x i in (suc at.0, at.1)

pub at-in : {X : Type 0} (xs : List X) (k : ℕ) (x : X) → slice_get xs k ≡ Some x → In x xs
at-in [] k x e = cc
at-in {X} (y ∷ ys) zero x e = let same : y ≡ x = cc in inl (sym same)
at-in (y ∷ ys) (suc k) x e = inr (at-in ys k x e)

-- those that pass a test, and those that don't
pub among-parts : (test : Triangle → Bool) (ts : List Triangle) (e : Edge) → times_among ts e ≡ times_among (filter test ts) e + times_among (filter (λ t. not (test t)) ts) e
among-parts test [] e = refl
among-parts test (t ∷ ts) e = by (test t) (filter test ts) (filter (λ t. not (test t)) ts) (among-parts test ts e)
  where
    first : (t : Triangle) (ts : List Triangle) → times_among (t ∷ ts) e ≡ times_in (edges_of t) e + times_among ts e
    first t ts = sum_by-append (λ y. cond (is_same_edge e y) 1 0) (edges_of t) (flat_map edges_of ts)

    left : (n k m x y : ℕ) → n ≡ k + m → m ≡ x + y → n ≡ (k + x) + y
    left n k m x y e f = omega (arith, e, f)

    right : (n k m x y : ℕ) → n ≡ k + m → m ≡ x + y → n ≡ x + (k + y)
    right n k m x y e f = omega (arith, e, f)

    by : (s : Bool) (xs ys : List Triangle) → times_among ts e ≡ times_among xs e + times_among ys e → times_among (t ∷ ts) e ≡ times_among (cond s (t ∷ xs) xs) e + times_among (cond (not s) (t ∷ ys) ys) e
    by true xs ys f =
        left (times_among (t ∷ ts) e) (times_in (edges_of t) e) (times_among ts e) (times_among xs e) (times_among ys e) (first t ts) f ∙ ap (λ n. n + times_among ys e) (sym (first t xs))
    by false xs ys f =
        right (times_among (t ∷ ts) e) (times_in (edges_of t) e) (times_among ts e) (times_among xs e) (times_among ys e) (first t ts) f ∙ ap (λ n. times_among xs e + n) (sym (first t ys))

-- ---- turns
-- a triangle with one turn of another has its other turns too
pub turn-shift : (t s : Triangle) (a b c x y z : Corner) → IsTurn t a b c → IsTurn t x y z → IsTurn s a b c → IsTurn s x y z
turn-shift t s a b c x y z Still Still h = h
turn-shift t s a b c x y z Still Once h = turn-next s a b c h
turn-shift t s a b c x y z Still Twice h = turn-next s b c a (turn-next s a b c h)
turn-shift t s a b c x y z Once Once h = h
turn-shift t s a b c x y z Once Twice h = turn-next s a b c h
turn-shift t s a b c x y z Once Still h = turn-next s b c a (turn-next s a b c h)
turn-shift t s a b c x y z Twice Twice h = h
turn-shift t s a b c x y z Twice Still h = turn-next s a b c h
turn-shift t s a b c x y z Twice Once h = turn-next s b c a (turn-next s a b c h)

-- ---- the facet of a triangle, its least corner first
pub record FirstTurn (net : Net) (t : Triangle) (f : Facet) : Type 0 where
  pub a : Coords
  pub b : Coords
  pub c : Coords
  pub turn : IsTurn t (At a) (At b) (At c)
  pub least : (is_before a b && is_before a c) ≡ true
  pub is : f ≡ facet_on net a b c

pub first-turn : (net : Net) → IsSheet net → (k : ℕ) (t : Triangle) (f : Facet) → slice_get net.triangles k ≡ Some t → facet_by net t.a t.b t.c ≡ Some f → FirstTurn net t f
first-turn net sheet k t f at e =
    record { a = first.a; b = first.b; c = first.c; turn = subst (λ s. IsTurn s (At first.a) (At first.b) (At first.c)) (sym same) first.turn; least = first.least; is = o.is ∙ first.is }
  where
    o : OfPlaces net t.a t.b t.c f
    o = of-places net t.a t.b t.c f e

    same : t ≡ record { a = At o.p; b = At o.q; c = At o.r }
    same = λ i. record { a = o.first i; b = o.second i; c = o.third i }

    turned : pos 0 <ℤ side o.p o.q o.r
    turned = subst (λ (s : Triangle). pos 0 <ℤ corner_side s.a s.b s.c) same (left-of net sheet k t at)

    first : TurnedFirst net o.p o.q o.r
    first = turned-first net o.p o.q o.r
        (λ h. never-level (side o.p o.q o.r) turned (flat_ab o.p o.q o.r h))
        (λ h. never-level (side o.p o.q o.r) turned (flat_bc o.p o.q o.r h))
        (λ h. never-level (side o.p o.q o.r) turned (flat_ca o.p o.q o.r h))

-- a triangle of three places has a facet
pub some-facet : (net : Net) (t : Triangle) (x y z : Corner) (p q r : Coords) → IsTurn t x y z → x ≡ At p → y ≡ At q → z ≡ At r → (f : Facet) × (facet_by net t.a t.b t.c ≡ Some f)
some-facet net t x y z p q r Still ex ey ez = (facet_turned net p q r, λ i. facet_by net (ex i) (ey i) (ez i))
some-facet net t x y z p q r Once ex ey ez = (facet_turned net r p q, λ i. facet_by net (ez i) (ex i) (ey i))
some-facet net t x y z p q r Twice ex ey ez = (facet_turned net q r p, λ i. facet_by net (ey i) (ez i) (ex i))

-- and one with a facet has three places
pub record Places (x y z : Corner) : Type 0 where
  pub p : Coords
  pub q : Coords
  pub r : Coords
  pub first : x ≡ At p
  pub second : y ≡ At q
  pub third : z ≡ At r

pub places-of : (net : Net) (t : Triangle) (x y z : Corner) (f : Facet) → IsTurn t x y z → facet_by net t.a t.b t.c ≡ Some f → Places x y z
places-of net t x y z f turn e = by x y z turn
  where
    o : OfPlaces net t.a t.b t.c f
    o = of-places net t.a t.b t.c f e

    by : (x y z : Corner) → IsTurn t x y z → Places x y z
    by x y z Still = record { p = o.p; q = o.q; r = o.r; first = o.first; second = o.second; third = o.third }
    by x y z Once = record { p = o.q; q = o.r; r = o.p; first = o.second; second = o.third; third = o.first }
    by x y z Twice = record { p = o.r; q = o.p; r = o.q; first = o.third; second = o.first; third = o.second }

-- the net has the facets of its triangles
pub facet-among : (net : Net) (k : ℕ) (t : Triangle) (f : Facet) → slice_get net.triangles k ≡ Some t → facet_by net t.a t.b t.c ≡ Some f → is_among (facets_of net) f ≡ true
unfolding is_among
facet-among net k t f at e = kept-in (λ t. facet_by net t.a t.b t.c) (is_same_facet f) net.triangles k t f at e (facet-itself f)

-- ---- a facet of both sheets
-- the net has the triangle, and its facet there is f
pub record HasFacet (net : Net) (f : Facet) (x y z : Corner) : Type 0 where
  pub there : has net x y z ≡ true
  pub each : (k : ℕ) (t : Triangle) → slice_get net.triangles k ≡ Some t → IsTurn t x y z → facet_by net t.a t.b t.c ≡ Some f

pub facet-there : (net other : Net) → IsSheet net → IsSheet other → (k : ℕ) (t : Triangle) (x y z : Corner) (f : Facet) → slice_get net.triangles k ≡ Some t → IsTurn t x y z
    → facet_by net t.a t.b t.c ≡ Some f → is_among (facets_of other) f ≡ true → HasFacet other f x y z
unfolding is_among
facet-there net other sheet sheet' k t x y z f at turn e among = by (kept-of (λ t. facet_by other t.a t.b t.c) (is_same_facet f) other.triangles among)
  where
    first : FirstTurn net t f
    first = first-turn net sheet k t f at e

    by : Kept (λ t. facet_by other t.a t.b t.c) (is_same_facet f) other.triangles → HasFacet other f x y z
    by h = record { there = turn-in other.triangles h.index h.item x y z h.at (turn-shift t h.item (At first.a) (At first.b) (At first.c) x y z first.turn turn turned); each = each }
      where
        is_f : f ≡ h.made
        is_f = same-facet f h.made h.passes

        its : FirstTurn other h.item h.made
        its = first-turn other sheet' h.index h.item h.made h.at h.is

        same : facet_on net first.a first.b first.c ≡ facet_on other its.a its.b its.c
        same = sym first.is ∙ is_f ∙ its.is

        turned : IsTurn h.item (At first.a) (At first.b) (At first.c)
        turned = subst (λ (g : Facet). IsTurn h.item (At g.a) (At g.b) (At g.c)) (sym same) its.turn

        equal : f ≡ facet_on other first.a first.b first.c
        equal = is_f ∙ its.is ∙ (λ i. facet_on other (same-a i) (same-b i) (same-c i))
          where
            same-a : its.a ≡ first.a
            same-a = ap (λ (g : Facet). g.a) (sym same)

            same-b : its.b ≡ first.b
            same-b = ap (λ (g : Facet). g.b) (sym same)

            same-c : its.c ≡ first.c
            same-c = ap (λ (g : Facet). g.c) (sym same)

        each : (j : ℕ) (s : Triangle) → slice_get other.triangles j ≡ Some s → IsTurn s x y z → facet_by other s.a s.b s.c ≡ Some f
        each j s at_s turn_s =
            turn-facet other s (At first.a) (At first.b) (At first.c) first.a first.b first.c (turn-shift t s x y z (At first.a) (At first.b) (At first.c) turn first.turn turn_s) refl refl refl first.least
            ∙ ap Some (sym equal)

-- ---- triangles whose facet is gone
pub record Gone (net other : Net) (x y z : Corner) : Type 0 where
  pub index : ℕ
  pub triangle : Triangle
  pub at : slice_get net.triangles index ≡ Some triangle
  pub turn : IsTurn triangle x y z
  pub facet : Facet
  pub is : facet_by net triangle.a triangle.b triangle.c ≡ Some facet
  pub none : is_among (facets_of other) facet ≡ false

missing-of : (fs : List Facet) (o : Option Facet) → is_missing fs o ≡ true → (f : Facet) × ((o ≡ Some f) × (is_among fs f ≡ false))
missing-of fs None e = cc
missing-of fs (Some f) e = (f, (refl, by (is_among fs f) e))
  where
    by : (t : Bool) → not t ≡ true → t ≡ false
    by true e = cc
    by false e = refl

pub gone-of : (net other : Net) (x y z : Corner) → is_in (gone net other) x y z ≡ true → Gone net other x y z
gone-of net other x y z e =
    let found = any_gives (is_triangle x y z) (gone net other) e in
    let kept = of_filter (λ t. is_missing (facets_of other) (facet_by net t.a t.b t.c)) net.triangles found.0 found.1 in
    let at = in-at net.triangles found.0 kept.0 in
    let missing = missing-of (facets_of other) (facet_by net found.0.a found.0.b found.0.c) kept.1 in
    record { index = at.0; triangle = found.0; at = at.1; turn = turn-of x y z found.0 found.2; facet = missing.0; is = missing.1.0; none = missing.1.1 }

pub gone-in : (net other : Net) (k : ℕ) (t : Triangle) (x y z : Corner) (f : Facet) → slice_get net.triangles k ≡ Some t → IsTurn t x y z → facet_by net t.a t.b t.c ≡ Some f → is_among (facets_of other) f ≡ false → is_in (gone net other) x y z ≡ true
gone-in net other k t x y z f at turn e none =
    let i = in_filter (λ t. is_missing (facets_of other) (facet_by net t.a t.b t.c)) net.triangles t (at-in net.triangles k t at) (ap (is_missing (facets_of other)) e ∙ ap not none) in
    let there = in-at (gone net other) t i in
    turn-in (gone net other) there.0 t x y z there.1 turn

pub record GoneOn (net other : Net) (a b : Corner) : Type 0 where
  pub third : Corner
  pub there : is_in (gone net other) a b third ≡ true

pub gone-on : (net other : Net) (a b : Corner) → 0 < times_among (gone net other) (a, b) → GoneOn net other a b
gone-on net other a b some =
    let o = owner (listed (gone net other)) a b some in
    record { third = o.third; there = owner-has (listed (gone net other)) a b o }
