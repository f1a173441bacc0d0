-- A sheet has no facet twice, since its triangles do not overlap.
use Rattle.std.proofs.Common.{◌≡◌, ℕ, zero, suc, ◌+◌, ◌≤◌, refl, sym, subst, ◌∙◌, arith, List, [], ◌∷◌, Bool, true, false, cond, Some, None}
use Rattle.std.specs.Prelude.{ℤ, pos, ◌<ℤ◌, Option, slice_get, count_by}
use Rattle.std.specs.List.{filter_map, cons_option}
use Rattle.std.proofs.lemmas.Int.{ints}
use Rattle.std.proofs.lemmas.List.Sums.{sum_by-cons}
use Rattle.ground_model.specs.declared.corner.Corner.TheVariants.{At}
use Rattle.ground_model.specs.declared.facet.Facet.{Facet}
use Rattle.ground_model.specs.Side.{side}
use Rattle.ground_model.specs.Mark.{is_same_facet}
use Rattle.ground_model.specs.Corner.{corner_side}
use Rattle.ground_model.proofs.Elements.{some_counted}
use Rattle.predicates.specs.Net.{Net, Triangle, facet_by}
use Rattle.predicates.specs.Sheet.{IsSheet}
use Rattle.predicates.specs.Weighted.{weighted_side}
use Rattle.cdt_law.specs.Laws.{OnceLaw}
use Rattle.predicates.proofs.Tiling.{left-of}
use Rattle.predicates.proofs.Nudged.{Inside, center, center-pq, center-qr, center-rp}
use Rattle.predicates.proofs.FarTriangle.{packed}
use Rattle.predicates.proofs.Owners.{IsTurn, turn-side, turn-inside}
use Rattle.cdt_law.proofs.Kept.{kept-of}
use Rattle.ground_model.proofs.Members.{same-facet}
use Rattle.cdt_law.proofs.SheetFacets.{OfPlaces, of-places, TurnedFirst, turned-first}
use Rattle.predicates.proofs.Signs.{never-level, positive-along}
use Rattle.predicates.proofs.FlatSides.{flat_ab, flat_bc, flat_ca}

-- ---- at most one is kept
-- what passes is made of one element alone
record Alone {X Y : Type 0} (h : X → Option Y) (test : Y → Bool) (xs : List X) : Type 0 where
  alone : (j k : ℕ) (x y : X) (m n : Y) → slice_get xs j ≡ Some x → slice_get xs k ≡ Some y → h x ≡ Some m → h y ≡ Some n → test m ≡ true → test n ≡ true → j ≡ k

alone-rest : {X Y : Type 0} (h : X → Option Y) (test : Y → Bool) (x : X) (xs : List X) → Alone h test (x ∷ xs) → Alone h test xs
alone-rest h test x xs a = record { alone = λ j k y z m n at_j at_k e f t u. less j k (a.alone (suc j) (suc k) y z m n at_j at_k e f t u) }
  where
    less : (j k : ℕ) → suc j ≡ suc k → j ≡ k
    less j k e = omega (arith, e)

count-kept : {X Y : Type 0} (h : X → Option Y) (test : Y → Bool) (xs : List X) → Alone h test xs → count_by test (filter_map h xs) ≤ 1
count-kept h test [] a = omega arith
count-kept {X} {Y} h test (x ∷ xs) a = by (h x) refl (count-kept h test xs (alone-rest h test x xs a))
  where
    none : (y : Y) → h x ≡ Some y → test y ≡ true → (n : ℕ) → count_by test (filter_map h xs) ≡ n → n ≡ 0
    none y e t zero f = refl
    none y e t (suc n) f =
        let k = kept-of h test xs (some_counted test (filter_map h xs) (omega (arith, f))) in
        let clash : zero ≡ suc k.index = a.alone zero (suc k.index) x k.item y k.made refl k.at e k.is t k.passes in
        absurd (omega (arith, clash))

    one : (y : Y) → h x ≡ Some y → (t : Bool) → test y ≡ t → count_by test (filter_map h xs) ≤ 1 → cond t 1 0 + count_by test (filter_map h xs) ≤ 1
    one y e true f le = let z : count_by test (filter_map h xs) ≡ 0 = none y e f (count_by test (filter_map h xs)) refl in omega (arith, z)
    one y e false f le = omega (arith, le)

    by : (o : Option Y) → h x ≡ o → count_by test (filter_map h xs) ≤ 1 → count_by test (cons_option o (filter_map h xs)) ≤ 1
    by None e le = le
    by (Some y) e le = rw (sum_by-cons (λ z. cond (test z) 1 0) y (filter_map h xs)) (one y e (test y) refl le)

-- ---- a triangle's facet is a turn of it
facet-turn : (net : Net) → IsSheet net → (k : ℕ) (t : Triangle) (g : Facet) → slice_get net.triangles k ≡ Some t → facet_by net t.a t.b t.c ≡ Some g → IsTurn t (At g.a) (At g.b) (At g.c)
facet-turn net sheet k t g at e =
    subst (λ (x : Triangle). IsTurn x (At g.a) (At g.b) (At g.c)) (sym whole) (subst (λ (y : Facet). IsTurn places (At y.a) (At y.b) (At y.c)) (sym (o.is ∙ first.is)) first.turn)
  where
    o : OfPlaces net t.a t.b t.c g
    o = of-places net t.a t.b t.c g e

    places : Triangle
    places = record { a = At o.p; b = At o.q; c = At o.r }

    whole : t ≡ places
    whole = λ i. record { a = o.first i; b = o.second i; c = o.third i }

    turned : pos 0 <ℤ side o.p o.q o.r
    turned = subst (λ (x : Triangle). pos 0 <ℤ side-of x) whole (left-of net sheet k t at)
      where
        side-of : Triangle → ℤ
        side-of x = corner_side x.a x.b x.c

    first : TurnedFirst net o.p o.q o.r
    first = turned-first net o.p o.q o.r
        (λ e. never-level (side o.p o.q o.r) turned (flat_ab o.p o.q o.r e))
        (λ e. never-level (side o.p o.q o.r) turned (flat_bc o.p o.q o.r e))
        (λ e. never-level (side o.p o.q o.r) turned (flat_ca o.p o.q o.r e))

pub once_law : OnceLaw
once_law net sheet f = count-kept (λ t. facet_by net t.a t.b t.c) (is_same_facet f) net.triangles (record { alone = alone })
  where
    middle : pos 0 <ℤ side f.a f.b f.c → Inside f.a f.b f.c (center f.a f.b f.c)
    middle h = record {
      ab = positive-along (weighted_side f.a f.b (center f.a f.b f.c)) (side f.a f.b f.c) (center-pq f.a f.b f.c) h;
      bc = positive-along (weighted_side f.b f.c (center f.a f.b f.c)) (side f.a f.b f.c) (center-qr f.a f.b f.c) h;
      ca = positive-along (weighted_side f.c f.a (center f.a f.b f.c)) (side f.a f.b f.c) (center-rp f.a f.b f.c) h;
    }

    turn-f : (k : ℕ) (t : Triangle) (m : Facet) → slice_get net.triangles k ≡ Some t → facet_by net t.a t.b t.c ≡ Some m → is_same_facet f m ≡ true → IsTurn t (At f.a) (At f.b) (At f.c)
    turn-f k t m at e s = subst (λ (y : Facet). IsTurn t (At y.a) (At y.b) (At y.c)) (sym (same-facet f m s)) (facet-turn net sheet k t m at e)

    alone : (j k : ℕ) (t u : Triangle) (m n : Facet) → slice_get net.triangles j ≡ Some t → slice_get net.triangles k ≡ Some u → facet_by net t.a t.b t.c ≡ Some m → facet_by net u.a u.b u.c ≡ Some n → is_same_facet f m ≡ true → is_same_facet f n ≡ true → j ≡ k
    alone j k t u m n at_j at_k e g s r =
        let turn_t = turn-f j t m at_j e s in
        let turn_u = turn-f k u n at_k g r in
        let inside = middle (turn-side t (At f.a) (At f.b) (At f.c) turn_t (left-of net sheet j t at_j)) in
        packed net sheet (center f.a f.b f.c) (omega (arith, ints)) j k t u at_j at_k (turn-inside t (At f.a) (At f.b) (At f.c) (center f.a f.b f.c) turn_t inside) (turn-inside u (At f.a) (At f.b) (At f.c) (center f.a f.b f.c) turn_u inside)
