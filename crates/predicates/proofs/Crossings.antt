-- Crossings and hits of places: the identities of the weighted sides, and what a hit tells.
use Rattle.std.proofs.Common.{◌≡◌, ℕ, ◌+◌, ◌*◌, refl, sym, ap, ◌∙◌, arith, List, [], ◌∷◌}
use Rattle.std.specs.Prelude.{ℤ, pos, ◌+ℤ◌, ◌-ℤ◌, ◌*ℤ◌, neg_ℤ, ◌<ℤ◌, Bool, true, false, int_lt}
use Rattle.std.proofs.lemmas.Int.{ints, by_lt_z}
use Rattle.ground_model.specs.Place.{Coords}
use Rattle.ground_model.specs.Side.{side}
use Rattle.ground_model.proofs.Ring.{Expr, var, num, ◌⊕◌, ◌⊖◌, ◌⊗◌, ring}
use Rattle.predicates.specs.HalfOpen.{rise, is_north, crossing_by, crossing, hit}
use Rattle.predicates.specs.Weighted.{Weighted, weighted_side}
use Rattle.predicates.proofs.HalfOpen.{Tells, Above, Beside, Balance, hit_tells}

-- ---- the weighted sides as polynomials: place k has the variables 2k and 2k + 1, the point 6, 7 and 8
abbrev env : Coords → Coords → Coords → Weighted → List ℤ
env a b c x = a.e ∷ a.n ∷ b.e ∷ b.n ∷ c.e ∷ c.n ∷ x.e ∷ x.n ∷ x.weight ∷ []

abbrev sideE : ℕ → ℕ → Expr
sideE i j =
    (var (2 * j) ⊖ var (2 * i)) ⊗ (var 7 ⊖ var 8 ⊗ var (2 * i + 1))
    ⊖ (var (2 * j + 1) ⊖ var (2 * i + 1)) ⊗ (var 6 ⊖ var 8 ⊗ var (2 * i))

abbrev riseE : ℕ → Expr
riseE i = var 8 ⊗ var (2 * i + 1) ⊖ var 7

-- the side of the other direction is the negative
pub weighted_side-back : (a b : Coords) (x : Weighted) → weighted_side b a x ≡ neg_ℤ (weighted_side a b x)
unfolding weighted_side
weighted_side-back a b x = ring (env a b a x) (sideE 1 0) (num (pos 0) ⊖ sideE 0 1) refl ∙ negated (weighted_side a b x)
  where
    negated : (y : ℤ) → pos 0 -ℤ y ≡ neg_ℤ y
    negated y = omega (arith, ints)

-- the three sides sum to the triangle's, as many times as the point weighs
pub weighted_sides : (a b c : Coords) (x : Weighted) → weighted_side b c x +ℤ weighted_side c a x +ℤ weighted_side a b x ≡ x.weight *ℤ side a b c
unfolding weighted_side side
weighted_sides a b c x =
    ring (env a b c x) (sideE 1 2 ⊕ sideE 2 0 ⊕ sideE 0 1)
    (var 8 ⊗ ((var 2 ⊖ var 0) ⊗ (var 5 ⊖ var 1) ⊖ (var 3 ⊖ var 1) ⊗ (var 4 ⊖ var 0))) refl

-- the rises balance at the point
pub rises_balance : (a b c : Coords) (x : Weighted) → weighted_side b c x *ℤ rise x a +ℤ weighted_side c a x *ℤ rise x b +ℤ weighted_side a b x *ℤ rise x c ≡ pos 0
unfolding weighted_side rise
rises_balance a b c x = ring (env a b c x) (sideE 1 2 ⊗ riseE 0 ⊕ sideE 2 0 ⊗ riseE 1 ⊕ sideE 0 1 ⊗ riseE 2) (num (pos 0)) refl

-- the three sides by the rises: they sum to 0 where the rises are alike
sides_by_rises : (a b c : Coords) (x : Weighted) → weighted_side b c x +ℤ weighted_side c a x +ℤ weighted_side a b x ≡ (b.e -ℤ a.e) *ℤ (rise x c -ℤ rise x a) -ℤ (c.e -ℤ a.e) *ℤ (rise x b -ℤ rise x a)
unfolding weighted_side rise
sides_by_rises a b c x =
    ring (env a b c x) (sideE 1 2 ⊕ sideE 2 0 ⊕ sideE 0 1)
    ((var 2 ⊖ var 0) ⊗ (riseE 2 ⊖ riseE 0) ⊖ (var 4 ⊖ var 0) ⊗ (riseE 1 ⊖ riseE 0)) refl

balance : (a b c : Coords) (x : Weighted) → pos 0 <ℤ (weighted_side b c x +ℤ weighted_side c a x +ℤ weighted_side a b x)
    → Balance (rise x a) (rise x b) (rise x c) (weighted_side b c x) (weighted_side c a x) (weighted_side a b x)
balance a b c x some = record {
  some = some;
  balance = rises_balance a b c x;
  not_level = λ ha hb hc. flat _ (b.e -ℤ a.e) (c.e -ℤ a.e) (rise x a) (rise x b) (rise x c) some (sides_by_rises a b c x) ha hb hc;
}
  where
    flat : (s u v na nb nc : ℤ) → pos 0 <ℤ s → s ≡ u *ℤ (nc -ℤ na) -ℤ v *ℤ (nb -ℤ na) → na ≡ pos 0 → nb ≡ pos 0 → nc ≡ pos 0 → ⊥
    flat s u v na nb nc h e ha hb hc =
        let zc : nc -ℤ na ≡ pos 0 = omega (arith, ints, ha, hc) in
        let zb : nb -ℤ na ≡ pos 0 = omega (arith, ints, ha, hb) in
        omega (arith, ints, h, e, ap (λ k. u *ℤ k) zc, ap (λ k. v *ℤ k) zb)

-- ---- the tests
above : (n : ℤ) → Above (int_lt (pos 0) n) n
above n = record { yes = λ e. omega (arith, ints, sym e); no = λ e. omega (arith, ints, sym e) }

beside : (s : ℤ) → Beside (int_lt (pos 0) s) (int_lt s (pos 0)) s
beside s = record { left_yes = λ e. omega (arith, ints, sym e); left_no = λ e. omega (arith, ints, sym e); right_yes = λ e. omega (arith, ints, sym e); right_no = λ e. omega (arith, ints, sym e) }

-- a hit is 0 or 1; it is 1 strictly inside, and only in the closed triangle
pub hit-tells : (a b c : Coords) (x : Weighted) → pos 0 <ℤ (weighted_side b c x +ℤ weighted_side c a x +ℤ weighted_side a b x)
    → Tells (hit x a b c) (weighted_side b c x) (weighted_side c a x) (weighted_side a b x)
hit-tells a b c x some =
    hit_tells (balance a b c x some) (is_north x a) (is_north x b) (is_north x c) _ _ _ _ _ _
    (above (rise x a)) (above (rise x b)) (above (rise x c)) (beside (weighted_side b c x)) (beside (weighted_side c a x)) (beside (weighted_side a b x))

-- ---- the crossing of the other direction is the negative
turned_back : (ua ub left right : Bool) → crossing_by ua ub left right +ℤ crossing_by ub ua right left ≡ pos 0
turned_back true true left right = refl
turned_back false false left right = refl
turned_back true false left true = refl
turned_back true false left false = refl
turned_back false true true right = refl
turned_back false true false right = refl

pub crossing-back : (x : Weighted) (a b : Coords) → crossing x a b +ℤ crossing x b a ≡ pos 0
crossing-back x a b =
    ap (λ s. crossing x a b +ℤ crossing_by (is_north x b) (is_north x a) (int_lt (pos 0) s) (int_lt s (pos 0))) (weighted_side-back a b x)
    ∙ ap (λ l. crossing x a b +ℤ crossing_by (is_north x b) (is_north x a) l (int_lt (neg_ℤ (weighted_side a b x)) (pos 0))) (left_is (weighted_side a b x))
    ∙ ap (λ r. crossing x a b +ℤ crossing_by (is_north x b) (is_north x a) (int_lt (weighted_side a b x) (pos 0)) r) (right_is (weighted_side a b x))
    ∙ turned_back (is_north x a) (is_north x b) (int_lt (pos 0) (weighted_side a b x)) (int_lt (weighted_side a b x) (pos 0))
  where
    left_is : (s : ℤ) → int_lt (pos 0) (neg_ℤ s) ≡ int_lt s (pos 0)
    left_is s = by_lt_z s (pos 0)
        (λ lt. let one : true ≡ int_lt (pos 0) (neg_ℤ s) = omega (arith, ints, lt) in let other : true ≡ int_lt s (pos 0) = omega (arith, ints, lt) in sym one ∙ other)
        (λ ge. let one : false ≡ int_lt (pos 0) (neg_ℤ s) = omega (arith, ints, ge) in let other : false ≡ int_lt s (pos 0) = omega (arith, ints, ge) in sym one ∙ other)

    right_is : (s : ℤ) → int_lt (neg_ℤ s) (pos 0) ≡ int_lt (pos 0) s
    right_is s = by_lt_z (pos 0) s
        (λ lt. let one : true ≡ int_lt (neg_ℤ s) (pos 0) = omega (arith, ints, lt) in let other : true ≡ int_lt (pos 0) s = omega (arith, ints, lt) in sym one ∙ other)
        (λ ge. let one : false ≡ int_lt (neg_ℤ s) (pos 0) = omega (arith, ints, ge) in let other : false ≡ int_lt (pos 0) s = omega (arith, ints, ge) in sym one ∙ other)
