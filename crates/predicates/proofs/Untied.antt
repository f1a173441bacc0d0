-- The lifted fourth place is not in the plane of the other three.
use Rattle.std.proofs.Common.{◌≡◌, ℕ, ◌<◌, ◌≢◌, refl, sym, ap, ◌∙◌, arith, true, false, [], ◌∷◌, ⊎_elim}
use Rattle.std.specs.Prelude.{ℤ, pos, ◌+ℤ◌, ◌-ℤ◌, ◌*ℤ◌, ◌<ℤ◌, int_lt, neg_ℤ}
use Rattle.std.proofs.lemmas.Int.{ints, by_lt_z}
use Rattle.ground_model.specs.Place.{Coords, ArePlaces}
use Rattle.ground_model.specs.Side.{side}
use Rattle.ground_model.specs.Height.{code, height, in_circle_sum, is_inside}
use Rattle.ground_model.specs.Lifted.{is_below}
use Rattle.ground_model.proofs.Ring.{num, ◌⊖◌, ring, mul-neg}
use Rattle.ground_model.proofs.Circle.{env, sideE, in_circle_sumE, side-turned, no_three}
use Rattle.ground_model.proofs.Lifted.{inside_positive}
use Rattle.ground_model.proofs.Ties.{tie_at_a, tie_at_d, turns_of_left, apart, turn_apart}
use Rattle.predicates.specs.Laws.{NeverTies}

-- the lifted d is in the plane of the lifted a, b, c
abbrev IsTied : Coords → Coords → Coords → Coords → Type 0
IsTied a b c d = height d *ℤ side a b c ≡ height a *ℤ side b c d +ℤ height b *ℤ side c a d +ℤ height c *ℤ side a b d

-- ---- a tie may be turned and mirrored
side-mirrored : (a b c : Coords) → side a c b ≡ neg_ℤ (side a b c)
unfolding side
side-mirrored a b c = ring (env (a ∷ b ∷ c ∷ [])) (sideE 0 2 1) (num (pos 0) ⊖ sideE 0 1 2) refl ∙ negated (side a b c)
  where
    negated : (x : ℤ) → pos 0 -ℤ x ≡ neg_ℤ x
    negated x = omega (arith, ints)

side-flipped : (a b c : Coords) → side b a c ≡ neg_ℤ (side a b c)
side-flipped a b c = side-turned b a c ∙ side-mirrored a b c

tied-turned : (a b c d : Coords) → IsTied a b c d → IsTied b c a d
tied-turned a b c d e =
    ap (λ k. height d *ℤ k) (sym (side-turned a b c)) ∙ e ∙ turned (height a *ℤ side b c d) (height b *ℤ side c a d) (height c *ℤ side a b d)
  where
    turned : (x y z : ℤ) → x +ℤ y +ℤ z ≡ y +ℤ z +ℤ x
    turned x y z = omega (arith, ints)

-- where there is a tie d is not inside, whichever way the corners turn
tied-outside : (a b c d : Coords) → IsTied a b c d → is_inside a b c d ≡ false
unfolding is_inside is_below
tied-outside a b c d e = not_below _ _ e
  where
    not_below : (x y : ℤ) → x ≡ y → int_lt x y ≡ false
    not_below x y e =
        let t : false ≡ int_lt x y = omega (arith, ints, e) in
        sym t

tied-mirrored : (a b c d : Coords) → IsTied a b c d → IsTied a c b d
tied-mirrored a b c d e = mirrored (height d) (height a) (height b) (height c) _ _ _ _ _ _ _ _
    (side-mirrored a b c) (side-flipped b c d) (side-flipped c a d) (side-flipped a b d) e
  where
    mirrored : (hd ha hb hc s x y z s' x' y' z' : ℤ) → s' ≡ neg_ℤ s → x' ≡ neg_ℤ x → y' ≡ neg_ℤ y → z' ≡ neg_ℤ z
        → hd *ℤ s ≡ ha *ℤ x +ℤ hb *ℤ y +ℤ hc *ℤ z → hd *ℤ s' ≡ ha *ℤ x' +ℤ hc *ℤ z' +ℤ hb *ℤ y'
    mirrored hd ha hb hc s x y z s' x' y' z' es ex ey ez e =
        omega (arith, ints, e, ap (λ k. hd *ℤ k) es, ap (λ k. ha *ℤ k) ex, ap (λ k. hb *ℤ k) ey, ap (λ k. hc *ℤ k) ez, mul-neg hd s, mul-neg ha x, mul-neg hb y, mul-neg hc z)

-- ---- neither sign of the sum of the squares
sum-mirrored : (a b c d : Coords) → in_circle_sum a c b d ≡ neg_ℤ (in_circle_sum a b c d)
unfolding side in_circle_sum
sum-mirrored a b c d = ring (env (a ∷ b ∷ c ∷ d ∷ [])) (in_circle_sumE 0 2 1 3) (num (pos 0) ⊖ in_circle_sumE 0 1 2 3) refl ∙ negated _
  where
    negated : (x : ℤ) → pos 0 -ℤ x ≡ neg_ℤ x
    negated x = omega (arith, ints)

sum_is_zero : (a b c d : Coords) → ArePlaces a b c d → IsTied a b c d → in_circle_sum a b c d ≡ pos 0
sum_is_zero a b c d p e = neither (in_circle_sum a b c d)
    (λ more. differ (sym (inside_positive a b c d p more) ∙ tied-outside a b c d e))
    (λ less. differ (sym (inside_positive a c b d (record { a_in = p.a_in; b_in = p.c_in; c_in = p.b_in; d_in = p.d_in }) (above _ _ (sum-mirrored a b c d) less)) ∙ tied-outside a c b d (tied-mirrored a b c d e)))
  where
    differ : true ≡ false → ⊥
    differ h = cc

    above : (x y : ℤ) → x ≡ neg_ℤ y → y <ℤ pos 0 → pos 0 <ℤ x
    above x y e h = omega (arith, ints, e)

    neither : (x : ℤ) → (pos 0 <ℤ x → ⊥) → (x <ℤ pos 0 → ⊥) → x ≡ pos 0
    neither x more less = by_lt_z x (pos 0) (λ lt. absurd (less lt)) (λ ge. by_lt_z (pos 0) x (λ lt. absurd (more lt)) (λ le. omega (arith, ints)))

-- ---- the least of the four
-- it is not the corner across from a side that is not zero
not_least : (a b c d : Coords) → ArePlaces a b c d → IsTied a b c d → ¬ (side b c d ≡ pos 0) → code a < code b → code a < code c → code a < code d → ⊥
not_least a b c d p e some lb lc ld = some (both_not (side b c d) (side c b d) (side-flipped b c d)
    (sym (tie_at_a a b c d p (sum_is_zero a b c d p e) some lb lc ld) ∙ tied-outside a b c d e)
    (sym (tie_at_a a c b d q (sum_is_zero a c b d q e') (λ h. some (back _ _ (side-flipped b c d) h)) lc lb ld) ∙ tied-outside a c b d e'))
  where
    q : ArePlaces a c b d
    q = record { a_in = p.a_in; b_in = p.c_in; c_in = p.b_in; d_in = p.d_in }

    e' : IsTied a c b d
    e' = tied-mirrored a b c d e

    back : (x y : ℤ) → y ≡ neg_ℤ x → y ≡ pos 0 → x ≡ pos 0
    back x y e h = omega (arith, ints, e, h)

    both_not : (x y : ℤ) → y ≡ neg_ℤ x → int_lt x (pos 0) ≡ false → int_lt y (pos 0) ≡ false → x ≡ pos 0
    both_not x y e h k = omega (arith, ints, e, h, k)

-- one of four distinct numbers is the least
none_least : (ka kb kc kd : ℕ) → ka ≢ kb → ka ≢ kc → ka ≢ kd → kb ≢ kc → kb ≢ kd → kc ≢ kd
    → (ka < kb → ka < kc → ka < kd → ⊥) → (kb < kc → kb < ka → kb < kd → ⊥) → (kc < ka → kc < kb → kc < kd → ⊥) → (kd < ka → kd < kb → kd < kc → ⊥) → ⊥
none_least ka kb kc kd ab ac ad bc bd cd at_a at_b at_c at_d = grind arith

pub never_ties : NeverTies
never_ties a b c d p left h e =
    none_least (code a) (code b) (code c) (code d)
    (apart a b p.a_in p.b_in (turn_apart a b c turns))
    (apart a c p.a_in p.c_in (λ k. turn_apart c a b turns_c (sym k)))
    (apart a d p.a_in p.d_in (λ k. h.not_a (sym k)))
    (apart b c p.b_in p.c_in (turn_apart b c a turns_b))
    (apart b d p.b_in p.d_in (λ k. h.not_b (sym k)))
    (apart c d p.c_in p.d_in (λ k. h.not_c (sym k)))
    (not_least a b c d p e (some a b c d p e turns h.not_b h.not_c))
    (not_least b c a d at_b e_b (some b c a d at_b e_b turns_b h.not_c h.not_a))
    (not_least c a b d at_c e_c (some c a b d at_c e_c turns_c h.not_a h.not_b))
    (λ la lb lc. differ (sym (tie_at_d a b c d p (sum_is_zero a b c d p e) turns la lb lc) ∙ tied-outside a b c d e))
  where
    turns : pos 0 <ℤ side a b c
    turns = turns_of_left a b c left

    differ : true ≡ false → ⊥
    differ h = cc

    turns_b : pos 0 <ℤ side b c a
    turns_b = along _ _ (side-turned a b c) turns
      where
        along : (x y : ℤ) → x ≡ y → pos 0 <ℤ x → pos 0 <ℤ y
        along x y e h = omega (arith, ints, e)

    turns_c : pos 0 <ℤ side c a b
    turns_c = along _ _ (side-turned b c a) turns_b
      where
        along : (x y : ℤ) → x ≡ y → pos 0 <ℤ x → pos 0 <ℤ y
        along x y e h = omega (arith, ints, e)

    at_b : ArePlaces b c a d
    at_b = record { a_in = p.b_in; b_in = p.c_in; c_in = p.a_in; d_in = p.d_in }

    at_c : ArePlaces c a b d
    at_c = record { a_in = p.c_in; b_in = p.a_in; c_in = p.b_in; d_in = p.d_in }

    e_b : IsTied b c a d
    e_b = tied-turned a b c d e

    e_c : IsTied c a b d
    e_c = tied-turned b c a d e_b

    some : (a b c d : Coords) → ArePlaces a b c d → IsTied a b c d → pos 0 <ℤ side a b c → ¬ (d ≡ b) → ¬ (d ≡ c) → ¬ (side b c d ≡ pos 0)
    some a b c d p e turns db dc flat = ⊎_elim db dc (no_three a b c d (λ k. level (side a b c) turns k) (sum_is_zero a b c d p e) flat)
      where
        level : (x : ℤ) → pos 0 <ℤ x → x ≡ pos 0 → ⊥
        level x h k = omega (arith, ints, k)
