-- Three collinear places, seen from a fourth: which of them lies between the others, in the order of places.
use Rattle.std.proofs.Common.{◌≡◌, inl, inr, refl, sym, ap, ◌∙◌, arith, [], ◌∷◌, Bool, true, false, ◌&&◌, ◌||◌}
use Rattle.std.specs.Prelude.{ℤ, pos, ◌+ℤ◌, ◌-ℤ◌, ◌*ℤ◌, ◌<ℤ◌, ◌≤ℤ◌, int_lt}
use Rattle.std.proofs.lemmas.Int.{ints, by_lt_z}
use Rattle.ground_model.proofs.ZLaws.{mul_comm}
use Rattle.ground_model.specs.declared.corner.Corner.TheVariants.{At}
use Rattle.ground_model.specs.Place.{Coords, IsPlace, gap_limit, is_before}
use Rattle.ground_model.specs.Side.{side}
use Rattle.ground_model.proofs.Ring.{var, ◌⊕◌, ◌⊖◌, ◌⊗◌, ring}
use Rattle.ground_model.proofs.ZOrder.{mul-positive}
use Rattle.ground_model.proofs.Circle.{sideE, same_coords}
use Rattle.ground_model.proofs.Along.{UpTo, up_to, not_before}
use Rattle.predicates.specs.Far.{is_between}
use Rattle.predicates.proofs.Compared.{by_sign}
use Rattle.predicates.proofs.Signs.{mul-nonneg, mul-nonpos, mul-mixed, mul-negative, never-level, never-flat, never-low, never-high, weaken, weaken-neg}

-- ---- the order of places is that of their keys
abbrev key : Coords → ℤ
key p = p.e *ℤ pos gap_limit +ℤ p.n

key-up_to : (p q : Coords) → IsPlace p → IsPlace q → UpTo p q → key p ≤ℤ key q
key-up_to p q h k (inl lt) = omega (arith, ints, lt, h.south, h.north, k.south, k.north)
key-up_to p q h k (inr e) = omega (arith, ints, e.0, e.1)

up_to-key : (p q : Coords) → IsPlace p → IsPlace q → key p ≤ℤ key q → UpTo p q
up_to-key p q h k le = by_lt_z p.e q.e (λ lt. inl lt) (λ ge.
    let same : p.e ≡ q.e = omega (arith, ints, le, ge, h.south, h.north, k.south, k.north) in
    inr (same, omega (arith, ints, le, same)))

same_key : (p q : Coords) → IsPlace p → IsPlace q → key p ≡ key q → p ≡ q
same_key p q h k e = same_coords p q (omega (arith, ints, e, h.south, h.north, k.south, k.north)) (omega (arith, ints, e, h.south, h.north, k.south, k.north))

before-key : (p q : Coords) → IsPlace p → IsPlace q → is_before p q ≡ int_lt (key p) (key q)
before-key p q h k = by (is_before p q) refl
  where
    yes : (x y : ℤ) → x <ℤ y → int_lt x y ≡ true
    yes x y h =
        let t : true ≡ int_lt x y = omega (arith, ints) in
        sym t

    other : (x y : ℤ) → y ≤ℤ x → int_lt x y ≡ false
    other x y h =
        let t : false ≡ int_lt x y = omega (arith, ints) in
        sym t

    by : (t : Bool) → is_before p q ≡ t → is_before p q ≡ int_lt (key p) (key q)
    by true e = e ∙ sym (yes (key p) (key q) (by_lt_z (key p) (key q) (λ lt. lt) (λ ge.
        let not : is_before p q ≡ false = not_before q p (up_to-key q p k h ge) in
        absurd (differ (sym e ∙ not)))))
      where
        differ : true ≡ false → ⊥
        differ d = cc
    by false e = e ∙ sym (other (key p) (key q) (key-up_to q p k h (up_to q p e)))

-- ---- between by keys
abbrev between_keys : ℤ → ℤ → ℤ → Bool
between_keys b c d = (int_lt b d && int_lt d c) || (int_lt c d && int_lt d b)

between-keys : (b c d : Coords) → IsPlace b → IsPlace c → IsPlace d → is_between (At b) (At c) (At d) ≡ between_keys (key b) (key c) (key d)
between-keys b c d hb hc hd = (λ i. (before-key b d hb hd i && before-key d c hd hc i) || (before-key c d hc hd i && before-key d b hd hb i))

rising : (b c d : ℤ) → b <ℤ d → d <ℤ c → between_keys b c d ≡ true
rising b c d h k = by (int_lt b d) (int_lt d c) (int_lt c d) (int_lt d b) (omega (arith, ints)) (omega (arith, ints))
  where
    by : (s t u v : Bool) → true ≡ s → true ≡ t → ((s && t) || (u && v)) ≡ true
    by true true u v e f = refl
    by true false u v e f = cc
    by false t u v e f = cc

falling : (b c d : ℤ) → d <ℤ b → c <ℤ d → between_keys b c d ≡ true
falling b c d h k = by (int_lt b d) (int_lt d c) (int_lt c d) (int_lt d b) (omega (arith, ints)) (omega (arith, ints))
  where
    by : (s t u v : Bool) → true ≡ u → true ≡ v → ((s && t) || (u && v)) ≡ true
    by true true u v e f = refl
    by true false true true e f = refl
    by false t true true e f = refl
    by s t true false e f = cc
    by s t false v e f = cc

neither : (b c d : ℤ) → (b <ℤ d → c ≤ℤ d) → (d <ℤ b → d ≤ℤ c) → between_keys b c d ≡ false
neither b c d h k = by_lt_z b d
    (λ lt. falls (h lt) lt)
    (λ ge. by_lt_z d b (λ lt. rises (k lt) lt) (λ le. level (omega (arith, ints)) (omega (arith, ints))))
  where
    first : (s t u v : Bool) → false ≡ t → false ≡ v → ((s && t) || (u && v)) ≡ false
    first true false true false e f = refl
    first true false false false e f = refl
    first false false true false e f = refl
    first false false false false e f = refl
    first s true u v e f = cc
    first s t u true e f = cc

    second : (s t u v : Bool) → false ≡ s → false ≡ u → ((s && t) || (u && v)) ≡ false
    second false t false v e f = refl
    second true t u v e f = cc
    second s t true v e f = cc

    last : (s t u v : Bool) → false ≡ s → false ≡ v → ((s && t) || (u && v)) ≡ false
    last false t true false e f = refl
    last false t false false e f = refl
    last true t u v e f = cc
    last s t u true e f = cc

    falls : c ≤ℤ d → b <ℤ d → between_keys b c d ≡ false
    falls le lt = first (int_lt b d) (int_lt d c) (int_lt c d) (int_lt d b) (omega (arith, ints)) (omega (arith, ints))

    rises : d ≤ℤ c → d <ℤ b → between_keys b c d ≡ false
    rises le lt = second (int_lt b d) (int_lt d c) (int_lt c d) (int_lt d b) (omega (arith, ints)) (omega (arith, ints))

    level : d ≤ℤ b → b ≤ℤ d → between_keys b c d ≡ false
    level le ge = last (int_lt b d) (int_lt d c) (int_lt c d) (int_lt d b) (omega (arith, ints)) (omega (arith, ints))

-- ---- the keys of b, c, d, weighed by the sides at a
weighed : (g : ℤ) (a b c d : Coords)
    → side c a d *ℤ ((d.e *ℤ g +ℤ d.n) -ℤ (b.e *ℤ g +ℤ b.n)) ≡ side a b d *ℤ ((c.e *ℤ g +ℤ c.n) -ℤ (d.e *ℤ g +ℤ d.n)) +ℤ side b c d *ℤ ((a.e *ℤ g +ℤ a.n) -ℤ (d.e *ℤ g +ℤ d.n))
unfolding side
weighed g a b c d =
    ring (a.e ∷ a.n ∷ b.e ∷ b.n ∷ c.e ∷ c.n ∷ d.e ∷ d.n ∷ g ∷ [])
    (sideE 2 0 3 ⊗ ((var 6 ⊗ var 8 ⊕ var 7) ⊖ (var 2 ⊗ var 8 ⊕ var 3)))
    (sideE 0 1 3 ⊗ ((var 4 ⊗ var 8 ⊕ var 5) ⊖ (var 6 ⊗ var 8 ⊕ var 7)) ⊕ sideE 1 2 3 ⊗ ((var 0 ⊗ var 8 ⊕ var 1) ⊖ (var 6 ⊗ var 8 ⊕ var 7))) refl

balanced : (a b c d : Coords) → side b c d ≡ pos 0 → side c a d *ℤ (key d -ℤ key b) ≡ side a b d *ℤ (key c -ℤ key d)
balanced a b c d flat = weighed (pos gap_limit) a b c d ∙ dropped (side a b d *ℤ (key c -ℤ key d)) (side b c d) (key a -ℤ key d) flat
  where
    dropped : (x s y : ℤ) → s ≡ pos 0 → x +ℤ s *ℤ y ≡ x
    dropped x s y e = ap (λ k. x +ℤ k *ℤ y) e ∙ omega (arith, ints)

-- weights of one sign keep d between, others do not
same_way : (v w x y : ℤ) → pos 0 <ℤ v → pos 0 <ℤ w → v *ℤ x ≡ w *ℤ y → pos 0 <ℤ x → pos 0 <ℤ y
same_way v w x y hv hw e hx = by_lt_z (pos 0) y (λ lt. lt) (λ le. absurd (clash (v *ℤ x) (w *ℤ y) e (mul-positive v x hv hx) (mul-mixed w y (weaken w hw) le)))
  where
    clash : (p q : ℤ) → p ≡ q → pos 0 <ℤ p → q ≤ℤ pos 0 → ⊥
    clash p q e h k = omega (arith, ints, e, h, k)

same_way_back : (v w x y : ℤ) → pos 0 <ℤ v → pos 0 <ℤ w → v *ℤ x ≡ w *ℤ y → x <ℤ pos 0 → y <ℤ pos 0
same_way_back v w x y hv hw e hx = by_lt_z y (pos 0) (λ lt. lt) (λ ge. absurd (clash (v *ℤ x) (w *ℤ y) e (mul-negative v x hv hx) (mul-nonneg w y (weaken w hw) ge)))
  where
    clash : (p q : ℤ) → p ≡ q → p <ℤ pos 0 → pos 0 ≤ℤ q → ⊥
    clash p q e h k = omega (arith, ints, e, h, k)

opposite_way : (v w x y : ℤ) → v ≤ℤ pos 0 → pos 0 <ℤ w → v *ℤ x ≡ w *ℤ y → pos 0 <ℤ x → y ≤ℤ pos 0
opposite_way v w x y hv hw e hx = by_lt_z (pos 0) y (λ gt. absurd (clash (v *ℤ x) (w *ℤ y) (x *ℤ v) e (mul_comm v x) (mul-mixed x v (weaken x hx) hv) (mul-positive w y hw gt))) (λ le. le)
  where
    clash : (p q r : ℤ) → p ≡ q → p ≡ r → r ≤ℤ pos 0 → pos 0 <ℤ q → ⊥
    clash p q r e f h k = omega (arith, ints, e, f, h, k)

opposite_way_back : (v w x y : ℤ) → v ≤ℤ pos 0 → pos 0 <ℤ w → v *ℤ x ≡ w *ℤ y → x <ℤ pos 0 → pos 0 ≤ℤ y
opposite_way_back v w x y hv hw e hx = by_lt_z y (pos 0) (λ lt. absurd (clash (v *ℤ x) (w *ℤ y) e (mul-nonpos v x hv (weaken-neg x hx)) (mul-negative w y hw lt))) (λ ge. ge)
  where
    clash : (p q : ℤ) → p ≡ q → pos 0 ≤ℤ p → q <ℤ pos 0 → ⊥
    clash p q e h k = omega (arith, ints, e, h, k)

-- ---- b, c and d are places, of which d is between the others or not
pub is_between-true : (a b c d : Coords) → IsPlace b → IsPlace c → IsPlace d → (b ≡ c → ⊥) → side b c d ≡ pos 0 → pos 0 <ℤ side c a d → pos 0 <ℤ side a b d → is_between (At b) (At c) (At d) ≡ true
is_between-true a b c d hb hc hd differ flat left_ca left_ab =
    between-keys b c d hb hc hd ∙ by_sign (key d -ℤ key b)
    (λ lt. falling (key b) (key c) (key d) (order_back (key d) (key b) lt) (order_back (key c) (key d) (same_way_back (side c a d) (side a b d) (key d -ℤ key b) (key c -ℤ key d) left_ca left_ab (balanced a b c d flat) lt)))
    (λ gt. rising (key b) (key c) (key d) (order (key d) (key b) gt) (order (key c) (key d) (same_way (side c a d) (side a b d) (key d -ℤ key b) (key c -ℤ key d) left_ca left_ab (balanced a b c d flat) gt)))
    (λ e. absurd (differ (same_key b c hb hc (level (key b) (key c) (key d) e (both_zero (key c -ℤ key d) (same_way (side a b d) (side c a d) (key c -ℤ key d) (key d -ℤ key b) left_ab left_ca (sym (balanced a b c d flat))) (same_way_back (side a b d) (side c a d) (key c -ℤ key d) (key d -ℤ key b) left_ab left_ca (sym (balanced a b c d flat))) e)))))
  where
    order : (x y : ℤ) → pos 0 <ℤ (x -ℤ y) → y <ℤ x
    order x y h = omega (arith, ints, h)

    order_back : (x y : ℤ) → (x -ℤ y) <ℤ pos 0 → x <ℤ y
    order_back x y h = omega (arith, ints, h)

    both_zero : {z : ℤ} (y : ℤ) → (pos 0 <ℤ y → pos 0 <ℤ z) → (y <ℤ pos 0 → z <ℤ pos 0) → z ≡ pos 0 → y ≡ pos 0
    both_zero {z} y h k e = by_sign y (λ lt. absurd (never-flat z (k lt) e)) (λ gt. absurd (never-level z (h gt) e)) (λ f. f)

    level : (b c d : ℤ) → d -ℤ b ≡ pos 0 → c -ℤ d ≡ pos 0 → b ≡ c
    level b c d e f = omega (arith, ints, e, f)

-- past b
pub is_between-past_b : (a b c d : Coords) → IsPlace b → IsPlace c → IsPlace d → side b c d ≡ pos 0 → pos 0 <ℤ side c a d → side a b d ≤ℤ pos 0 → is_between (At b) (At c) (At d) ≡ false
is_between-past_b a b c d hb hc hd flat left_ca right_ab =
    between-keys b c d hb hc hd ∙ neither (key b) (key c) (key d)
    (λ lt. by_lt_z (key d) (key c) (λ rise. absurd (never-low (key d -ℤ key b) (gap (key d) (key b) lt) (opposite_way (side a b d) (side c a d) (key c -ℤ key d) (key d -ℤ key b) right_ab left_ca (sym (balanced a b c d flat)) (gap (key c) (key d) rise)))) (λ le. le))
    (λ lt. by_lt_z (key c) (key d) (λ fall. absurd (never-high (key d -ℤ key b) (opposite_way_back (side a b d) (side c a d) (key c -ℤ key d) (key d -ℤ key b) right_ab left_ca (sym (balanced a b c d flat)) (gap_back (key c) (key d) fall)) (gap_back (key d) (key b) lt))) (λ ge. ge))
  where
    gap : (x y : ℤ) → y <ℤ x → pos 0 <ℤ (x -ℤ y)
    gap x y h = omega (arith, ints, h)

    gap_back : (x y : ℤ) → x <ℤ y → (x -ℤ y) <ℤ pos 0
    gap_back x y h = omega (arith, ints, h)

-- past c
pub is_between-past_c : (a b c d : Coords) → IsPlace b → IsPlace c → IsPlace d → side b c d ≡ pos 0 → side c a d ≤ℤ pos 0 → pos 0 <ℤ side a b d → is_between (At b) (At c) (At d) ≡ false
is_between-past_c a b c d hb hc hd flat right_ca left_ab =
    between-keys b c d hb hc hd ∙ neither (key b) (key c) (key d)
    (λ lt. below (key c) (key d) (opposite_way (side c a d) (side a b d) (key d -ℤ key b) (key c -ℤ key d) right_ca left_ab (balanced a b c d flat) (gap (key d) (key b) lt)))
    (λ lt. above (key c) (key d) (opposite_way_back (side c a d) (side a b d) (key d -ℤ key b) (key c -ℤ key d) right_ca left_ab (balanced a b c d flat) (gap_back (key d) (key b) lt)))
  where
    gap : (x y : ℤ) → y <ℤ x → pos 0 <ℤ (x -ℤ y)
    gap x y h = omega (arith, ints, h)

    gap_back : (x y : ℤ) → x <ℤ y → (x -ℤ y) <ℤ pos 0
    gap_back x y h = omega (arith, ints, h)

    below : (x y : ℤ) → (x -ℤ y) ≤ℤ pos 0 → x ≤ℤ y
    below x y h = omega (arith, ints, h)

    above : (x y : ℤ) → pos 0 ≤ℤ (x -ℤ y) → y ≤ℤ x
    above x y h = omega (arith, ints, h)
