-- Of two strictly convex corners of a star that are no neighbours, one has an edge that can be flipped.
use Rattle.std.proofs.Common.{◌≡◌, ◌⊎◌, ℕ, suc, zero, ◌<◌, ◌≤◌, ◌+◌, [], ◌∷◌, refl, sym, ap, subst, ◌∙◌, inl, inr, arith}
use Rattle.std.specs.Prelude.{ℤ, pos, ◌+ℤ◌, ◌-ℤ◌, ◌*ℤ◌, ◌<ℤ◌, ◌≤ℤ◌}
use Rattle.std.proofs.lemmas.Int.{ints, by_lt_z}
use Rattle.ground_model.specs.Place.{Coords}
use Rattle.ground_model.specs.Side.{side}
use Rattle.ground_model.proofs.Circle.{env, sideE}
use Rattle.ground_model.proofs.Ring.{num, ◌⊕◌, ◌⊖◌, ◌⊗◌, ring}
use Rattle.ground_model.proofs.ZOrder.{mul-positive}
use Rattle.predicates.proofs.Signs.{mul-nonneg, mul-mixed, weaken}
use Rattle.point_edit.specs.Stars.{IsInAngle, IsStar}

-- p, u, w, v, y have numbers 0 to 4
four_sides : (p u w v y : Coords) → side p w v *ℤ side p y u ≡ side p w y *ℤ side p v u +ℤ side p u w *ℤ side p v y
unfolding side
four_sides p u w v y = ring (env (p ∷ u ∷ w ∷ v ∷ y ∷ [])) (sideE 0 2 3 ⊗ sideE 0 4 1) (sideE 0 2 4 ⊗ sideE 0 3 1 ⊕ sideE 0 1 2 ⊗ sideE 0 3 4) refl

other_way : (p u w v y : Coords) → side p u w *ℤ side p v y ≡ side p y w *ℤ side p v u +ℤ side p w v *ℤ side p y u
unfolding side
other_way p u w v y = ring (env (p ∷ u ∷ w ∷ v ∷ y ∷ [])) (sideE 0 1 2 ⊗ sideE 0 3 4) (sideE 0 4 2 ⊗ sideE 0 3 1 ⊕ sideE 0 2 3 ⊗ sideE 0 4 1) refl

-- p, q, x, y, z have numbers 0 to 4
ahead_sides : (p q x y z : Coords) → side p q y *ℤ side p x z ≡ side p x y *ℤ side p q z +ℤ side p y z *ℤ side p q x
unfolding side
ahead_sides p q x y z = ring (env (p ∷ q ∷ x ∷ y ∷ z ∷ [])) (sideE 0 1 3 ⊗ sideE 0 2 4) (sideE 0 2 3 ⊗ sideE 0 1 4 ⊕ sideE 0 3 4 ⊗ sideE 0 1 2) refl

behind_sides : (p q x y z : Coords) → side p y q *ℤ side p x z ≡ side p y z *ℤ side p x q +ℤ side p x y *ℤ side p z q
unfolding side
behind_sides p q x y z = ring (env (p ∷ q ∷ x ∷ y ∷ z ∷ [])) (sideE 0 3 1 ⊗ sideE 0 2 4) (sideE 0 3 4 ⊗ sideE 0 2 1 ⊕ sideE 0 2 3 ⊗ sideE 0 4 1) refl

pub back : (p x y : Coords) → side p x y ≡ pos 0 -ℤ side p y x
unfolding side
back p x y = ring (env (p ∷ x ∷ y ∷ [])) (sideE 0 1 2) (num (pos 0) ⊖ sideE 0 2 1) refl

-- ---- numbers
pub quotient : (a x s t : ℤ) → a *ℤ x ≡ s +ℤ t → pos 0 <ℤ a → pos 0 ≤ℤ s → pos 0 <ℤ t → pos 0 <ℤ x
quotient a x s t e more h k = by_lt_z (pos 0) x (λ lt. lt) (λ le. absurd (never le))
  where
    none : (y s t : ℤ) → y ≡ s +ℤ t → y ≤ℤ pos 0 → pos 0 ≤ℤ s → pos 0 <ℤ t → ⊥
    none y s t e le h k = omega (arith, ints, e, le, h, k)

    never : x ≤ℤ pos 0 → ⊥
    never le = none (a *ℤ x) s t e (mul-mixed a x (weaken a more) le) h k

turned-sum : (s t r : ℤ) → r ≡ s +ℤ t → r ≡ t +ℤ s
turned-sum s t r e = omega (arith, ints, e)

pub less-then : (x y : ℤ) → x ≡ pos 0 -ℤ y → y <ℤ pos 0 → pos 0 <ℤ x
less-then x y e h = omega (arith, ints, e, h)

pub not-more : (x y : ℤ) → x ≡ pos 0 -ℤ y → y ≤ℤ pos 0 → pos 0 ≤ℤ x
not-more x y e h = omega (arith, ints, e, h)

more-then : (x y : ℤ) → x ≡ pos 0 -ℤ y → pos 0 <ℤ y → x <ℤ pos 0
more-then x y e h = omega (arith, ints, e, h)

-- y is to the left of v and to the right of u, as seen from p: w is blocked between these, and y is in neither of its two angles
record IsBeyond (p u v y : Coords) : Type 0 where
  left : pos 0 <ℤ side p v y
  right : pos 0 <ℤ side p y u

beyond : (p u w v y : Coords) → pos 0 <ℤ side p u w → pos 0 <ℤ side p w v → side p u v ≤ℤ pos 0 → (IsInAngle p u w y → ⊥) → (IsInAngle p w v y → ⊥) → IsBeyond p u v y
beyond p u w v y uw wv wide not_first not_last = by_lt_z (side p w y) (pos 0) (λ lt. on_first lt) (λ le. on_last le)
  where
    vu : pos 0 ≤ℤ side p v u
    vu = not-more (side p v u) (side p u v) (back p v u) wide

    on_last : pos 0 ≤ℤ side p w y → IsBeyond p u v y
    on_last h =
        let yv : side p y v <ℤ pos 0 = by_lt_z (side p y v) (pos 0) (λ lt. lt) (λ le. absurd (not_last (record { from_u = h; to_v = le }))) in
        let vy : pos 0 <ℤ side p v y = less-then (side p v y) (side p y v) (back p v y) yv in record {
          left = vy;
          right = quotient (side p w v) (side p y u) (side p w y *ℤ side p v u) (side p u w *ℤ side p v y) (four_sides p u w v y) wv (mul-nonneg (side p w y) (side p v u) h vu) (mul-positive (side p u w) (side p v y) uw vy);
        }

    on_first : side p w y <ℤ pos 0 → IsBeyond p u v y
    on_first h =
        let yw : pos 0 <ℤ side p y w = less-then (side p y w) (side p w y) (back p y w) h in
        let uy : side p u y <ℤ pos 0 = by_lt_z (side p u y) (pos 0) (λ lt. lt) (λ le. absurd (not_first (record { from_u = le; to_v = weaken (side p y w) yw }))) in
        let yu : pos 0 <ℤ side p y u = less-then (side p y u) (side p u y) (back p y u) uy in record {
          left = quotient (side p u w) (side p v y) (side p y w *ℤ side p v u) (side p w v *ℤ side p y u) (other_way p u w v y) uw (mul-nonneg (side p y w) (side p v u) (weaken (side p y w) yw) vu) (mul-positive (side p w v) (side p y u) wv yu);
          right = yu;
        }

-- three places in a half-plane: the first is to the right of the last. f is the side of pq, or the other way round
pub ahead : (p q x y z : Coords) → pos 0 <ℤ side p x y → pos 0 <ℤ side p y z → pos 0 <ℤ side p q x → pos 0 <ℤ side p q y → pos 0 ≤ℤ side p q z → pos 0 <ℤ side p x z
ahead p q x y z xy yz qx qy qz = quotient (side p q y) (side p x z) (side p x y *ℤ side p q z) (side p y z *ℤ side p q x) (ahead_sides p q x y z) qy (mul-nonneg (side p x y) (side p q z) (weaken (side p x y) xy) qz) (mul-positive (side p y z) (side p q x) yz qx)

pub behind : (p q x y z : Coords) → pos 0 <ℤ side p x y → pos 0 <ℤ side p y z → pos 0 ≤ℤ side p x q → pos 0 <ℤ side p y q → pos 0 <ℤ side p z q → pos 0 <ℤ side p x z
behind p q x y z xy yz xq yq zq = quotient (side p y q) (side p x z) (side p y z *ℤ side p x q) (side p x y *ℤ side p z q) (behind_sides p q x y z) yq (mul-nonneg (side p y z) (side p x q) (weaken (side p y z) yz) xq) (mul-positive (side p x y) (side p z q) xy zq)

pub lt_or_eq : (d n : ℕ) → d ≤ n → (d < n) ⊎ (d ≡ n)
lt_or_eq zero zero h = inr refl
lt_or_eq zero (suc n) h = inl (omega arith)
lt_or_eq (suc d) zero h = absurd (omega (arith, h))
lt_or_eq (suc d) (suc n) h = elim (lt_or_eq d n (omega (arith, h))) as (λ _. (suc d < suc n) ⊎ (suc d ≡ suc n)) [
  | inl lt ↦ inl (omega (arith, lt))
  | inr e ↦ inr (ap suc e)
]

-- ---- in a star: the corner after b is blocked, and after c = b + d stands another, d from 2 to n - 2
module _ (p : Coords) (w : ℕ → Coords) (n : ℕ) (s : IsStar p w n) (b : ℕ) (wide : side p (w b) (w (suc (suc b))) ≤ℤ pos 0) where
  past : (d : ℕ) → 2 < d → d < n → IsBeyond p (w b) (w (suc (suc b))) (w (b + d))
  past d more less = beyond p (w b) (w (suc b)) (w (suc (suc b))) (w (b + d)) (s.turned b) (s.turned (suc b)) wide (s.apart b d (omega (arith, more)) less) (λ h. last_angle d more less h)
    where
      last_angle : (d : ℕ) → 2 < d → d < n → IsInAngle p (w (suc b)) (w (suc (suc b))) (w (b + d)) → ⊥
      last_angle (suc d) more less h =
          let e : b + suc d ≡ suc b + d = omega arith in
          s.apart (suc b) d (omega (arith, more)) (omega (arith, less)) (subst (λ k. IsInAngle p (w (suc b)) (w (suc (suc b))) (w k)) e h)
      last_angle zero more less h = absurd (omega (arith, more))

  home : w (b + n) ≡ w b
  home =
      let e : b + n ≡ n + b = omega arith in
      ap w e ∙ s.round b

  vu : pos 0 ≤ℤ side p (w (suc (suc b))) (w b)
  vu = not-more (side p (w (suc (suc b))) (w b)) (side p (w b) (w (suc (suc b)))) (back p (w (suc (suc b))) (w b)) wide

  -- the neighbour at b + d, for d from 3 on, up to b itself
  left_of_v : (d : ℕ) → 2 < d → d ≤ n → pos 0 ≤ℤ side p (w (suc (suc b))) (w (b + d))
  left_of_v d more less = elim (lt_or_eq d n less) as (λ _. pos 0 ≤ℤ side p (w (suc (suc b))) (w (b + d))) [
    | inl lt ↦ weaken _ (past d more lt).left
    | inr e ↦ subst (λ k. pos 0 ≤ℤ side p (w (suc (suc b))) k) (sym (ap (λ k. w (b + k)) e ∙ home)) vu
  ]

  two_on : w (suc (suc b)) ≡ w (b + 2)
  two_on =
      let e : suc (suc b) ≡ b + 2 = omega arith in
      ap w e

  -- the angle at p of the corner after b + d
  pub opens : (d : ℕ) → 2 ≤ d → d + 2 ≤ n → (pos 0 <ℤ side p (w (b + d)) (w (suc (suc (b + d))))) ⊎ ((n ≡ 4) × (d ≡ 2))
  opens d more less = elim (lt_or_eq 2 d more) as (λ _. (pos 0 <ℤ side p (w (b + d)) (w (suc (suc (b + d))))) ⊎ ((n ≡ 4) × (d ≡ 2))) [
    | inl lt ↦ inl (ahead p (w (suc (suc b))) (w (b + d)) (w (suc (b + d))) (w (suc (suc (b + d)))) (s.turned (b + d)) (s.turned (suc (b + d)))
        (past d lt (omega (arith, less))).left (subst (λ k. pos 0 <ℤ side p (w (suc (suc b))) (w k)) one (past (suc d) (omega (arith, lt)) (omega (arith, less))).left)
        (subst (λ k. pos 0 ≤ℤ side p (w (suc (suc b))) (w k)) two (left_of_v (suc (suc d)) (omega (arith, lt)) (omega (arith, less)))))
    | inr e ↦ elim (lt_or_eq (d + 2) n less) as (λ _. (pos 0 <ℤ side p (w (b + d)) (w (suc (suc (b + d))))) ⊎ ((n ≡ 4) × (d ≡ 2))) [
      | inl lt ↦ inl (behind p (w b) (w (b + d)) (w (suc (b + d))) (w (suc (suc (b + d)))) (s.turned (b + d)) (s.turned (suc (b + d)))
          (subst (λ k. pos 0 ≤ℤ side p k (w b)) (two_on ∙ ap (λ k. w (b + k)) e) vu)
          (subst (λ k. pos 0 <ℤ side p (w k) (w b)) one (past (suc d) (omega (arith, e)) (omega (arith, lt))).right)
          (subst (λ k. pos 0 <ℤ side p (w k) (w b)) two (past (suc (suc d)) (omega (arith, e)) (omega (arith, lt))).right))
      | inr f ↦ inr (omega (arith, e, f), sym e)
    ]
  ]
    where
      one : b + suc d ≡ suc (b + d)
      one = omega arith

      two : b + suc (suc d) ≡ suc (suc (b + d))
      two = omega arith
