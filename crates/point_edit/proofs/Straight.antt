-- On one side of a line through a point, with two or more neighbours there, an edge to one of these can be flipped.
use Rattle.std.proofs.Common.{◌≡◌, ℕ, suc, zero, ◌<◌, ◌≤◌, ◌+◌, [], ◌∷◌, refl, sym, ap, subst, ◌∙◌, inl, inr, arith}
use Rattle.std.specs.Prelude.{ℤ, pos, ◌-ℤ◌, ◌*ℤ◌, ◌<ℤ◌, ◌≤ℤ◌}
use Rattle.std.proofs.lemmas.Int.{ints, by_lt_z}
use Rattle.ground_model.specs.Place.{Coords}
use Rattle.ground_model.specs.Side.{side}
use Rattle.ground_model.proofs.Circle.{env, sideE}
use Rattle.ground_model.proofs.Ring.{var, ◌⊖◌, ◌⊗◌, ring}
use Rattle.ground_model.proofs.ZOrder.{mul-positive}
use Rattle.predicates.proofs.FlatSides.{flat_bc, flat_ca}
use Rattle.predicates.proofs.Signs.{mul-nonneg, mul-mixed, weaken}
use Rattle.point_edit.specs.Stars.{IsStar, IsFlippableAfter, StraightLaw}
use Rattle.point_edit.proofs.Blocked.{lt_or_eq, back, quotient, ahead, behind, less-then, not-more}
use Rattle.point_edit.proofs.Forms.{corner}

-- p, a, b, y, e have numbers 0 to 4
pub swapped : (p a b y e : Coords) → side p a b *ℤ side p y e ≡ side p a y *ℤ side p b e -ℤ side p a e *ℤ side p b y
unfolding side
swapped p a b y e = ring (env (p ∷ a ∷ b ∷ y ∷ e ∷ [])) (sideE 0 1 2 ⊗ sideE 0 3 4) (sideE 0 1 3 ⊗ sideE 0 2 4 ⊖ sideE 0 1 4 ⊗ sideE 0 2 3) refl

dropped : (x s y : ℤ) → s ≡ pos 0 → x -ℤ s *ℤ y ≡ x
dropped x s y e = (λ i. x -ℤ e i *ℤ y) ∙ none x y
  where
    none : (x y : ℤ) → x -ℤ pos 0 *ℤ y ≡ x
    none x y = omega (arith, ints)

pub split_gap : (b c : ℕ) → b ≤ c → (d : ℕ) × (b + d ≡ c)
split_gap zero c h = (c, omega arith)
split_gap (suc b) zero h = absurd (omega (arith, h))
split_gap (suc b) (suc c) h =
    let g = split_gap b c (omega (arith, h)) in
    let e = g.1 in
    (g.0, omega (arith, e))

from-left : (a y b s : ℤ) → a *ℤ y ≡ s *ℤ b → pos 0 <ℤ a → pos 0 <ℤ b → pos 0 <ℤ s → pos 0 <ℤ y
from-left a y b s e more right left = by_lt_z (pos 0) y (λ lt. lt) (λ le. absurd (none (a *ℤ y) (s *ℤ b) e (mul-mixed a y (weaken a more) le) (mul-positive s b left right)))
  where
    none : (x y : ℤ) → x ≡ y → x ≤ℤ pos 0 → pos 0 <ℤ y → ⊥
    none x y e h k = omega (arith, ints, e, h, k)

from-right : (a y b s : ℤ) → a *ℤ y ≡ s *ℤ b → pos 0 <ℤ a → pos 0 <ℤ b → s ≤ℤ pos 0 → y ≤ℤ pos 0
from-right a y b s e more right low = by_lt_z (pos 0) y (λ lt. absurd (none (a *ℤ y) (s *ℤ b) e (mul-positive a y more lt) (at-most s b low right))) (λ le. le)
  where
    none : (x y : ℤ) → x ≡ y → pos 0 <ℤ x → y ≤ℤ pos 0 → ⊥
    none x y e h k = omega (arith, ints, e, h, k)

    turned : (x y : ℤ) → y *ℤ x ≡ x *ℤ y
    turned x y = ring (x ∷ y ∷ []) (var 1 ⊗ var 0) (var 0 ⊗ var 1) refl

    at-most : (x y : ℤ) → x ≤ℤ pos 0 → pos 0 <ℤ y → (x *ℤ y) ≤ℤ pos 0
    at-most x y h k = subst (λ z. z ≤ℤ pos 0) (turned x y) (mul-mixed y x (weaken y k) h)

module _ (p : Coords) (w : ℕ → Coords) (n : ℕ) (s : IsStar p w n) (m : ℕ) (more : 2 < m) (less : m < n) (flat : side p (w 0) (w m) ≡ pos 0) where
  toward_end : pos 0 <ℤ side p (w 1) (w m)
  toward_end = by_lt_z (side p (w m) (w 1)) (pos 0) (λ lt. less-then (side p (w 1) (w m)) (side p (w m) (w 1)) (back p (w 1) (w m)) lt)
      (λ le. absurd (s.apart 0 m (omega (arith, more)) less (record { from_u = none (side p (w 0) (w (0 + m))) (ap (λ k. side p (w 0) (w k)) zero_on ∙ flat); to_v = subst (λ k. pos 0 ≤ℤ side p (w k) (w 1)) (sym zero_on) le })))
    where
      zero_on : 0 + m ≡ m
      zero_on = omega arith

      none : (x : ℤ) → x ≡ pos 0 → pos 0 ≤ℤ x
      none x e = omega (arith, ints, e)

  by_height : (y : Coords) → side p (w 0) (w 1) *ℤ side p y (w m) ≡ side p (w 0) y *ℤ side p (w 1) (w m)
  by_height y = swapped p (w 0) (w 1) y (w m) ∙ dropped (side p (w 0) y *ℤ side p (w 1) (w m)) (side p (w 0) (w m)) (side p (w 1) y) flat

  -- the neighbours between are all on the left
  step : (i j : ℕ) → i ≡ suc j → suc i < m → pos 0 <ℤ side p (w 0) (w i) → pos 0 <ℤ side p (w 0) (w (suc i))
  step i j pred lt up = by_lt_z (pos 0) (side p (w 0) (w (suc i))) (λ h. h) (λ low. absurd (never low))
    where
      never : side p (w 0) (w (suc i)) ≤ℤ pos 0 → ⊥
      never low =
          let g = split_gap i m (omega (arith, lt)) in
          let e = g.1 in
          s.apart i g.0 (omega (arith, e, lt)) (omega (arith, e, less, pred)) (record {
            from_u = subst (λ k. pos 0 ≤ℤ side p (w i) (w k)) (sym e) (weaken (side p (w i) (w m)) (from-left (side p (w 0) (w 1)) (side p (w i) (w m)) (side p (w 1) (w m)) (side p (w 0) (w i)) (by_height (w i)) (s.turned 0) toward_end up));
            to_v = subst (λ k. pos 0 ≤ℤ side p (w k) (w (suc i))) (sym e) (not-more (side p (w m) (w (suc i))) (side p (w (suc i)) (w m)) (back p (w m) (w (suc i)))
                (from-right (side p (w 0) (w 1)) (side p (w (suc i)) (w m)) (side p (w 1) (w m)) (side p (w 0) (w (suc i))) (by_height (w (suc i))) (s.turned 0) toward_end low));
          })

  up : (i : ℕ) → suc i < m → pos 0 <ℤ side p (w 0) (w (suc i))
  up zero lt = s.turned 0
  up (suc i) lt = step (suc i) i refl lt (up i (omega (arith, lt)))

  -- a neighbour at least as far as all before it, and farther than the next
  record Peak : Type 0 where
    j : ℕ
    within : suc j < m
    before : side p (w 0) (w j) ≤ℤ side p (w 0) (w (suc j))
    next : side p (w 0) (w (suc (suc j))) <ℤ side p (w 0) (w (suc j))

  climb : (fuel j : ℕ) → suc j < m → m ≤ suc j + fuel → side p (w 0) (w j) ≤ℤ side p (w 0) (w (suc j)) → Peak
  climb zero j lt size rise = absurd (omega (arith, lt, size))
  climb (suc fuel) j lt size rise = by_lt_z (side p (w 0) (w (suc (suc j)))) (side p (w 0) (w (suc j))) (λ h. record { j = j; within = lt; before = rise; next = h })
      (λ le. elim (lt_or_eq (suc (suc j)) m (omega (arith, lt))) as (λ _. Peak) [
        | inl h ↦ climb fuel (suc j) h (omega (arith, size)) le
        | inr e ↦ absurd (none (side p (w 0) (w (suc (suc j)))) (side p (w 0) (w (suc j))) (ap (λ k. side p (w 0) (w k)) e ∙ flat) le (up j lt))
      ])
    where
      none : (x y : ℤ) → x ≡ pos 0 → y ≤ℤ x → pos 0 <ℤ y → ⊥
      none x y e h k = omega (arith, ints, e, h, k)

  peak : Peak
  peak = climb m 0 (omega (arith, more)) (omega arith) (start (side p (w 0) (w 0)) (side p (w 0) (w 1)) (flat_bc p (w 0) (w 0) refl) (s.turned 0))
    where
      start : (x y : ℤ) → x ≡ pos 0 → pos 0 <ℤ y → x ≤ℤ y
      start x y e h = omega (arith, ints, e, h)

  -- it is a strictly convex corner
  at_ring : pos 0 <ℤ side (w peak.j) (w (suc peak.j)) (w (suc (suc peak.j)))
  at_ring =
      let x = w peak.j in
      let y = w (suc peak.j) in
      let z = w (suc (suc peak.j)) in
      quotient (side p (w 0) y -ℤ side p (w 0) p) (side x y z) (side p y z *ℤ (side p (w 0) y -ℤ side p (w 0) x)) (side p x y *ℤ (side p (w 0) y -ℤ side p (w 0) z)) (turned (side x y z) (side p (w 0) y -ℤ side p (w 0) p) ∙ corner p (w 0) p x y z)
      (over (side p (w 0) y) (side p (w 0) p) (up peak.j peak.within) (flat_ca p (w 0) p refl))
      (mul-nonneg (side p y z) (side p (w 0) y -ℤ side p (w 0) x) (weaken (side p y z) (s.turned (suc peak.j))) (rise (side p (w 0) y) (side p (w 0) x) peak.before))
      (mul-positive (side p x y) (side p (w 0) y -ℤ side p (w 0) z) (s.turned peak.j) (fall (side p (w 0) y) (side p (w 0) z) peak.next))
    where
      turned : (x y : ℤ) → y *ℤ x ≡ x *ℤ y
      turned x y = ring (x ∷ y ∷ []) (var 1 ⊗ var 0) (var 0 ⊗ var 1) refl

      over : (x y : ℤ) → pos 0 <ℤ x → y ≡ pos 0 → pos 0 <ℤ (x -ℤ y)
      over x y h e = omega (arith, ints, h, e)

      rise : (x y : ℤ) → y ≤ℤ x → pos 0 ≤ℤ (x -ℤ y)
      rise x y h = omega (arith, ints, h)

      fall : (x y : ℤ) → y <ℤ x → pos 0 <ℤ (x -ℤ y)
      fall x y h = omega (arith, ints, h)

  none-less : (x : ℤ) → x ≡ pos 0 → pos 0 ≤ℤ x
  none-less x e = omega (arith, ints, e)

  up_to : (i : ℕ) → suc i ≤ m → pos 0 ≤ℤ side p (w 0) (w (suc i))
  up_to i le = elim (lt_or_eq (suc i) m le) as (λ _. pos 0 ≤ℤ side p (w 0) (w (suc i))) [
    | inl lt ↦ weaken (side p (w 0) (w (suc i))) (up i lt)
    | inr e ↦ none-less (side p (w 0) (w (suc i))) (ap (λ k. side p (w 0) (w k)) e ∙ flat)
  ]

  over_end : (i : ℕ) → suc i < m → pos 0 <ℤ side p (w (suc i)) (w m)
  over_end i lt = from-left (side p (w 0) (w 1)) (side p (w (suc i)) (w m)) (side p (w 1) (w m)) (side p (w 0) (w (suc i))) (by_height (w (suc i))) (s.turned 0) toward_end (up i lt)

  at_p : (j : ℕ) → suc j < m → pos 0 <ℤ side p (w j) (w (suc (suc j)))
  at_p zero lt = behind p (w m) (w 0) (w 1) (w 2) (s.turned 0) (s.turned 1) (none-less (side p (w 0) (w m)) flat) toward_end (over_end 1 more)
  at_p (suc j) lt = ahead p (w 0) (w (suc j)) (w (suc (suc j))) (w (suc (suc (suc j)))) (s.turned (suc j)) (s.turned (suc (suc j))) (up j (omega (arith, lt))) (up (suc j) lt) (up_to (suc (suc j)) (omega (arith, lt)))

  found : (k : ℕ) × ((suc k < m) × IsFlippableAfter p w k)
  found = (peak.j, (peak.within, record { at_p = at_p peak.j peak.within; at_ring = at_ring }))

pub straight_law : StraightLaw
straight_law = found
