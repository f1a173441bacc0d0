-- The angles of a star leave no way out of its point uncovered.
use Rattle.std.proofs.Common.{◌≡◌, ℕ, suc, zero, ◌+◌, refl, sym, ap, subst, ◌∙◌, arith}
use Rattle.std.specs.Prelude.{ℤ, pos, neg_ℤ, ◌-ℤ◌, ◌*ℤ◌, ◌<ℤ◌, ◌≤ℤ◌}
use Rattle.std.proofs.lemmas.Int.{ints, by_lt_z}
use Rattle.ground_model.specs.Place.{Coords}
use Rattle.ground_model.specs.Side.{side}
use Rattle.ground_model.proofs.Circle.{side-turned}
use Rattle.predicates.proofs.FlatSides.{flat_bc, flat_ca, side-back}
use Rattle.predicates.proofs.NearCorners.{times-zero}
use Rattle.predicates.proofs.Signs.{mul-nonneg, weaken}
use Rattle.point_edit.specs.Stars.{IsStar}
use Rattle.point_edit.proofs.Forms.{corner, not_flat, norm_more, zero_part}
use Rattle.point_edit.proofs.Straight.{split_gap}
use Rattle.point_edit.proofs.Tops.{Top, top}

-- the first leg of the angle after i does not lie to the right of x, and its other leg does
pub record IsAngleOf (p : Coords) (w : ℕ → Coords) (x : Coords) : Type 0 where
  pub i : ℕ
  pub first_leg : pos 0 ≤ℤ side p (w i) x
  pub other_leg : side p (w (suc i)) x <ℤ pos 0

module _ (p : Coords) (w : ℕ → Coords) (n : ℕ) (s : IsStar p w n) (x : Coords) (differ : p ≡ x → ⊥) where
  none : side p x p ≡ pos 0
  none = flat_ca p x p refl

  -- ---- a neighbour lies to the left of px
  level : (y : ℤ) → y ≤ℤ pos 0 → pos 0 ≤ℤ (y -ℤ side p x p) → y ≡ pos 0
  level y le h = same y (side p x p) none le h
    where
      same : (y z : ℤ) → z ≡ pos 0 → y ≤ℤ pos 0 → pos 0 ≤ℤ (y -ℤ z) → y ≡ pos 0
      same y z e le h = omega (arith, ints, e, le, h)

  flat_before : (t : Top p w n s p x) → side p x (w (suc t.k)) ≡ pos 0 → side p x (w (suc t.k)) -ℤ side p x (w t.k) ≡ pos 0
  flat_before t flat =
      zero_part (side p (w (suc t.k)) (w (suc (suc t.k)))) (side p x (w (suc t.k)) -ℤ side p x (w t.k))
      (side (w t.k) (w (suc t.k)) (w (suc (suc t.k))) *ℤ (side p x (w (suc t.k)) -ℤ side p x p)) (side p (w t.k) (w (suc t.k)) *ℤ (side p x (w (suc t.k)) -ℤ side p x (w (suc (suc t.k)))))
      (s.turned (suc t.k)) (corner p x p (w t.k) (w (suc t.k)) (w (suc (suc t.k))))
      (low (side (w t.k) (w (suc t.k)) (w (suc (suc t.k))) *ℤ (side p x (w (suc t.k)) -ℤ side p x p)) (times-zero (side (w t.k) (w (suc t.k)) (w (suc (suc t.k)))) (side p x (w (suc t.k)) -ℤ side p x p) (gone (side p x (w (suc t.k))) (side p x p) flat none)))
      (mul-nonneg (side p (w (suc t.k)) (w (suc (suc t.k)))) (side p x (w (suc t.k)) -ℤ side p x (w t.k)) (weaken (side p (w (suc t.k)) (w (suc (suc t.k)))) (s.turned (suc t.k))) (t.top t.k).above)
      (mul-nonneg (side p (w t.k) (w (suc t.k))) (side p x (w (suc t.k)) -ℤ side p x (w (suc (suc t.k)))) (weaken (side p (w t.k) (w (suc t.k))) (s.turned t.k)) (t.top (suc (suc t.k))).above)
    where
      low : (y : ℤ) → y ≡ pos 0 → y ≤ℤ pos 0
      low y e = omega (arith, ints, e)

      gone : (y z : ℤ) → y ≡ pos 0 → z ≡ pos 0 → y -ℤ z ≡ pos 0
      gone y z e f = omega (arith, ints, e, f)

  some_left : (t : Top p w n s p x) → pos 0 <ℤ side p x (w (suc t.k))
  some_left t = by_lt_z (pos 0) (side p x (w (suc t.k))) (λ lt. lt) (λ le.
      let flat = level (side p x (w (suc t.k))) le t.high in
      absurd (not_flat p x p (w t.k) (w (suc t.k)) (norm_more p x differ) (s.turned t.k)
      (same (side p x (w (suc t.k))) (side p x (w t.k)) (side p x p) flat (flat_before t flat) none) (flat ∙ sym none)))
    where
      same : (y z o : ℤ) → y ≡ pos 0 → y -ℤ z ≡ pos 0 → o ≡ pos 0 → z ≡ o
      same y z o e f g = omega (arith, ints, e, f, g)

  -- so x lies to the right of it; and another neighbour does not lie to the left of px
  right_of : (y : Coords) → pos 0 <ℤ side p x y → side p y x <ℤ pos 0
  right_of y h = less (side p x y) (side p y x) (side-turned p y x ∙ side-back x y p ∙ ap neg_ℤ (sym (side-turned p x y))) h
    where
      less : (a b : ℤ) → b ≡ neg_ℤ a → pos 0 <ℤ a → b <ℤ pos 0
      less a b e h = omega (arith, ints, e, h)

  not_left : (t : Top p w n s x p) → pos 0 ≤ℤ side p (w (suc t.k)) x
  not_left t = more (side x p (w (suc t.k))) (side x p p) (side p (w (suc t.k)) x) t.high (flat_bc x p p refl) (sym (side-turned x p (w (suc t.k))))
    where
      more : (a b c : ℤ) → pos 0 ≤ℤ (a -ℤ b) → b ≡ pos 0 → c ≡ a → pos 0 ≤ℤ c
      more a b c h e f = omega (arith, ints, h, e, f)

  -- ---- between the two stands the angle
  first_right : (d i : ℕ) → pos 0 ≤ℤ side p (w i) x → side p (w (i + d)) x <ℤ pos 0 → IsAngleOf p w x
  first_right zero i h k = absurd (clash (side p (w i) x) h (subst (λ j. side p (w j) x <ℤ pos 0) here k))
    where
      here : i + 0 ≡ i
      here = omega arith

      clash : (y : ℤ) → pos 0 ≤ℤ y → y <ℤ pos 0 → ⊥
      clash y h k = omega (arith, ints, h, k)
  first_right (suc d) i h k = by_lt_z (side p (w (suc i)) x) (pos 0) (λ lt. record { i = i; first_leg = h; other_leg = lt }) (λ le. first_right d (suc i) le (subst (λ j. side p (w j) x <ℤ pos 0) on k))
    where
      on : i + suc d ≡ suc i + d
      on = omega arith

  pub angle_of : IsAngleOf p w x
  angle_of =
      let t = top p w n s p x in
      let b = top p w n s x p in
      let within = b.within in
      let g = split_gap (suc b.k) (n + suc t.k) (omega (arith, within)) in
      first_right g.0 (suc b.k) (not_left b) (subst (λ j. side p (w j) x <ℤ pos 0) (sym g.1) (subst (λ (y : Coords). side p y x <ℤ pos 0) (sym (s.round (suc t.k))) (right_of (w (suc t.k)) (some_left t))))
