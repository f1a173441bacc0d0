-- A piece that walls p from the edge ab parts p from every point inside abc.
use Rattle.std.proofs.Common.{◌≡◌, ℕ, refl, arith, [], ◌∷◌}
use Rattle.std.specs.Prelude.{ℤ, pos, ◌+ℤ◌, ◌-ℤ◌, ◌*ℤ◌, ◌<ℤ◌, ◌≤ℤ◌}
use Rattle.std.proofs.lemmas.Int.{ints, by_lt_z}
use Rattle.ground_model.specs.Place.{Coords}
use Rattle.ground_model.specs.Side.{side}
use Rattle.ground_model.proofs.Ring.{Expr, var, num, ◌⊕◌, ◌⊖◌, ◌⊗◌, ring}
use Rattle.ground_model.proofs.ZOrder.{mul-positive}
use Rattle.predicates.specs.Weighted.{Weighted, weighted_side}
use Rattle.predicates.proofs.Signs.{mul-nonneg, mul-mixed, mul-negative, never-high, positive-less, weaken}
use Rattle.predicates.proofs.WeightedSides.{pointE, placeE}
use Rattle.cdt_law.proofs.Walls.{Walls}
use Rattle.predicates.proofs.Nudged.{Inside}
use Rattle.cdt_law.proofs.CleanTriangle.{Parts}

-- ---- identities: a, b, p, u, v have numbers 0 to 4, the point the variables 10 to 12; and c number 3 in those of four
abbrev xE : ℕ → ℕ → Expr
xE i j = pointE i j (var 10) (var 11) (var 12)

cone-uv : (a b p u v : Coords) (x : Weighted) → (pos 0 -ℤ side a b p) *ℤ weighted_side u v x ≡ (pos 0 -ℤ weighted_side b p x) *ℤ side u v a +ℤ (pos 0 -ℤ weighted_side p a x) *ℤ side u v b -ℤ weighted_side a b x *ℤ side u v p
unfolding weighted_side side
cone-uv a b p u v x = ring (a.e ∷ a.n ∷ b.e ∷ b.n ∷ p.e ∷ p.n ∷ u.e ∷ u.n ∷ v.e ∷ v.n ∷ x.e ∷ x.n ∷ x.weight ∷ [])
    ((num (pos 0) ⊖ placeE 0 1 2) ⊗ xE 3 4) ((num (pos 0) ⊖ xE 1 2) ⊗ placeE 3 4 0 ⊕ (num (pos 0) ⊖ xE 2 0) ⊗ placeE 3 4 1 ⊖ xE 0 1 ⊗ placeE 3 4 2) refl

cone-up : (a b p u : Coords) (x : Weighted) → (pos 0 -ℤ side a b p) *ℤ weighted_side u p x ≡ (pos 0 -ℤ weighted_side b p x) *ℤ side p a u +ℤ (pos 0 -ℤ weighted_side p a x) *ℤ side p b u
unfolding weighted_side side
cone-up a b p u x = ring (a.e ∷ a.n ∷ b.e ∷ b.n ∷ p.e ∷ p.n ∷ u.e ∷ u.n ∷ u.e ∷ u.n ∷ x.e ∷ x.n ∷ x.weight ∷ [])
    ((num (pos 0) ⊖ placeE 0 1 2) ⊗ xE 3 2) ((num (pos 0) ⊖ xE 1 2) ⊗ placeE 2 0 3 ⊕ (num (pos 0) ⊖ xE 2 0) ⊗ placeE 2 1 3) refl

cone-bp : (a b c p : Coords) (x : Weighted) → side a b c *ℤ weighted_side b p x ≡ weighted_side b c x *ℤ side a b p -ℤ weighted_side a b x *ℤ side b c p
unfolding weighted_side side
cone-bp a b c p x = ring (a.e ∷ a.n ∷ b.e ∷ b.n ∷ p.e ∷ p.n ∷ c.e ∷ c.n ∷ c.e ∷ c.n ∷ x.e ∷ x.n ∷ x.weight ∷ [])
    (placeE 0 1 3 ⊗ xE 1 2) (xE 1 3 ⊗ placeE 0 1 2 ⊖ xE 0 1 ⊗ placeE 1 3 2) refl

cone-pa : (a b c p : Coords) (x : Weighted) → side a b c *ℤ weighted_side p a x ≡ weighted_side c a x *ℤ side a b p -ℤ weighted_side a b x *ℤ side c a p
unfolding weighted_side side
cone-pa a b c p x = ring (a.e ∷ a.n ∷ b.e ∷ b.n ∷ p.e ∷ p.n ∷ c.e ∷ c.n ∷ c.e ∷ c.n ∷ x.e ∷ x.n ∷ x.weight ∷ [])
    (placeE 0 1 3 ⊗ xE 2 0) (xE 3 0 ⊗ placeE 0 1 2 ⊖ xE 0 1 ⊗ placeE 3 0 2) refl

-- ---- signs
factor-negative : (g s : ℤ) → pos 0 <ℤ g → (g *ℤ s) <ℤ pos 0 → s <ℤ pos 0
factor-negative g s h k = by_lt_z s (pos 0) (λ lt. lt) (λ ge. absurd (never-high (g *ℤ s) (mul-nonneg g s (weaken g h) ge) k))

factor-nonpos : (g s : ℤ) → pos 0 <ℤ g → (g *ℤ s) ≤ℤ pos 0 → s ≤ℤ pos 0
factor-nonpos g s h k = by_lt_z (pos 0) s (λ lt. absurd (clash (g *ℤ s) k (mul-positive g s h lt))) (λ le. le)
  where
    clash : (x : ℤ) → x ≤ℤ pos 0 → pos 0 <ℤ x → ⊥
    clash x h k = omega (arith, ints, h, k)

factor-nonneg : (g s : ℤ) → pos 0 <ℤ g → pos 0 ≤ℤ (g *ℤ s) → pos 0 ≤ℤ s
factor-nonneg g s h k = by_lt_z s (pos 0) (λ lt. absurd (never-high (g *ℤ s) k (mul-negative g s h lt))) (λ ge. ge)

pub parted : (a b c p u v : Coords) (x : Weighted) → pos 0 <ℤ side a b c → Inside a b c x → side a b p <ℤ pos 0 → pos 0 <ℤ side b c p → pos 0 <ℤ side c a p
    → Walls u v a p → Walls u v b p → Parts u v p x
parted a b c p u v x turned h beyond bc ca wa wb = record {
  left = wa.left;
  right = factor-negative (pos 0 -ℤ side a b p) (weighted_side u v x) ga
      (three ((pos 0 -ℤ side a b p) *ℤ weighted_side u v x) ((pos 0 -ℤ weighted_side b p x) *ℤ side u v a) ((pos 0 -ℤ weighted_side p a x) *ℤ side u v b) (weighted_side a b x *ℤ side u v p) (cone-uv a b p u v x)
      (mul-mixed (pos 0 -ℤ weighted_side b p x) (side u v a) (weaken (pos 0 -ℤ weighted_side b p x) al) wa.across)
      (mul-mixed (pos 0 -ℤ weighted_side p a x) (side u v b) (weaken (pos 0 -ℤ weighted_side p a x) be) wb.across)
      (mul-positive (weighted_side a b x) (side u v p) h.ab wa.left));
  first = factor-nonpos (pos 0 -ℤ side a b p) (weighted_side u p x) ga
      (two_down ((pos 0 -ℤ side a b p) *ℤ weighted_side u p x) ((pos 0 -ℤ weighted_side b p x) *ℤ side p a u) ((pos 0 -ℤ weighted_side p a x) *ℤ side p b u) (cone-up a b p u x)
      (mul-mixed (pos 0 -ℤ weighted_side b p x) (side p a u) (weaken (pos 0 -ℤ weighted_side b p x) al) wa.first)
      (mul-mixed (pos 0 -ℤ weighted_side p a x) (side p b u) (weaken (pos 0 -ℤ weighted_side p a x) be) wb.first));
  second = factor-nonneg (pos 0 -ℤ side a b p) (weighted_side v p x) ga
      (two_up ((pos 0 -ℤ side a b p) *ℤ weighted_side v p x) ((pos 0 -ℤ weighted_side b p x) *ℤ side p a v) ((pos 0 -ℤ weighted_side p a x) *ℤ side p b v) (cone-up a b p v x)
      (mul-nonneg (pos 0 -ℤ weighted_side b p x) (side p a v) (weaken (pos 0 -ℤ weighted_side b p x) al) wa.second)
      (mul-nonneg (pos 0 -ℤ weighted_side p a x) (side p b v) (weaken (pos 0 -ℤ weighted_side p a x) be) wb.second));
}
  where
    ga : pos 0 <ℤ (pos 0 -ℤ side a b p)
    ga = positive-less (side a b p) beyond

    less : (s y z : ℤ) → s ≡ y -ℤ z → y <ℤ pos 0 → pos 0 <ℤ z → s <ℤ pos 0
    less s y z e h k = omega (arith, ints, e, h, k)

    al : pos 0 <ℤ (pos 0 -ℤ weighted_side b p x)
    al = positive-less (weighted_side b p x) (factor-negative (side a b c) (weighted_side b p x) turned
        (less (side a b c *ℤ weighted_side b p x) (weighted_side b c x *ℤ side a b p) (weighted_side a b x *ℤ side b c p) (cone-bp a b c p x)
        (mul-negative (weighted_side b c x) (side a b p) h.bc beyond) (mul-positive (weighted_side a b x) (side b c p) h.ab bc)))

    be : pos 0 <ℤ (pos 0 -ℤ weighted_side p a x)
    be = positive-less (weighted_side p a x) (factor-negative (side a b c) (weighted_side p a x) turned
        (less (side a b c *ℤ weighted_side p a x) (weighted_side c a x *ℤ side a b p) (weighted_side a b x *ℤ side c a p) (cone-pa a b c p x)
        (mul-negative (weighted_side c a x) (side a b p) h.ca beyond) (mul-positive (weighted_side a b x) (side c a p) h.ab ca)))

    three : (s y z w : ℤ) → s ≡ y +ℤ z -ℤ w → y ≤ℤ pos 0 → z ≤ℤ pos 0 → pos 0 <ℤ w → s <ℤ pos 0
    three s y z w e h k l = omega (arith, ints, e, h, k, l)

    two_down : (s y z : ℤ) → s ≡ y +ℤ z → y ≤ℤ pos 0 → z ≤ℤ pos 0 → s ≤ℤ pos 0
    two_down s y z e h k = omega (arith, ints, e, h, k)

    two_up : (s y z : ℤ) → s ≡ y +ℤ z → pos 0 ≤ℤ y → pos 0 ≤ℤ z → pos 0 ≤ℤ s
    two_up s y z e h k = omega (arith, ints, e, h, k)
