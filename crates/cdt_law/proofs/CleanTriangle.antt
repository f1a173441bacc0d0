-- No piece walls a corner of a clean triangle from a point inside it.
use Rattle.std.proofs.Common.{◌≡◌, ℕ, ◌⊎◌, inl, inr, refl, sym, subst, arith, [], ◌∷◌}
use Rattle.std.specs.Prelude.{ℤ, pos, neg_ℤ, ◌+ℤ◌, ◌-ℤ◌, ◌*ℤ◌, ◌<ℤ◌, ◌≤ℤ◌}
use Rattle.std.proofs.lemmas.Int.{ints, by_lt_z}
use Rattle.ground_model.specs.Place.{Coords}
use Rattle.ground_model.specs.Side.{side}
use Rattle.ground_model.proofs.Ring.{Expr, var, num, ◌⊕◌, ◌⊖◌, ◌⊗◌, ring}
use Rattle.ground_model.proofs.ZLaws.{mul_comm}
use Rattle.ground_model.proofs.ZOrder.{mul-positive}
use Rattle.predicates.specs.Weighted.{Weighted, weighted_side}
use Rattle.predicates.proofs.Signs.{mul-nonneg, mul-nonpos, mul-mixed, mul-negative, level-down, level-up, never-low, weaken, weaken-neg}
use Rattle.predicates.proofs.WeightedSides.{pointE, placeE, weighted_side-mixed}
use Rattle.predicates.proofs.Crossings.{weighted_side-back}
use Rattle.predicates.proofs.CrossedEdges.{Crosses}
use Rattle.predicates.proofs.Nudged.{Inside}
use Rattle.predicates.proofs.FlatSides.{flat_bc, flat_ca, side-back}

-- z lies in the closed triangle only as a corner of it
pub record OnlyCorner (p q r z : Coords) : Type 0 where
  pub corner : pos 0 ≤ℤ side p q z → pos 0 ≤ℤ side q r z → pos 0 ≤ℤ side r p z → (z ≡ p) ⊎ ((z ≡ q) ⊎ (z ≡ r))

-- uv has p to its left and x to its right, and reaches across the line from p to x
pub record Parts (u v p : Coords) (x : Weighted) : Type 0 where
  pub left : pos 0 <ℤ side u v p
  pub right : weighted_side u v x <ℤ pos 0
  pub first : weighted_side u p x ≤ℤ pos 0
  pub second : pos 0 ≤ℤ weighted_side v p x

-- ---- identities: p, q, u, v have numbers 0 to 3, the point the variables 8 to 10; and r number 2 in those of three
abbrev xE : ℕ → ℕ → Expr
xE i j = pointE i j (var 8) (var 9) (var 10)

-- a functional of uv, at the corners of p, q and the point
mixed-u : (p q u v : Coords) (x : Weighted) → weighted_side u q x *ℤ side u v p +ℤ weighted_side p u x *ℤ side u v q +ℤ side p q u *ℤ weighted_side u v x ≡ pos 0
unfolding weighted_side side
mixed-u p q u v x = ring (p.e ∷ p.n ∷ q.e ∷ q.n ∷ u.e ∷ u.n ∷ v.e ∷ v.n ∷ x.e ∷ x.n ∷ x.weight ∷ [])
    (xE 2 1 ⊗ placeE 2 3 0 ⊕ xE 0 2 ⊗ placeE 2 3 1 ⊕ placeE 0 1 2 ⊗ xE 2 3) (num (pos 0)) refl

-- the side of qr at u, by those at p and the point
far-edge : (p q r u : Coords) (x : Weighted) → weighted_side p q x *ℤ side q r u ≡ weighted_side u q x *ℤ side p q r +ℤ side p q u *ℤ weighted_side q r x
unfolding weighted_side side
far-edge p q r u x = ring (p.e ∷ p.n ∷ q.e ∷ q.n ∷ r.e ∷ r.n ∷ u.e ∷ u.n ∷ x.e ∷ x.n ∷ x.weight ∷ [])
    (xE 0 1 ⊗ placeE 1 2 3) (xE 3 1 ⊗ placeE 0 1 2 ⊕ placeE 0 1 3 ⊗ xE 1 2) refl

near-edge : (p q r u : Coords) (x : Weighted) → weighted_side p q x *ℤ side r p u ≡ weighted_side p u x *ℤ side p q r +ℤ side p q u *ℤ weighted_side r p x
unfolding weighted_side side
near-edge p q r u x = ring (p.e ∷ p.n ∷ q.e ∷ q.n ∷ r.e ∷ r.n ∷ u.e ∷ u.n ∷ x.e ∷ x.n ∷ x.weight ∷ [])
    (xE 0 1 ⊗ placeE 2 0 3) (xE 0 3 ⊗ placeE 0 1 2 ⊕ placeE 0 1 3 ⊗ xE 2 0) refl

-- where the line from p to x meets: a is q or r
exchanged : (p a u v : Coords) (x : Weighted) → side u v p *ℤ weighted_side a p x ≡ side p a v *ℤ weighted_side u p x -ℤ side p a u *ℤ weighted_side v p x
unfolding weighted_side side
exchanged p a u v x = ring (p.e ∷ p.n ∷ a.e ∷ a.n ∷ u.e ∷ u.n ∷ v.e ∷ v.n ∷ x.e ∷ x.n ∷ x.weight ∷ [])
    (placeE 2 3 0 ⊗ xE 1 0) (placeE 0 1 3 ⊗ xE 2 0 ⊖ placeE 0 1 2 ⊗ xE 3 0) refl

-- ---- signs
never-neg : (s : ℤ) → s <ℤ pos 0 → pos 0 ≤ℤ s → ⊥
never-neg s h k = omega (arith, ints, h, k)

back-up : (s t : ℤ) → s ≡ neg_ℤ t → t ≤ℤ pos 0 → pos 0 ≤ℤ s
back-up s t e h = omega (arith, ints, e, h)

back-down : (s t : ℤ) → s ≡ neg_ℤ t → pos 0 <ℤ t → s <ℤ pos 0
back-down s t e h = omega (arith, ints, e, h)

factor-nonneg : (g s : ℤ) → pos 0 <ℤ g → pos 0 ≤ℤ (g *ℤ s) → pos 0 ≤ℤ s
factor-nonneg g s h k = by_lt_z s (pos 0) (λ lt. absurd (never-neg (g *ℤ s) (mul-negative g s h lt) k)) (λ ge. ge)

sum-nonneg : (s a b : ℤ) → s ≡ a +ℤ b → pos 0 ≤ℤ a → pos 0 ≤ℤ b → pos 0 ≤ℤ s
sum-nonneg s a b e h k = omega (arith, ints, e, h, k)

-- ---- q to the right of uv
-- a corner on whose side u would be: then u is in the closed triangle
u-beyond : (p q r u v : Coords) (x : Weighted) → pos 0 <ℤ side p q r → Inside p q r x → OnlyCorner p q r u → Parts u v p x → side u v q <ℤ pos 0 → side p q u <ℤ pos 0
u-beyond p q r u v x turned h only parts right = by_lt_z (side p q u) (pos 0) (λ lt. lt) (λ ge. absurd (no_corner ge (only.corner ge (at_qr ge) (at_rp ge))))
  where
    pu : pos 0 ≤ℤ weighted_side p u x
    pu = back-up (weighted_side p u x) (weighted_side u p x) (weighted_side-back u p x) parts.first

    rest : (a b c : ℤ) → a +ℤ b +ℤ c ≡ pos 0 → b ≤ℤ pos 0 → c ≤ℤ pos 0 → pos 0 ≤ℤ a
    rest a b c e h k = omega (arith, ints, e, h, k)

    uq : pos 0 ≤ℤ side p q u → pos 0 ≤ℤ weighted_side u q x
    uq ge = factor-nonneg (side u v p) (weighted_side u q x) parts.left
        (swap (side u v p *ℤ weighted_side u q x) (weighted_side u q x *ℤ side u v p) (mul_comm (side u v p) (weighted_side u q x))
        (rest (weighted_side u q x *ℤ side u v p) (weighted_side p u x *ℤ side u v q) (side p q u *ℤ weighted_side u v x) (mixed-u p q u v x)
        (mul-mixed (weighted_side p u x) (side u v q) pu (weaken-neg (side u v q) right)) (mul-mixed (side p q u) (weighted_side u v x) ge (weaken-neg (weighted_side u v x) parts.right))))
      where
        swap : (s t : ℤ) → s ≡ t → pos 0 ≤ℤ t → pos 0 ≤ℤ s
        swap s t e h = omega (arith, ints, e, h)

    at_qr : pos 0 ≤ℤ side p q u → pos 0 ≤ℤ side q r u
    at_qr ge = factor-nonneg (weighted_side p q x) (side q r u) h.ab
        (sum-nonneg (weighted_side p q x *ℤ side q r u) (weighted_side u q x *ℤ side p q r) (side p q u *ℤ weighted_side q r x) (far-edge p q r u x)
        (mul-nonneg (weighted_side u q x) (side p q r) (uq ge) (weaken (side p q r) turned)) (mul-nonneg (side p q u) (weighted_side q r x) ge (weaken (weighted_side q r x) h.bc)))

    at_rp : pos 0 ≤ℤ side p q u → pos 0 ≤ℤ side r p u
    at_rp ge = factor-nonneg (weighted_side p q x) (side r p u) h.ab
        (sum-nonneg (weighted_side p q x *ℤ side r p u) (weighted_side p u x *ℤ side p q r) (side p q u *ℤ weighted_side r p x) (near-edge p q r u x)
        (mul-nonneg (weighted_side p u x) (side p q r) pu (weaken (side p q r) turned)) (mul-nonneg (side p q u) (weighted_side r p x) ge (weaken (weighted_side r p x) h.ca)))

    no_corner : pos 0 ≤ℤ side p q u → (u ≡ p) ⊎ ((u ≡ q) ⊎ (u ≡ r)) → ⊥
    no_corner ge (inl e) = never-low (side u v p) parts.left (level-down (side u v p) (flat_ca u v p (sym e)))
    no_corner ge (inr (inl e)) = never-neg (side u v q) right (level-up (side u v q) (flat_ca u v q (sym e)))
    no_corner ge (inr (inr e)) = never-low (weighted_side u p x) (subst (λ (z : Coords). pos 0 <ℤ weighted_side z p x) (sym e) h.ca) parts.first

pub crosses_pq : (p q r u v : Coords) (x : Weighted) → pos 0 <ℤ side p q r → Inside p q r x → OnlyCorner p q r u → Parts u v p x → side u v q <ℤ pos 0 → Crosses p q u v
crosses_pq p q r u v x turned h only parts right = record {
  v_left = v_left;
  u_right = below;
  a_left = parts.left;
  b_right = right;
}
  where
    below : side p q u <ℤ pos 0
    below = u-beyond p q r u v x turned h only parts right

    lost : (s a b : ℤ) → s ≡ a -ℤ b → s <ℤ pos 0 → pos 0 ≤ℤ a → b ≤ℤ pos 0 → ⊥
    lost s a b e h k l = omega (arith, ints, e, h, k, l)

    qp : weighted_side q p x <ℤ pos 0
    qp = back-down (weighted_side q p x) (weighted_side p q x) (weighted_side-back p q x) h.ab

    v_left : pos 0 <ℤ side p q v
    v_left = by_lt_z (pos 0) (side p q v) (λ lt. lt) (λ le. absurd (lost (side u v p *ℤ weighted_side q p x) (side p q v *ℤ weighted_side u p x) (side p q u *ℤ weighted_side v p x) (exchanged p q u v x)
        (mul-negative (side u v p) (weighted_side q p x) parts.left qp)
        (mul-nonpos (side p q v) (weighted_side u p x) le parts.first)
        (swap (side p q u *ℤ weighted_side v p x) (weighted_side v p x *ℤ side p q u) (mul_comm (side p q u) (weighted_side v p x)) (mul-mixed (weighted_side v p x) (side p q u) parts.second (weaken-neg (side p q u) below)))))
      where
        swap : (s t : ℤ) → s ≡ t → t ≤ℤ pos 0 → s ≤ℤ pos 0
        swap s t e h = omega (arith, ints, e, h)

-- ---- r to the right of uv: p, r, u, v have numbers 0 to 3
mixed-v : (p r u v : Coords) (x : Weighted) → weighted_side r v x *ℤ side u v p +ℤ side r p v *ℤ weighted_side u v x +ℤ weighted_side v p x *ℤ side u v r ≡ pos 0
unfolding weighted_side side
mixed-v p r u v x = ring (p.e ∷ p.n ∷ r.e ∷ r.n ∷ u.e ∷ u.n ∷ v.e ∷ v.n ∷ x.e ∷ x.n ∷ x.weight ∷ [])
    (xE 1 3 ⊗ placeE 2 3 0 ⊕ placeE 1 0 3 ⊗ xE 2 3 ⊕ xE 3 0 ⊗ placeE 2 3 1) (num (pos 0)) refl

far-edge-v : (p q r v : Coords) (x : Weighted) → weighted_side r p x *ℤ side q r v ≡ weighted_side r v x *ℤ side p q r +ℤ side r p v *ℤ weighted_side q r x
unfolding weighted_side side
far-edge-v p q r v x = ring (p.e ∷ p.n ∷ q.e ∷ q.n ∷ r.e ∷ r.n ∷ v.e ∷ v.n ∷ x.e ∷ x.n ∷ x.weight ∷ [])
    (xE 2 0 ⊗ placeE 1 2 3) (xE 2 3 ⊗ placeE 0 1 2 ⊕ placeE 2 0 3 ⊗ xE 1 2) refl

near-edge-v : (p q r v : Coords) (x : Weighted) → weighted_side r p x *ℤ side p q v ≡ side r p v *ℤ weighted_side p q x +ℤ weighted_side v p x *ℤ side p q r
unfolding weighted_side side
near-edge-v p q r v x = ring (p.e ∷ p.n ∷ q.e ∷ q.n ∷ r.e ∷ r.n ∷ v.e ∷ v.n ∷ x.e ∷ x.n ∷ x.weight ∷ [])
    (xE 2 0 ⊗ placeE 0 1 3) (placeE 2 0 3 ⊗ xE 0 1 ⊕ xE 3 0 ⊗ placeE 0 1 2) refl

v-beyond : (p q r u v : Coords) (x : Weighted) → pos 0 <ℤ side p q r → Inside p q r x → OnlyCorner p q r v → Parts u v p x → side u v r <ℤ pos 0 → side r p v <ℤ pos 0
v-beyond p q r u v x turned h only parts right = by_lt_z (side r p v) (pos 0) (λ lt. lt) (λ ge. absurd (no_corner (only.corner (at_pq ge) (at_qr ge) ge)))
  where
    rest : (a b c : ℤ) → a +ℤ b +ℤ c ≡ pos 0 → b ≤ℤ pos 0 → c ≤ℤ pos 0 → pos 0 ≤ℤ a
    rest a b c e h k = omega (arith, ints, e, h, k)

    swap : (s t : ℤ) → s ≡ t → pos 0 ≤ℤ t → pos 0 ≤ℤ s
    swap s t e h = omega (arith, ints, e, h)

    rv : pos 0 ≤ℤ side r p v → pos 0 ≤ℤ weighted_side r v x
    rv ge = factor-nonneg (side u v p) (weighted_side r v x) parts.left
        (swap (side u v p *ℤ weighted_side r v x) (weighted_side r v x *ℤ side u v p) (mul_comm (side u v p) (weighted_side r v x))
        (rest (weighted_side r v x *ℤ side u v p) (side r p v *ℤ weighted_side u v x) (weighted_side v p x *ℤ side u v r) (mixed-v p r u v x)
        (mul-mixed (side r p v) (weighted_side u v x) ge (weaken-neg (weighted_side u v x) parts.right)) (mul-mixed (weighted_side v p x) (side u v r) parts.second (weaken-neg (side u v r) right))))

    at_qr : pos 0 ≤ℤ side r p v → pos 0 ≤ℤ side q r v
    at_qr ge = factor-nonneg (weighted_side r p x) (side q r v) h.ca
        (sum-nonneg (weighted_side r p x *ℤ side q r v) (weighted_side r v x *ℤ side p q r) (side r p v *ℤ weighted_side q r x) (far-edge-v p q r v x)
        (mul-nonneg (weighted_side r v x) (side p q r) (rv ge) (weaken (side p q r) turned)) (mul-nonneg (side r p v) (weighted_side q r x) ge (weaken (weighted_side q r x) h.bc)))

    at_pq : pos 0 ≤ℤ side r p v → pos 0 ≤ℤ side p q v
    at_pq ge = factor-nonneg (weighted_side r p x) (side p q v) h.ca
        (sum-nonneg (weighted_side r p x *ℤ side p q v) (side r p v *ℤ weighted_side p q x) (weighted_side v p x *ℤ side p q r) (near-edge-v p q r v x)
        (mul-nonneg (side r p v) (weighted_side p q x) ge (weaken (weighted_side p q x) h.ab)) (mul-nonneg (weighted_side v p x) (side p q r) parts.second (weaken (side p q r) turned)))

    qp : weighted_side q p x <ℤ pos 0
    qp = back-down (weighted_side q p x) (weighted_side p q x) (weighted_side-back p q x) h.ab

    no_corner : (v ≡ p) ⊎ ((v ≡ q) ⊎ (v ≡ r)) → ⊥
    no_corner (inl e) = never-low (side u v p) parts.left (level-down (side u v p) (flat_bc u v p e))
    no_corner (inr (inl e)) = never-neg (weighted_side v p x) (subst (λ (z : Coords). weighted_side z p x <ℤ pos 0) (sym e) qp) parts.second
    no_corner (inr (inr e)) = never-neg (side u v r) right (level-up (side u v r) (flat_bc u v r e))

pub crosses_pr : (p q r u v : Coords) (x : Weighted) → pos 0 <ℤ side p q r → Inside p q r x → OnlyCorner p q r v → Parts u v p x → side u v r <ℤ pos 0 → Crosses p r u v
crosses_pr p q r u v x turned h only parts right = record {
  v_left = v_left;
  u_right = by_lt_z (side p r u) (pos 0) (λ lt. lt) (λ ge. absurd (lost (side u v p *ℤ weighted_side r p x) (side p r v *ℤ weighted_side u p x) (side p r u *ℤ weighted_side v p x) (exchanged p r u v x)
      (mul-positive (side u v p) (weighted_side r p x) parts.left h.ca)
      (mul-mixed (side p r v) (weighted_side u p x) (weaken (side p r v) v_left) parts.first)
      (mul-nonneg (side p r u) (weighted_side v p x) ge parts.second)));
  a_left = parts.left;
  b_right = right;
}
  where
    up : (s t : ℤ) → s ≡ neg_ℤ t → t <ℤ pos 0 → pos 0 <ℤ s
    up s t e h = omega (arith, ints, e, h)

    v_left : pos 0 <ℤ side p r v
    v_left = up (side p r v) (side r p v) (side-back r p v) (v-beyond p q r u v x turned h only parts right)

    lost : (s a b : ℤ) → s ≡ a -ℤ b → pos 0 <ℤ s → a ≤ℤ pos 0 → pos 0 ≤ℤ b → ⊥
    lost s a b e h k l = omega (arith, ints, e, h, k, l)

-- no piece that crosses neither of the edges at p parts p from a point inside
pub clean : (p q r u v : Coords) (x : Weighted) → pos 0 <ℤ side p q r → Inside p q r x → OnlyCorner p q r u → OnlyCorner p q r v
    → (Crosses p q u v → ⊥) → (Crosses p r u v → ⊥) → Parts u v p x → ⊥
clean p q r u v x turned h only_u only_v no_pq no_pr parts =
    by_lt_z (side u v q) (pos 0)
    (λ lt. no_pq (crosses_pq p q r u v x turned h only_u parts lt))
    (λ ge_q. by_lt_z (side u v r) (pos 0)
    (λ lt. no_pr (crosses_pr p q r u v x turned h only_v parts lt))
    (λ ge_r. lost (side p q r *ℤ weighted_side u v x) (weighted_side q r x *ℤ side u v p) (weighted_side r p x *ℤ side u v q) (weighted_side p q x *ℤ side u v r) (weighted_side-mixed u v p q r x)
    (mul-negative (side p q r) (weighted_side u v x) turned parts.right)
    (mul-positive (weighted_side q r x) (side u v p) h.bc parts.left)
    (mul-nonneg (weighted_side r p x) (side u v q) (weaken (weighted_side r p x) h.ca) ge_q)
    (mul-nonneg (weighted_side p q x) (side u v r) (weaken (weighted_side p q x) h.ab) ge_r)))
  where
    lost : (s a b c : ℤ) → s ≡ a +ℤ b +ℤ c → s <ℤ pos 0 → pos 0 <ℤ a → pos 0 ≤ℤ b → pos 0 ≤ℤ c → ⊥
    lost s a b c e h k l m = omega (arith, ints, e, h, k, l, m)
