-- A piece that walls a place from two corners walls it from what lies between them and farther.
use Rattle.std.proofs.Common.{◌≡◌, refl, arith, [], ◌∷◌}
use Rattle.std.specs.Prelude.{ℤ, pos, ◌+ℤ◌, ◌-ℤ◌, ◌*ℤ◌, ◌<ℤ◌, ◌≤ℤ◌}
use Rattle.std.proofs.lemmas.Int.{ints, by_lt_z}
use Rattle.ground_model.specs.Place.{Coords}
use Rattle.ground_model.specs.Side.{side}
use Rattle.ground_model.proofs.Ring.{num, ◌⊕◌, ◌⊖◌, ◌⊗◌, ring}
use Rattle.ground_model.proofs.Circle.{sideE}
use Rattle.ground_model.proofs.ZOrder.{mul-positive}
use Rattle.predicates.proofs.Signs.{mul-nonneg, mul-mixed, mul-negative, positive-less, weaken}

-- uv, with p strictly to its left, walls p from a
pub record Walls (u v a p : Coords) : Type 0 where
  pub left : pos 0 <ℤ side u v p
  pub across : side u v a ≤ℤ pos 0
  pub first : side p a u ≤ℤ pos 0
  pub second : pos 0 ≤ℤ side p a v

-- b is seen from p between a and d: these three sides put it there
pub record Between (a d b p : Coords) : Type 0 where
  pub beyond : side a d p <ℤ pos 0
  pub at_a : pos 0 <ℤ side d b p
  pub at_d : pos 0 <ℤ side b a p
  pub turns : pos 0 <ℤ side b a d

-- ---- the cone's identities: places a, d, b, p, u, v have numbers 0 to 5
cone : (a d b p u : Coords) → (pos 0 -ℤ side a d p) *ℤ side p b u ≡ side d b p *ℤ side p a u +ℤ side b a p *ℤ side p d u
unfolding side
cone a d b p u = ring (a.e ∷ a.n ∷ d.e ∷ d.n ∷ b.e ∷ b.n ∷ p.e ∷ p.n ∷ u.e ∷ u.n ∷ [])
    ((num (pos 0) ⊖ sideE 0 1 3) ⊗ sideE 3 2 4) (sideE 1 2 3 ⊗ sideE 3 0 4 ⊕ sideE 2 0 3 ⊗ sideE 3 1 4) refl

cone-side : (a d b p u v : Coords) → (pos 0 -ℤ side a d p) *ℤ side u v b ≡ side d b p *ℤ side u v a +ℤ side b a p *ℤ side u v d -ℤ side b a d *ℤ side u v p
unfolding side
cone-side a d b p u v = ring (a.e ∷ a.n ∷ d.e ∷ d.n ∷ b.e ∷ b.n ∷ p.e ∷ p.n ∷ u.e ∷ u.n ∷ v.e ∷ v.n ∷ [])
    ((num (pos 0) ⊖ sideE 0 1 3) ⊗ sideE 4 5 2) (sideE 1 2 3 ⊗ sideE 4 5 0 ⊕ sideE 2 0 3 ⊗ sideE 4 5 1 ⊖ sideE 2 0 1 ⊗ sideE 4 5 3) refl

-- ---- signs
factor_nonpos : (g s : ℤ) → pos 0 <ℤ g → (g *ℤ s) ≤ℤ pos 0 → s ≤ℤ pos 0
factor_nonpos g s h k = by_lt_z (pos 0) s (λ lt. absurd (no_both (g *ℤ s) k (mul-positive g s h lt))) (λ le. le)
  where
    no_both : (x : ℤ) → x ≤ℤ pos 0 → pos 0 <ℤ x → ⊥
    no_both x h k = omega (arith, ints, h, k)

factor_nonneg : (g s : ℤ) → pos 0 <ℤ g → pos 0 ≤ℤ (g *ℤ s) → pos 0 ≤ℤ s
factor_nonneg g s h k = by_lt_z s (pos 0) (λ lt. absurd (no_both (g *ℤ s) k (mul-negative g s h lt))) (λ ge. ge)
  where
    no_both : (x : ℤ) → pos 0 ≤ℤ x → x <ℤ pos 0 → ⊥
    no_both x h k = omega (arith, ints, h, k)

pub walls-between : (u v a d b p : Coords) → Between a d b p → Walls u v a p → Walls u v d p → Walls u v b p
walls-between u v a d b p c wa wd = record {
  left = wa.left;
  across = factor_nonpos (pos 0 -ℤ side a d p) (side u v b) g
      (three ((pos 0 -ℤ side a d p) *ℤ side u v b) (side d b p *ℤ side u v a) (side b a p *ℤ side u v d) (side b a d *ℤ side u v p) (cone-side a d b p u v)
      (mul-mixed (side d b p) (side u v a) (weaken (side d b p) c.at_a) wa.across) (mul-mixed (side b a p) (side u v d) (weaken (side b a p) c.at_d) wd.across)
      (mul-positive (side b a d) (side u v p) c.turns wa.left));
  first = factor_nonpos (pos 0 -ℤ side a d p) (side p b u) g
      (two_down ((pos 0 -ℤ side a d p) *ℤ side p b u) (side d b p *ℤ side p a u) (side b a p *ℤ side p d u) (cone a d b p u)
      (mul-mixed (side d b p) (side p a u) (weaken (side d b p) c.at_a) wa.first) (mul-mixed (side b a p) (side p d u) (weaken (side b a p) c.at_d) wd.first));
  second = factor_nonneg (pos 0 -ℤ side a d p) (side p b v) g
      (two_up ((pos 0 -ℤ side a d p) *ℤ side p b v) (side d b p *ℤ side p a v) (side b a p *ℤ side p d v) (cone a d b p v)
      (mul-nonneg (side d b p) (side p a v) (weaken (side d b p) c.at_a) wa.second) (mul-nonneg (side b a p) (side p d v) (weaken (side b a p) c.at_d) wd.second));
}
  where
    g : pos 0 <ℤ (pos 0 -ℤ side a d p)
    g = positive-less (side a d p) c.beyond

    three : (s x y z : ℤ) → s ≡ x +ℤ y -ℤ z → x ≤ℤ pos 0 → y ≤ℤ pos 0 → pos 0 <ℤ z → s ≤ℤ pos 0
    three s x y z e h k l = omega (arith, ints, e, h, k, l)

    two_down : (s x y : ℤ) → s ≡ x +ℤ y → x ≤ℤ pos 0 → y ≤ℤ pos 0 → s ≤ℤ pos 0
    two_down s x y e h k = omega (arith, ints, e, h, k)

    two_up : (s x y : ℤ) → s ≡ x +ℤ y → pos 0 ≤ℤ x → pos 0 ≤ℤ y → pos 0 ≤ℤ s
    two_up s x y e h k = omega (arith, ints, e, h, k)
