-- What is below the plane of a triangle lies beyond one edge of it at most.
use Rattle.std.proofs.Common.{◌≡◌, ℕ, ◌+◌, ◌*◌, refl, arith, [], ◌∷◌}
use Rattle.std.specs.Prelude.{ℤ, pos, ◌+ℤ◌, ◌-ℤ◌, ◌*ℤ◌, ◌<ℤ◌, ◌≤ℤ◌}
use Rattle.std.proofs.lemmas.Int.{ints, by_lt_z}
use Rattle.ground_model.specs.Side.{side}
use Rattle.ground_model.specs.Lifted.{Lifted, side_below}
use Rattle.ground_model.proofs.Ring.{Expr, var, ◌⊕◌, ◌⊖◌, ◌⊗◌, ring}
use Rattle.ground_model.proofs.Circle.{sideE}
use Rattle.ground_model.proofs.ZOrder.{mul-positive}
use Rattle.predicates.specs.Depth.{depth}
use Rattle.predicates.proofs.Signs.{mul-mixed, mul-negative, weaken}

-- how far x is above the plane through b that leans by k and l
abbrev pub excess : Lifted → ℤ → ℤ → Lifted → ℤ
excess b k l x = x.height -ℤ b.height -ℤ k *ℤ (x.at.e -ℤ b.at.e) -ℤ l *ℤ (x.at.n -ℤ b.at.n)

-- some plane through b is below the others
pub record Leans (b x y z : Lifted) : Type 0 where
  pub k : ℤ
  pub l : ℤ
  pub x_above : pos 0 <ℤ excess b k l x
  pub y_above : pos 0 <ℤ excess b k l y
  pub z_above : pos 0 <ℤ excess b k l z

-- ---- the depth, taken from such a plane
abbrev heightE : ℕ → Expr
heightE i = var (i + 8)

abbrev excessE : ℕ → ℕ → Expr
excessE b x = heightE x ⊖ heightE b ⊖ var 12 ⊗ (var (2 * x) ⊖ var (2 * b)) ⊖ var 13 ⊗ (var (2 * x + 1) ⊖ var (2 * b + 1))

abbrev depthE : Expr
depthE = heightE 0 ⊗ sideE 1 2 3 ⊕ heightE 1 ⊗ sideE 2 0 3 ⊕ heightE 2 ⊗ sideE 0 1 3 ⊖ heightE 3 ⊗ sideE 0 1 2

pub depth-at_b : (a b c p : Lifted) (k l : ℤ) → depth a b c p ≡ excess b k l a *ℤ side_below b c p +ℤ excess b k l c *ℤ side_below a b p -ℤ excess b k l p *ℤ side_below a b c
unfolding depth side
depth-at_b a b c p k l =
    ring (a.at.e ∷ a.at.n ∷ b.at.e ∷ b.at.n ∷ c.at.e ∷ c.at.n ∷ p.at.e ∷ p.at.n ∷ a.height ∷ b.height ∷ c.height ∷ p.height ∷ k ∷ l ∷ [])
    depthE (excessE 1 0 ⊗ sideE 1 2 3 ⊕ excessE 1 2 ⊗ sideE 0 1 3 ⊖ excessE 1 3 ⊗ sideE 0 1 2) refl

pub depth-at_a : (a b c p : Lifted) (k l : ℤ) → depth a b c p ≡ excess a k l b *ℤ side_below c a p +ℤ excess a k l c *ℤ side_below a b p -ℤ excess a k l p *ℤ side_below a b c
unfolding depth side
depth-at_a a b c p k l =
    ring (a.at.e ∷ a.at.n ∷ b.at.e ∷ b.at.n ∷ c.at.e ∷ c.at.n ∷ p.at.e ∷ p.at.n ∷ a.height ∷ b.height ∷ c.height ∷ p.height ∷ k ∷ l ∷ [])
    depthE (excessE 0 1 ⊗ sideE 2 0 3 ⊕ excessE 0 2 ⊗ sideE 0 1 3 ⊖ excessE 0 3 ⊗ sideE 0 1 2) refl

-- where the depth is positive, the open one of its three sides is too
open_side : (d f s g t h u : ℤ) → d ≡ f *ℤ s +ℤ g *ℤ t -ℤ h *ℤ u → pos 0 <ℤ d → pos 0 <ℤ f → pos 0 <ℤ g → pos 0 <ℤ h → t <ℤ pos 0 → pos 0 <ℤ u → pos 0 <ℤ s
open_side d f s g t h u e pd pf pg ph nt pu = by_lt_z (pos 0) s (λ lt. lt) (λ le.
    absurd (clash d (f *ℤ s) (g *ℤ t) (h *ℤ u) e pd (mul-mixed f s (weaken f pf) le) (mul-negative g t pg nt) (mul-positive h u ph pu)))
  where
    clash : (d x y z : ℤ) → d ≡ x +ℤ y -ℤ z → pos 0 <ℤ d → x ≤ℤ pos 0 → y <ℤ pos 0 → pos 0 <ℤ z → ⊥
    clash d x y z e h i j k = omega (arith, ints, e, h, i, j, k)

pub beyond_ab-bc : (a b c p : Lifted) → pos 0 <ℤ side_below a b c → pos 0 <ℤ depth a b c p → side_below a b p <ℤ pos 0 → Leans b a c p → pos 0 <ℤ side_below b c p
beyond_ab-bc a b c p turns deep beyond leans =
    open_side (depth a b c p) (excess b leans.k leans.l a) (side_below b c p) (excess b leans.k leans.l c) (side_below a b p) (excess b leans.k leans.l p) (side_below a b c)
    (depth-at_b a b c p leans.k leans.l) deep leans.x_above leans.y_above leans.z_above beyond turns

pub beyond_ab-ca : (a b c p : Lifted) → pos 0 <ℤ side_below a b c → pos 0 <ℤ depth a b c p → side_below a b p <ℤ pos 0 → Leans a b c p → pos 0 <ℤ side_below c a p
beyond_ab-ca a b c p turns deep beyond leans =
    open_side (depth a b c p) (excess a leans.k leans.l b) (side_below c a p) (excess a leans.k leans.l c) (side_below a b p) (excess a leans.k leans.l p) (side_below a b c)
    (depth-at_a a b c p leans.k leans.l) deep leans.x_above leans.y_above leans.z_above beyond turns
