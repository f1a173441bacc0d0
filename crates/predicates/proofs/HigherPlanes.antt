-- Of two triangles, which one's plane is higher over a place.
use Rattle.std.proofs.Common.{◌≡◌, ℕ, ◌+◌, refl, arith, [], ◌∷◌}
use Rattle.std.specs.Prelude.{ℤ, pos, ◌+ℤ◌, ◌-ℤ◌, ◌*ℤ◌, ◌<ℤ◌, ◌≤ℤ◌}
use Rattle.std.proofs.lemmas.Int.{ints, by_lt_z}
use Rattle.ground_model.specs.Side.{side}
use Rattle.ground_model.specs.Lifted.{Lifted, side_below}
use Rattle.ground_model.proofs.Ring.{Expr, var, num, ◌⊕◌, ◌⊖◌, ◌⊗◌, ring}
use Rattle.ground_model.proofs.Circle.{sideE}
use Rattle.ground_model.proofs.ZLaws.{mul_comm}
use Rattle.ground_model.proofs.ZOrder.{mul-positive}
use Rattle.predicates.specs.Depth.{depth}
use Rattle.predicates.proofs.Signs.{mul-mixed, never-low, positive-less, weaken}

-- ---- by depths d and sides s
pub higher-after : (d1 s1 d2 s2 d3 s3 : ℤ) → pos 0 <ℤ s1 → pos 0 <ℤ s2 → pos 0 <ℤ s3 → (d1 *ℤ s2) <ℤ (d2 *ℤ s1) → (d2 *ℤ s3) <ℤ (d3 *ℤ s2) → (d1 *ℤ s3) <ℤ (d3 *ℤ s1)
higher-after d1 s1 d2 s2 d3 s3 p1 p2 p3 h k =
    order (d1 *ℤ s3) (d3 *ℤ s1) (positive_factor s2 (d3 *ℤ s1 -ℤ d1 *ℤ s3) p2
    (sum (s2 *ℤ (d3 *ℤ s1 -ℤ d1 *ℤ s3)) (s1 *ℤ (d3 *ℤ s2 -ℤ d2 *ℤ s3)) (s3 *ℤ (d2 *ℤ s1 -ℤ d1 *ℤ s2)) same
    (mul-positive s1 (d3 *ℤ s2 -ℤ d2 *ℤ s3) p1 (gap (d2 *ℤ s3) (d3 *ℤ s2) k)) (mul-positive s3 (d2 *ℤ s1 -ℤ d1 *ℤ s2) p3 (gap (d1 *ℤ s2) (d2 *ℤ s1) h))))
  where
    same : s2 *ℤ (d3 *ℤ s1 -ℤ d1 *ℤ s3) ≡ s1 *ℤ (d3 *ℤ s2 -ℤ d2 *ℤ s3) +ℤ s3 *ℤ (d2 *ℤ s1 -ℤ d1 *ℤ s2)
    same = ring (d1 ∷ s1 ∷ d2 ∷ s2 ∷ d3 ∷ s3 ∷ [])
        (var 3 ⊗ (var 4 ⊗ var 1 ⊖ var 0 ⊗ var 5)) (var 1 ⊗ (var 4 ⊗ var 3 ⊖ var 2 ⊗ var 5) ⊕ var 5 ⊗ (var 2 ⊗ var 1 ⊖ var 0 ⊗ var 3)) refl

    gap : (x y : ℤ) → x <ℤ y → pos 0 <ℤ (y -ℤ x)
    gap x y h = omega (arith, ints, h)

    order : (x y : ℤ) → pos 0 <ℤ (y -ℤ x) → x <ℤ y
    order x y h = omega (arith, ints, h)

    sum : (s x y : ℤ) → s ≡ x +ℤ y → pos 0 <ℤ x → pos 0 <ℤ y → pos 0 <ℤ s
    sum s x y e h k = omega (arith, ints, e, h, k)

    positive_factor : (s w : ℤ) → pos 0 <ℤ s → pos 0 <ℤ (s *ℤ w) → pos 0 <ℤ w
    positive_factor s w h k = by_lt_z (pos 0) w (λ lt. lt) (λ le. absurd (never-low (s *ℤ w) k (mul-mixed s w (weaken s h) le)))

-- ---- depths of triangles turned and swapped: a, b, c, p have numbers 0 to 3
abbrev depthE : ℕ → ℕ → ℕ → ℕ → Expr
depthE a b c p = var (a + 8) ⊗ sideE b c p ⊕ var (b + 8) ⊗ sideE c a p ⊕ var (c + 8) ⊗ sideE a b p ⊖ var (p + 8) ⊗ sideE a b c

pub depth-turned : (a b c p : Lifted) → depth a b c p ≡ depth b c a p
unfolding side depth
depth-turned a b c p = ring (a.at.e ∷ a.at.n ∷ b.at.e ∷ b.at.n ∷ c.at.e ∷ c.at.n ∷ p.at.e ∷ p.at.n ∷ a.height ∷ b.height ∷ c.height ∷ p.height ∷ []) (depthE 0 1 2 3) (depthE 1 2 0 3) refl

-- ---- from a triangle to the one on the other side of ab
-- s side abc, t side bad, w side abp, x depth abcp, y depth badp, z depth abcd
abbrev pub IsNext : ℤ → ℤ → ℤ → ℤ → ℤ → ℤ → Type 0
IsNext s t w x y z = s *ℤ y ≡ t *ℤ x +ℤ w *ℤ z

pub planes-next : (a b c d p : Lifted) → IsNext (side_below a b c) (side_below b a d) (side_below a b p) (depth a b c p) (depth b a d p) (depth a b c d)
unfolding side depth
planes-next a b c d p =
    ring (a.at.e ∷ a.at.n ∷ b.at.e ∷ b.at.n ∷ c.at.e ∷ c.at.n ∷ d.at.e ∷ d.at.n ∷ p.at.e ∷ p.at.n ∷ a.height ∷ b.height ∷ c.height ∷ d.height ∷ p.height ∷ [])
    (sideE 0 1 2 ⊗ fiveE 1 0 3 4) (sideE 1 0 3 ⊗ fiveE 0 1 2 4 ⊕ sideE 0 1 4 ⊗ fiveE 0 1 2 3) refl
  where
    fiveE : ℕ → ℕ → ℕ → ℕ → Expr
    fiveE a b c p = var (a + 10) ⊗ sideE b c p ⊕ var (b + 10) ⊗ sideE c a p ⊕ var (c + 10) ⊗ sideE a b p ⊖ var (p + 10) ⊗ sideE a b c

product : (w z : ℤ) → w <ℤ pos 0 → z <ℤ pos 0 → pos 0 <ℤ (w *ℤ z)
product w z h k =
    along (w *ℤ z) ((pos 0 -ℤ w) *ℤ (pos 0 -ℤ z)) (ring (w ∷ z ∷ []) ((num (pos 0) ⊖ var 0) ⊗ (num (pos 0) ⊖ var 1)) (var 0 ⊗ var 1) refl)
    (mul-positive (pos 0 -ℤ w) (pos 0 -ℤ z) (positive-less w h) (positive-less z k))
  where
    along : (s t : ℤ) → t ≡ s → pos 0 <ℤ t → pos 0 <ℤ s
    along s t e h = omega (arith, ints, e, h)

pub next-higher : (s t w x y z : ℤ) → IsNext s t w x y z → w <ℤ pos 0 → z <ℤ pos 0 → (x *ℤ t) <ℤ (y *ℤ s)
next-higher s t w x y z e nw nz = sum (s *ℤ y) (t *ℤ x) (w *ℤ z) (x *ℤ t) (y *ℤ s) e (mul_comm s y) (mul_comm t x) (product w z nw nz)
  where
    sum : (sy tx wz xt ys : ℤ) → sy ≡ tx +ℤ wz → sy ≡ ys → tx ≡ xt → pos 0 <ℤ wz → xt <ℤ ys
    sum sy tx wz xt ys e f g h = omega (arith, ints, e, f, g, h)

pub next-deep : (s t w x y z : ℤ) → IsNext s t w x y z → pos 0 <ℤ s → pos 0 <ℤ t → w <ℤ pos 0 → pos 0 <ℤ x → z <ℤ pos 0 → pos 0 <ℤ y
next-deep s t w x y z e ps pt nw px nz = by_lt_z (pos 0) y (λ lt. lt) (λ le.
    absurd (clash (s *ℤ y) (t *ℤ x) (w *ℤ z) e (mul-mixed s y (weaken s ps) le) (mul-positive t x pt px) (product w z nw nz)))
  where
    clash : (a b c : ℤ) → a ≡ b +ℤ c → a ≤ℤ pos 0 → pos 0 <ℤ b → pos 0 <ℤ c → ⊥
    clash a b c e h i j = omega (arith, ints, e, h, i, j)
