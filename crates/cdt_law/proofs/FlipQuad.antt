-- The quadrilateral of a flip: two triangles of a sheet over one edge, and the two that take their place.
use Rattle.std.proofs.Common.{◌≡◌, ℕ, zero, suc, ◌⊎◌, inl, inr, refl, sym, ap, arith, [], ◌∷◌, true}
use Rattle.std.specs.Prelude.{ℤ, pos, neg_ℤ, ◌+ℤ◌, ◌*ℤ◌, ◌<ℤ◌, ◌≤ℤ◌}
use Rattle.std.proofs.lemmas.Int.{ints, by_lt_z}
use Rattle.ground_model.specs.declared.corner.Corner.{Corner}
use Rattle.ground_model.specs.declared.corner.Corner.TheVariants.{At}
use Rattle.ground_model.specs.Place.{Coords}
use Rattle.ground_model.specs.Side.{side}
use Rattle.ground_model.specs.Line.{is_point}
use Rattle.ground_model.specs.Corner.{corner_at, corner_side}
use Rattle.ground_model.proofs.Ring.{◌⊕◌, ◌⊗◌, ring}
use Rattle.ground_model.proofs.Circle.{sideE, side-turned}
use Rattle.predicates.specs.Net.{Net, edges_in, rim, times_in}
use Rattle.predicates.specs.Sheet.{IsSheet}
use Rattle.predicates.proofs.Signs.{mul-nonneg, mul-negative, never-high, positive-along, positive-neg, negative-neg, weaken}
use Rattle.predicates.proofs.FlatSides.{side-back}
use Rattle.predicates.proofs.Valid.{IsValid}
use Rattle.predicates.proofs.FarTriangle.{sheet-valid}
use Rattle.predicates.proofs.Tiling.{left-of}
use Rattle.predicates.proofs.CrossedEdges.{Crosses}
use Rattle.predicates.proofs.Owners.{owner, turn-side}
use Rattle.predicates.proofs.NeverCross.{uncrossed}
use Rattle.predicates.proofs.OneEach.{rim-far, far-left}
use Rattle.predicates.proofs.NearCorners.{InNet}
use Rattle.cdt_law.proofs.Walk.{turn-valid}
use Rattle.cdt_law.proofs.GoodInSheet.{sheet-only}

-- ---- the quadrilateral
-- abc and bad are in the net, and c and d lie so that both angles at them are convex
pub record Quad (net : Net) (a b c d : Corner) : Type 0 where
  pub left : InNet net a b c
  pub right : InNet net b a d
  pub at_a : pos 0 <ℤ corner_side a d c
  pub at_b : pos 0 <ℤ corner_side d b c

pub quad-swapped : (net : Net) (a b c d : Corner) → Quad net a b c d → Quad net b a d c
quad-swapped net a b c d q = record {
  left = q.right;
  right = q.left;
  at_a = positive-along (corner_side b c d) (corner_side d b c) (sym (side-turned (corner_at d) (corner_at b) (corner_at c))) q.at_b;
  at_b = positive-along (corner_side c a d) (corner_side a d c) (side-turned (corner_at c) (corner_at a) (corner_at d)) q.at_a;
}

-- ---- its sides
pub quad-left : (net : Net) → IsSheet net → (a b c d : Corner) → Quad net a b c d → pos 0 <ℤ corner_side a b c
quad-left net sheet a b c d q = turn-side q.left.triangle a b c q.left.turn (left-of net sheet q.left.index q.left.triangle q.left.at)

pub quad-right : (net : Net) → IsSheet net → (a b c d : Corner) → Quad net a b c d → pos 0 <ℤ corner_side b a d
quad-right net sheet a b c d q = turn-side q.right.triangle b a d q.right.turn (left-of net sheet q.right.index q.right.triangle q.right.at)

-- b lies to the right of dc
b_right : (net : Net) (a b c d : Corner) → Quad net a b c d → corner_side d c b <ℤ pos 0
b_right net a b c d q =
    negative-neg (corner_side c d b) (corner_side d c b) (side-back (corner_at c) (corner_at d) (corner_at b))
    (positive-along (corner_side c d b) (corner_side d b c) (side-turned (corner_at c) (corner_at d) (corner_at b)) q.at_b)

crosses-dc : (net : Net) → IsSheet net → (a b c d : Corner) → Quad net a b c d → Crosses (corner_at a) (corner_at b) (corner_at d) (corner_at c)
crosses-dc net sheet a b c d q = record {
  v_left = quad-left net sheet a b c d q;
  u_right = negative-neg (corner_side b a d) (corner_side a b d) (side-back (corner_at b) (corner_at a) (corner_at d)) (quad-right net sheet a b c d q);
  a_left = positive-along (corner_side d c a) (corner_side a d c) (sym (side-turned (corner_at a) (corner_at d) (corner_at c))) q.at_a;
  b_right = b_right net a b c d q;
}

-- ---- dc is no edge of the sheet, and none of the rim
pub no_edge : (net : Net) → IsSheet net → (a b c d : Corner) → Quad net a b c d → times_in (edges_in net) (d, c) ≡ 0
no_edge net sheet a b c d q = by (times_in (edges_in net) (d, c)) refl
  where
    by : (n : ℕ) → times_in (edges_in net) (d, c) ≡ n → n ≡ 0
    by zero e = refl
    by (suc n) e = absurd (uncrossed net sheet a b d c
        (record { index = q.left.index; triangle = q.left.triangle; third = c; at = q.left.at; turn = q.left.turn })
        (owner net d c (omega (arith, e))) (crosses-dc net sheet a b c d q))

pub no_rim : (net : Net) → IsSheet net → (a b c d : Corner) → Quad net a b c d → times_in rim (d, c) ≡ 0
no_rim net sheet a b c d q = by (times_in rim (d, c)) refl
  where
    valid_a : IsValid a
    valid_a = (turn-valid q.left.triangle a b c q.left.turn (sheet-valid net sheet q.left.index q.left.triangle q.left.at)).a_in

    clash : (s t : ℤ) → pos 0 <ℤ s → t ≡ neg_ℤ s → pos 0 ≤ℤ t → ⊥
    clash s t h e k = omega (arith, ints, h, e, k)

    by : (n : ℕ) → times_in rim (d, c) ≡ n → n ≡ 0
    by zero e = refl
    by (suc n) e = absurd (clash (corner_side d c a) (corner_side c d a) (crosses-dc net sheet a b c d q).a_left (side-back (corner_at d) (corner_at c) (corner_at a))
        (far-left c d a (rim-far d c (omega (arith, e))) valid_a))

-- ---- the triangle adc has no point but its corners
from-bc : (a b c d p : Coords) → side a d c *ℤ side b c p ≡ side d c p *ℤ side b c a +ℤ side c a p *ℤ side b c d
unfolding side
from-bc a b c d p = ring (a.e ∷ a.n ∷ b.e ∷ b.n ∷ c.e ∷ c.n ∷ d.e ∷ d.n ∷ p.e ∷ p.n ∷ []) (sideE 0 3 2 ⊗ sideE 1 2 4) (sideE 3 2 4 ⊗ sideE 1 2 0 ⊕ sideE 2 0 4 ⊗ sideE 1 2 3) refl

from-db : (a b c d p : Coords) → side a d c *ℤ side d b p ≡ side d c p *ℤ side d b a +ℤ side a d p *ℤ side d b c
unfolding side
from-db a b c d p = ring (a.e ∷ a.n ∷ b.e ∷ b.n ∷ c.e ∷ c.n ∷ d.e ∷ d.n ∷ p.e ∷ p.n ∷ []) (sideE 0 3 2 ⊗ sideE 3 1 4) (sideE 3 2 4 ⊗ sideE 3 1 0 ⊕ sideE 0 3 4 ⊗ sideE 3 1 2) refl

factor-nonneg : (g s x y : ℤ) → g *ℤ s ≡ x +ℤ y → pos 0 <ℤ g → pos 0 ≤ℤ x → pos 0 ≤ℤ y → pos 0 ≤ℤ s
factor-nonneg g s x y e hg hx hy = by_lt_z s (pos 0) (λ lt. absurd (clash (g *ℤ s) x y e hx hy (mul-negative g s hg lt))) (λ ge. ge)
  where
    clash : (p x y : ℤ) → p ≡ x +ℤ y → pos 0 ≤ℤ x → pos 0 ≤ℤ y → p <ℤ pos 0 → ⊥
    clash p x y e h k l = omega (arith, ints, e, h, k, l)

pub first-only : (net : Net) → IsSheet net → (a b c d : Corner) → Quad net a b c d → (p : Coords) → is_point net.points p ≡ true
    → pos 0 ≤ℤ corner_side a d (At p) → pos 0 ≤ℤ corner_side d c (At p) → pos 0 ≤ℤ corner_side c a (At p) → (At p ≡ a) ⊎ ((At p ≡ d) ⊎ (At p ≡ c))
first-only net sheet a b c d q p at_p ad dc ca = by_lt_z (corner_side a b (At p)) (pos 0)
    (λ lt. on_right (sheet-only net sheet q.right.index q.right.triangle b a d q.right.at q.right.turn p at_p
    (weaken (corner_side b a (At p)) (positive-neg (corner_side a b (At p)) (corner_side b a (At p)) (side-back (corner_at a) (corner_at b) p) lt)) ad
    (factor-nonneg (corner_side a d c) (corner_side d b (At p)) (corner_side d c (At p) *ℤ corner_side d b a) (corner_side a d (At p) *ℤ corner_side d b c)
    (from-db (corner_at a) (corner_at b) (corner_at c) (corner_at d) p) q.at_a
    (mul-nonneg (corner_side d c (At p)) (corner_side d b a) dc (weaken (corner_side d b a) (positive-along (corner_side d b a) (corner_side b a d) (side-turned (corner_at d) (corner_at b) (corner_at a)) (quad-right net sheet a b c d q))))
    (mul-nonneg (corner_side a d (At p)) (corner_side d b c) ad (weaken (corner_side d b c) q.at_b)))))
    (λ ge. on_left (sheet-only net sheet q.left.index q.left.triangle a b c q.left.at q.left.turn p at_p ge
    (factor-nonneg (corner_side a d c) (corner_side b c (At p)) (corner_side d c (At p) *ℤ corner_side b c a) (corner_side c a (At p) *ℤ corner_side b c d)
    (from-bc (corner_at a) (corner_at b) (corner_at c) (corner_at d) p) q.at_a
    (mul-nonneg (corner_side d c (At p)) (corner_side b c a) dc (weaken (corner_side b c a) (positive-along (corner_side b c a) (corner_side a b c) (sym (side-turned (corner_at a) (corner_at b) (corner_at c))) (quad-left net sheet a b c d q))))
    (mul-nonneg (corner_side c a (At p)) (corner_side b c d) ca (weaken (corner_side b c d) (positive-along (corner_side b c d) (corner_side d b c) (sym (side-turned (corner_at d) (corner_at b) (corner_at c))) q.at_b)))) ca))
  where
    not_b : At p ≡ b → ⊥
    not_b e = never-high (corner_side d c b) (along (corner_side d c b) (corner_side d c (At p)) (ap (corner_side d c) (sym e)) dc) (b_right net a b c d q)
      where
        along : (x y : ℤ) → x ≡ y → pos 0 ≤ℤ y → pos 0 ≤ℤ x
        along x y e h = omega (arith, ints, e, h)

    on_left : (At p ≡ a) ⊎ ((At p ≡ b) ⊎ (At p ≡ c)) → (At p ≡ a) ⊎ ((At p ≡ d) ⊎ (At p ≡ c))
    on_left (inl e) = inl e
    on_left (inr (inl e)) = absurd (not_b e)
    on_left (inr (inr e)) = inr (inr e)

    on_right : (At p ≡ b) ⊎ ((At p ≡ a) ⊎ (At p ≡ d)) → (At p ≡ a) ⊎ ((At p ≡ d) ⊎ (At p ≡ c))
    on_right (inl e) = absurd (not_b e)
    on_right (inr (inl e)) = inl e
    on_right (inr (inr e)) = inr (inl e)
