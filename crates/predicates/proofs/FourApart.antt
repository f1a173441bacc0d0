-- Four corners of which three turn: where the fourth is collinear with two of them it is not in their plane.
use Rattle.std.proofs.Common.{◌≡◌, ℕ, ◌+◌, ◌*◌, refl, sym, ap, ◌∙◌, arith, [], ◌∷◌}
use Rattle.std.specs.Prelude.{ℤ, pos, ◌+ℤ◌, ◌-ℤ◌, ◌*ℤ◌, ◌<ℤ◌, ◌≤ℤ◌}
use Rattle.std.proofs.lemmas.Int.{ints, by_lt_z}
use Rattle.ground_model.specs.declared.corner.Corner.{Corner}
use Rattle.ground_model.specs.Side.{side}
use Rattle.ground_model.specs.Lifted.{Lifted, side_below}
use Rattle.ground_model.specs.Corner.{corner_at, corner_side}
use Rattle.ground_model.proofs.Ring.{Expr, var, num, ◌⊕◌, ◌⊖◌, ◌⊗◌, ring}
use Rattle.ground_model.proofs.ZOrder.{mul-positive}
use Rattle.ground_model.proofs.Circle.{sideE, side-turned}
use Rattle.predicates.specs.Depth.{depth}
use Rattle.predicates.proofs.Signs.{mul-mixed, never-level, never-flat, positive-along, weaken}
use Rattle.predicates.proofs.Valid.{IsValid}
use Rattle.predicates.proofs.OneEdgeBeyond.{excess, depth-at_a, depth-at_b}
use Rattle.predicates.proofs.HigherPlanes.{depth-turned}
use Rattle.predicates.proofs.Heights.{lift, deep}
use Rattle.predicates.proofs.PlanesBelow.{leans, lean_e, lean_n}
use Rattle.predicates.proofs.FlatSides.{flat_ab, flat_bc, flat_ca}

-- ---- four corners apart, of which three turn
pub record FourApart (a b c d : Corner) : Type 0 where
  pub a_in : IsValid a
  pub b_in : IsValid b
  pub c_in : IsValid c
  pub d_in : IsValid d
  pub turned : pos 0 <ℤ corner_side a b c
  pub not_a : d ≡ a → ⊥
  pub not_b : d ≡ b → ⊥
  pub not_c : d ≡ c → ⊥

pub apart-turned : (a b c d : Corner) → FourApart a b c d → FourApart b c a d
apart-turned a b c d f = record {
  a_in = f.b_in;
  b_in = f.c_in;
  c_in = f.a_in;
  d_in = f.d_in;
  turned = positive-along (corner_side b c a) (corner_side a b c) (sym (side-turned (corner_at a) (corner_at b) (corner_at c))) f.turned;
  not_a = f.not_b;
  not_b = f.not_c;
  not_c = f.not_a;
}

pub not_ab : (a b c d : Corner) → FourApart a b c d → a ≡ b → ⊥
not_ab a b c d f e = never-level (corner_side a b c) f.turned (flat_ab (corner_at a) (corner_at b) (corner_at c) (ap corner_at e))

pub not_bc : (a b c d : Corner) → FourApart a b c d → b ≡ c → ⊥
not_bc a b c d f e = never-level (corner_side a b c) f.turned (flat_bc (corner_at a) (corner_at b) (corner_at c) (ap corner_at e))

pub not_ca : (a b c d : Corner) → FourApart a b c d → c ≡ a → ⊥
not_ca a b c d f e = never-level (corner_side a b c) f.turned (flat_ca (corner_at a) (corner_at b) (corner_at c) (ap corner_at e))

-- ---- where b, c and d are collinear the planes through them decide
depth-at_d : (a b c d : Lifted) (k l : ℤ) → depth a b c d ≡ excess d k l a *ℤ side_below b c d +ℤ excess d k l b *ℤ side_below c a d +ℤ excess d k l c *ℤ side_below a b d
unfolding depth side
depth-at_d a b c d k l =
    ring (a.at.e ∷ a.at.n ∷ b.at.e ∷ b.at.n ∷ c.at.e ∷ c.at.n ∷ d.at.e ∷ d.at.n ∷ a.height ∷ b.height ∷ c.height ∷ d.height ∷ k ∷ l ∷ [])
    (h 0 ⊗ sideE 1 2 3 ⊕ h 1 ⊗ sideE 2 0 3 ⊕ h 2 ⊗ sideE 0 1 3 ⊖ h 3 ⊗ sideE 0 1 2)
    (over 0 ⊗ sideE 1 2 3 ⊕ over 1 ⊗ sideE 2 0 3 ⊕ over 2 ⊗ sideE 0 1 3) refl
  where
    h : ℕ → Expr
    h i = var (i + 8)

    over : ℕ → Expr
    over x = h x ⊖ h 3 ⊖ var 12 ⊗ (var (2 * x) ⊖ var 6) ⊖ var 13 ⊗ (var (2 * x + 1) ⊖ var 7)

pub times-zero : (f s : ℤ) → s ≡ pos 0 → f *ℤ s ≡ pos 0
times-zero f s e = ap (λ k. f *ℤ k) e ∙ ring (f ∷ []) (var 0 ⊗ num (pos 0)) (num (pos 0)) refl

-- how far x is above the plane through b
abbrev above : Corner → Corner → ℤ
above b x = excess (lift b) (lean_e b) (lean_n b) (lift x)

-- d lies between b and c: then it is below the plane
pub deep_between : (a b c d : Corner) → FourApart a b c d → corner_side b c d ≡ pos 0 → pos 0 <ℤ corner_side a b d → pos 0 <ℤ corner_side c a d → pos 0 <ℤ deep a b c d
deep_between a b c d f flat left_ab left_ca =
    sum (deep a b c d) (above d a *ℤ corner_side b c d) (above d b *ℤ corner_side c a d) (above d c *ℤ corner_side a b d)
    (depth-at_d (lift a) (lift b) (lift c) (lift d) (lean_e d) (lean_n d))
    (times-zero (above d a) (corner_side b c d) flat)
    (mul-positive (above d b) (corner_side c a d) (leans d b f.d_in f.b_in (λ e. f.not_b (sym e))) left_ca)
    (mul-positive (above d c) (corner_side a b d) (leans d c f.d_in f.c_in (λ e. f.not_c (sym e))) left_ab)
  where
    sum : (z p q r : ℤ) → z ≡ p +ℤ q +ℤ r → p ≡ pos 0 → pos 0 <ℤ q → pos 0 <ℤ r → pos 0 <ℤ z
    sum z p q r e ep hq hr = omega (arith, ints, e, ep, hq, hr)

under : (z p q r : ℤ) → z ≡ p +ℤ q -ℤ r → p ≡ pos 0 → q ≤ℤ pos 0 → pos 0 <ℤ r → z <ℤ pos 0
under z p q r e ep hq hr = omega (arith, ints, e, ep, hq, hr)

-- d lies past b, or past c: then it is above the plane
pub shallow_past_b : (a b c d : Corner) → FourApart a b c d → corner_side b c d ≡ pos 0 → corner_side a b d ≤ℤ pos 0 → deep a b c d <ℤ pos 0
shallow_past_b a b c d f flat right_ab =
    under (deep a b c d) (above b a *ℤ corner_side b c d) (above b c *ℤ corner_side a b d) (above b d *ℤ corner_side a b c)
    (depth-at_b (lift a) (lift b) (lift c) (lift d) (lean_e b) (lean_n b))
    (times-zero (above b a) (corner_side b c d) flat)
    (mul-mixed (above b c) (corner_side a b d) (weaken (above b c) (leans b c f.b_in f.c_in (λ e. not_bc a b c d f (sym e)))) right_ab)
    (mul-positive (above b d) (corner_side a b c) (leans b d f.b_in f.d_in f.not_b) f.turned)

pub shallow_past_c : (a b c d : Corner) → FourApart a b c d → corner_side b c d ≡ pos 0 → corner_side c a d ≤ℤ pos 0 → deep a b c d <ℤ pos 0
shallow_past_c a b c d f flat right_ca =
    under (deep a b c d) (above c a *ℤ corner_side b c d) (above c b *ℤ corner_side c a d) (above c d *ℤ corner_side c a b)
    (depth-turned (lift a) (lift b) (lift c) (lift d) ∙ depth-turned (lift b) (lift c) (lift a) (lift d) ∙ depth-at_a (lift c) (lift a) (lift b) (lift d) (lean_e c) (lean_n c))
    (times-zero (above c a) (corner_side b c d) flat)
    (mul-mixed (above c b) (corner_side c a d) (weaken (above c b) (leans c b f.c_in f.b_in (not_bc a b c d f))) right_ca)
    (mul-positive (above c d) (corner_side c a b) (leans c d f.c_in f.d_in f.not_c) (positive-along (corner_side c a b) (corner_side a b c) (side-turned (corner_at c) (corner_at a) (corner_at b)) f.turned))

pub not_collinear : (a b c d : Corner) → FourApart a b c d → deep a b c d ≡ pos 0 → corner_side b c d ≡ pos 0 → ⊥
not_collinear a b c d f level flat =
    by_lt_z (pos 0) (corner_side a b d)
    (λ left_ab. by_lt_z (pos 0) (corner_side c a d)
    (λ left_ca. never-level (deep a b c d) (deep_between a b c d f flat left_ab left_ca) level)
    (λ right_ca. never-flat (deep a b c d) (shallow_past_c a b c d f flat right_ca) level))
    (λ right_ab. never-flat (deep a b c d) (shallow_past_b a b c d f flat right_ab) level)
