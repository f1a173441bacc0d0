-- Where two edges of triangles cross, some point lies strictly inside both triangles.
use Rattle.std.proofs.Common.{◌≡◌, ℕ, ◌+◌, refl, arith, List, [], ◌∷◌}
use Rattle.std.specs.Prelude.{ℤ, pos, ◌+ℤ◌, ◌-ℤ◌, ◌*ℤ◌, ◌<ℤ◌, unsigned_abs}
use Rattle.std.proofs.lemmas.Int.{ints}
use Rattle.ground_model.specs.Place.{Coords}
use Rattle.ground_model.specs.Side.{side}
use Rattle.ground_model.proofs.Ring.{Expr, var, num, ◌⊕◌, ◌⊖◌, ◌⊗◌, ring}
use Rattle.ground_model.proofs.ZOrder.{mul-positive}
use Rattle.predicates.specs.Weighted.{Weighted, weighted_side, once, joined, repeated}
use Rattle.predicates.proofs.WeightedSides.{pointE, placeE}
use Rattle.predicates.proofs.Nudged.{Shared, many-left, many-within, many-some}
use Rattle.predicates.proofs.Signs.{level-up, positive-along, positive-less}

-- v is to the left of ab and u to its right; a is to the left of uv and b to its right
pub record Crosses (a b u v : Coords) : Type 0 where
  pub v_left : pos 0 <ℤ side a b v
  pub u_right : side a b u <ℤ pos 0
  pub a_left : pos 0 <ℤ side u v a
  pub b_right : side u v b <ℤ pos 0

-- the point at which ab and uv meet, as a sum of u and v
abbrev met : Coords → Coords → Coords → Coords → Weighted
met a b u v = joined (repeated (side a b v) (once u)) (repeated (pos 0 -ℤ side a b u) (once v))

-- places a, b, u, v, c have numbers 0 to 4
abbrev metE : ℕ → ℕ → Expr
metE i j =
    pointE i j
    (placeE 0 1 3 ⊗ var 4 ⊕ (num (pos 0) ⊖ placeE 0 1 2) ⊗ var 6)
    (placeE 0 1 3 ⊗ var 5 ⊕ (num (pos 0) ⊖ placeE 0 1 2) ⊗ var 7)
    (placeE 0 1 3 ⊗ num (pos 1) ⊕ (num (pos 0) ⊖ placeE 0 1 2) ⊗ num (pos 1))

abbrev env : Coords → Coords → Coords → Coords → Coords → List ℤ
env a b u v c = a.e ∷ a.n ∷ b.e ∷ b.n ∷ u.e ∷ u.n ∷ v.e ∷ v.n ∷ c.e ∷ c.n ∷ []

met-ab : (a b u v : Coords) → weighted_side a b (met a b u v) ≡ pos 0
unfolding weighted_side side
met-ab a b u v = ring (env a b u v a) (metE 0 1) (num (pos 0)) refl

met-bc : (a b u v c : Coords) → weighted_side b c (met a b u v) ≡ (pos 0 -ℤ side u v b) *ℤ side a b c
unfolding weighted_side side
met-bc a b u v c = ring (env a b u v c) (metE 1 4) ((num (pos 0) ⊖ placeE 2 3 1) ⊗ placeE 0 1 4) refl

met-ca : (a b u v c : Coords) → weighted_side c a (met a b u v) ≡ side u v a *ℤ side a b c
unfolding weighted_side side
met-ca a b u v c = ring (env a b u v c) (metE 4 0) (placeE 2 3 0 ⊗ placeE 0 1 4) refl

met-uv : (a b u v : Coords) → weighted_side u v (met a b u v) ≡ pos 0
unfolding weighted_side side
met-uv a b u v = ring (env a b u v a) (metE 2 3) (num (pos 0)) refl

met-vw : (a b u v w : Coords) → weighted_side v w (met a b u v) ≡ side a b v *ℤ side u v w
unfolding weighted_side side
met-vw a b u v w = ring (env a b u v w) (metE 3 4) (placeE 0 1 3 ⊗ placeE 2 3 4) refl

met-wu : (a b u v w : Coords) → weighted_side w u (met a b u v) ≡ (pos 0 -ℤ side a b u) *ℤ side u v w
unfolding weighted_side side
met-wu a b u v w = ring (env a b u v w) (metE 4 2) ((num (pos 0) ⊖ placeE 0 1 2) ⊗ placeE 2 3 4) refl

-- the two ends that lie to the left
abbrev pushed : Coords → Coords → Weighted
pushed a v = joined (once v) (once a)

pushed-ab : (a b v : Coords) → weighted_side a b (pushed a v) ≡ side a b v
unfolding weighted_side side
pushed-ab a b v = ring (env a b a v a) (pointE 0 1 (var 6 ⊕ var 0) (var 7 ⊕ var 1) (num (pos 1) ⊕ num (pos 1))) (placeE 0 1 3) refl

pushed-uv : (a u v : Coords) → weighted_side u v (pushed a v) ≡ side u v a
unfolding weighted_side side
pushed-uv a u v = ring (env a a u v a) (pointE 2 3 (var 6 ⊕ var 0) (var 7 ⊕ var 1) (num (pos 1) ⊕ num (pos 1))) (placeE 2 3 0) refl

-- so many times as outweigh the sides of what is pushed
abbrev enough : Coords → Coords → Coords → Coords → Coords → Coords → ℕ
enough a b c u v w = 1 + unsigned_abs (weighted_side b c (pushed a v)) + unsigned_abs (weighted_side c a (pushed a v)) + unsigned_abs (weighted_side v w (pushed a v)) + unsigned_abs (weighted_side w u (pushed a v))

pub crossed : (a b c u v w : Coords) → pos 0 <ℤ side a b c → pos 0 <ℤ side u v w → Crosses a b u v → Shared a b c u v w
crossed a b c u v w turned_t turned_u x =
    record {
      point = joined (repeated (pos (enough a b c u v w)) (met a b u v)) (pushed a v);
      some = many-some (enough a b c u v w) (side a b v *ℤ pos 1 +ℤ (pos 0 -ℤ side a b u) *ℤ pos 1) (pos 2) (omega arith) (weight (side a b v) (side a b u) x.v_left x.u_right) (omega (arith, ints));
      first = record {
        ab = many-within a b (enough a b c u v w) (met a b u v) (pushed a v) (level-up (weighted_side a b (met a b u v)) (met-ab a b u v)) (positive-along (weighted_side a b (pushed a v)) (side a b v) (pushed-ab a b v) x.v_left);
        bc = many-left b c (enough a b c u v w) (met a b u v) (pushed a v) (omega arith) (product (weighted_side b c (met a b u v)) (pos 0 -ℤ side u v b) (side a b c) (met-bc a b u v c) (positive-less (side u v b) x.b_right) turned_t);
        ca = many-left c a (enough a b c u v w) (met a b u v) (pushed a v) (omega arith) (product (weighted_side c a (met a b u v)) (side u v a) (side a b c) (met-ca a b u v c) x.a_left turned_t);
      };
      second = record {
        ab = many-within u v (enough a b c u v w) (met a b u v) (pushed a v) (level-up (weighted_side u v (met a b u v)) (met-uv a b u v)) (positive-along (weighted_side u v (pushed a v)) (side u v a) (pushed-uv a u v) x.a_left);
        bc = many-left v w (enough a b c u v w) (met a b u v) (pushed a v) (omega arith) (product (weighted_side v w (met a b u v)) (side a b v) (side u v w) (met-vw a b u v w) x.v_left turned_u);
        ca = many-left w u (enough a b c u v w) (met a b u v) (pushed a v) (omega arith) (product (weighted_side w u (met a b u v)) (pos 0 -ℤ side a b u) (side u v w) (met-wu a b u v w) (positive-less (side a b u) x.u_right) turned_u);
      };
    }
  where
    product : (s p q : ℤ) → s ≡ p *ℤ q → pos 0 <ℤ p → pos 0 <ℤ q → pos 0 <ℤ s
    product s p q e h l = positive-along s (p *ℤ q) e (mul-positive p q h l)

    weight : (p q : ℤ) → pos 0 <ℤ p → q <ℤ pos 0 → pos 0 <ℤ (p *ℤ pos 1 +ℤ (pos 0 -ℤ q) *ℤ pos 1)
    weight p q h l = omega (arith, ints, h, l)
