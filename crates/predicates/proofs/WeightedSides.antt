-- Weighted sides are linear in the point.
use Rattle.std.proofs.Common.{◌≡◌, ℕ, ◌+◌, ◌*◌, refl, [], ◌∷◌}
use Rattle.std.specs.Prelude.{ℤ, pos, ◌+ℤ◌, ◌*ℤ◌}
use Rattle.ground_model.specs.Place.{Coords}
use Rattle.ground_model.specs.Side.{side}
use Rattle.ground_model.proofs.Ring.{Expr, var, num, ◌⊕◌, ◌⊖◌, ◌⊗◌, ring}
use Rattle.predicates.specs.Weighted.{Weighted, weighted_side, once, joined, repeated}

-- the side of places i and j and the point whose easting, northing and weight are these
abbrev pub pointE : ℕ → ℕ → Expr → Expr → Expr → Expr
pointE i j e n w =
    (var (2 * j) ⊖ var (2 * i)) ⊗ (n ⊖ w ⊗ var (2 * i + 1))
    ⊖ (var (2 * j + 1) ⊖ var (2 * i + 1)) ⊗ (e ⊖ w ⊗ var (2 * i))

abbrev pub placeE : ℕ → ℕ → ℕ → Expr
placeE i j k = (var (2 * j) ⊖ var (2 * i)) ⊗ (var (2 * k + 1) ⊖ var (2 * i + 1)) ⊖ (var (2 * j + 1) ⊖ var (2 * i + 1)) ⊗ (var (2 * k) ⊖ var (2 * i))

pub weighted_side-once : (a b p : Coords) → weighted_side a b (once p) ≡ side a b p
unfolding weighted_side side
weighted_side-once a b p = ring (a.e ∷ a.n ∷ b.e ∷ b.n ∷ p.e ∷ p.n ∷ []) (pointE 0 1 (var 4) (var 5) (num (pos 1))) (placeE 0 1 2) refl

pub weighted_side-joined : (a b : Coords) (x y : Weighted) → weighted_side a b (joined x y) ≡ weighted_side a b x +ℤ weighted_side a b y
unfolding weighted_side
weighted_side-joined a b x y =
    ring (a.e ∷ a.n ∷ b.e ∷ b.n ∷ x.e ∷ x.n ∷ x.weight ∷ y.e ∷ y.n ∷ y.weight ∷ [])
    (pointE 0 1 (var 4 ⊕ var 7) (var 5 ⊕ var 8) (var 6 ⊕ var 9)) (pointE 0 1 (var 4) (var 5) (var 6) ⊕ pointE 0 1 (var 7) (var 8) (var 9)) refl

pub weighted_side-repeated : (a b : Coords) (k : ℤ) (x : Weighted) → weighted_side a b (repeated k x) ≡ k *ℤ weighted_side a b x
unfolding weighted_side
weighted_side-repeated a b k x =
    ring (a.e ∷ a.n ∷ b.e ∷ b.n ∷ x.e ∷ x.n ∷ x.weight ∷ k ∷ [])
    (pointE 0 1 (var 7 ⊗ var 4) (var 7 ⊗ var 5) (var 7 ⊗ var 6)) (var 7 ⊗ pointE 0 1 (var 4) (var 5) (var 6)) refl

-- the side of p and q at the point, by those at the corners
pub weighted_side-mixed : (p q a b c : Coords) (x : Weighted) → side a b c *ℤ weighted_side p q x ≡ weighted_side b c x *ℤ side p q a +ℤ weighted_side c a x *ℤ side p q b +ℤ weighted_side a b x *ℤ side p q c
unfolding weighted_side side
weighted_side-mixed p q a b c x =
    ring (p.e ∷ p.n ∷ q.e ∷ q.n ∷ a.e ∷ a.n ∷ b.e ∷ b.n ∷ c.e ∷ c.n ∷ x.e ∷ x.n ∷ x.weight ∷ [])
    (placeE 2 3 4 ⊗ pointE 0 1 (var 10) (var 11) (var 12))
    (pointE 3 4 (var 10) (var 11) (var 12) ⊗ placeE 0 1 2 ⊕ pointE 4 2 (var 10) (var 11) (var 12) ⊗ placeE 0 1 3 ⊕ pointE 2 3 (var 10) (var 11) (var 12) ⊗ placeE 0 1 4) refl
