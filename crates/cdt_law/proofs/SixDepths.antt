-- Two lifted triangles over one point: the six depths, weighed by the point's sides, balance.
use Rattle.std.proofs.Common.{◌≡◌, ℕ, ◌+◌, refl, [], ◌∷◌}
use Rattle.std.specs.Prelude.{pos, ◌+ℤ◌, ◌*ℤ◌}
use Rattle.ground_model.specs.Side.{side}
use Rattle.ground_model.specs.Lifted.{Lifted}
use Rattle.ground_model.proofs.Ring.{Expr, var, num, ◌⊕◌, ◌⊖◌, ◌⊗◌, ring}
use Rattle.predicates.specs.Weighted.{Weighted, weighted_side}
use Rattle.predicates.specs.Depth.{depth}
use Rattle.predicates.proofs.WeightedSides.{pointE, placeE}

-- a, b, c, p, q, r have numbers 0 to 5, their heights follow, then the point
abbrev deepE : ℕ → ℕ → ℕ → ℕ → Expr
deepE a b c p = var (a + 12) ⊗ placeE b c p ⊕ var (b + 12) ⊗ placeE c a p ⊕ var (c + 12) ⊗ placeE a b p ⊖ var (p + 12) ⊗ placeE a b c

abbrev xE : ℕ → ℕ → Expr
xE i j = pointE i j (var 18) (var 19) (var 20)

pub weighed : (a b c p q r : Lifted) (x : Weighted)
    → weighted_side q.at r.at x *ℤ depth a b c p +ℤ weighted_side r.at p.at x *ℤ depth a b c q +ℤ weighted_side p.at q.at x *ℤ depth a b c r
    +ℤ weighted_side b.at c.at x *ℤ depth p q r a +ℤ weighted_side c.at a.at x *ℤ depth p q r b +ℤ weighted_side a.at b.at x *ℤ depth p q r c ≡ pos 0
unfolding weighted_side side depth
weighed a b c p q r x =
    ring (a.at.e ∷ a.at.n ∷ b.at.e ∷ b.at.n ∷ c.at.e ∷ c.at.n ∷ p.at.e ∷ p.at.n ∷ q.at.e ∷ q.at.n ∷ r.at.e ∷ r.at.n ∷ a.height ∷ b.height ∷ c.height ∷ p.height ∷ q.height ∷ r.height ∷ x.e ∷ x.n ∷ x.weight ∷ [])
    (xE 4 5 ⊗ deepE 0 1 2 3 ⊕ xE 5 3 ⊗ deepE 0 1 2 4 ⊕ xE 3 4 ⊗ deepE 0 1 2 5 ⊕ xE 1 2 ⊗ deepE 3 4 5 0 ⊕ xE 2 0 ⊗ deepE 3 4 5 1 ⊕ xE 0 1 ⊗ deepE 3 4 5 2) (num (pos 0)) refl
