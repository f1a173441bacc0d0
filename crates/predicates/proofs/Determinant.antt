-- The in-circle determinant taken from the fourth place: it is the sum of the squares.
use Rattle.std.proofs.Common.{◌≡◌, refl, [], ◌∷◌}
use Rattle.std.specs.Prelude.{ℤ, ◌+ℤ◌, ◌-ℤ◌, ◌*ℤ◌}
use Rattle.ground_model.specs.Place.{Coords}
use Rattle.ground_model.specs.Side.{side}
use Rattle.ground_model.specs.Height.{in_circle_sum}
use Rattle.ground_model.proofs.Ring.{Expr, var, ◌⊕◌, ◌⊖◌, ◌⊗◌, ring}
use Rattle.ground_model.proofs.Circle.{env, in_circle_sumE}

-- the cross product of two vectors
abbrev pub cross : ℤ → ℤ → ℤ → ℤ → ℤ
cross x y u v = x *ℤ v -ℤ y *ℤ u

abbrev pub norm : ℤ → ℤ → ℤ
norm x y = x *ℤ x +ℤ y *ℤ y

abbrev crossE : Expr → Expr → Expr → Expr → Expr
crossE x y u v = x ⊗ v ⊖ y ⊗ u

abbrev normE : Expr → Expr → Expr
normE x y = x ⊗ x ⊕ y ⊗ y

pub in_circle_sum-from : (a b c d : Coords)
    → norm (a.e -ℤ d.e) (a.n -ℤ d.n) *ℤ cross (b.e -ℤ d.e) (b.n -ℤ d.n) (c.e -ℤ d.e) (c.n -ℤ d.n)
    +ℤ norm (b.e -ℤ d.e) (b.n -ℤ d.n) *ℤ cross (c.e -ℤ d.e) (c.n -ℤ d.n) (a.e -ℤ d.e) (a.n -ℤ d.n)
    +ℤ norm (c.e -ℤ d.e) (c.n -ℤ d.n) *ℤ cross (a.e -ℤ d.e) (a.n -ℤ d.n) (b.e -ℤ d.e) (b.n -ℤ d.n)
    ≡ in_circle_sum a b c d
unfolding side in_circle_sum
in_circle_sum-from a b c d =
    let e : Expr = var 0 ⊖ var 6 in
    let f : Expr = var 1 ⊖ var 7 in
    let g : Expr = var 2 ⊖ var 6 in
    let h : Expr = var 3 ⊖ var 7 in
    let k : Expr = var 4 ⊖ var 6 in
    let l : Expr = var 5 ⊖ var 7 in
    ring (env (a ∷ b ∷ c ∷ d ∷ []))
    (normE e f ⊗ crossE g h k l ⊕ normE g h ⊗ crossE k l e f ⊕ normE k l ⊗ crossE e f g h)
    (in_circle_sumE 0 1 2 3)
    refl
