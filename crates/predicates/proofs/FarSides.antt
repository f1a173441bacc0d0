-- Each place, and each far corner, lies to the left of the far triangle's edges that do not end at it.
use Rattle.std.proofs.Common.{◌≡◌, ℕ, ◌*◌, ◌^◌, ◌≤◌, ◌<◌, refl, arith, [], ◌∷◌}
use Rattle.std.specs.Prelude.{ℤ, pos, neg_ℤ, ◌+ℤ◌, ◌-ℤ◌, ◌*ℤ◌, ◌<ℤ◌, ◌≤ℤ◌}
use Rattle.std.proofs.lemmas.Int.{ints}
use Rattle.std.proofs.Math.Nat.{mul-le-mul_left, one-le-pow}
use Rattle.ground_model.specs.declared.corner.Corner.TheVariants.{Far}
use Rattle.ground_model.specs.Place.{Coords, IsPlace}
use Rattle.ground_model.specs.Side.{side}
use Rattle.ground_model.specs.Height.{base, top}
use Rattle.ground_model.specs.Corner.{far, direction, corner_at}
use Rattle.ground_model.proofs.Ring.{var, ◌⊕◌, ◌⊖◌, ◌⊗◌, ring}
use Rattle.ground_model.proofs.ZOrder.{mul-positive, next_power}
use Rattle.ground_model.proofs.Lifted.{base_is, top_is}
use Rattle.predicates.proofs.Signs.{positive-along}

-- far is large
pub far-large : 2 ^ 64 ≤ far
unfolding far
far-large =
    let some : 0 < base = omega (arith, base_is) in
    let more : 0 < 2 * top = omega (arith, top_is) in
    large base (base ^ 0) (base ^ (2 * top)) base_is (mul-le-mul_left base (one-le-pow 0 base some)) (next_power base (2 * top) 0 some more)
  where
    large : (b q p : ℕ) → b ≡ 2 ^ 64 → b * 1 ≤ b * q → b * q ≤ p → 2 ^ 64 ≤ p
    large b q p e f h = omega (arith, e, f, h)

-- the side of two far corners and a place
far_side : (m de dn fe fn : ℤ) (p : Coords) → side (record { e = m *ℤ de; n = m *ℤ dn }) (record { e = m *ℤ fe; n = m *ℤ fn }) p ≡ m *ℤ (m *ℤ (de *ℤ fn -ℤ dn *ℤ fe) +ℤ ((fe -ℤ de) *ℤ p.n -ℤ (fn -ℤ dn) *ℤ p.e))
unfolding side
far_side m de dn fe fn p =
    ring (m ∷ de ∷ dn ∷ fe ∷ fn ∷ p.e ∷ p.n ∷ [])
    ((var 0 ⊗ var 3 ⊖ var 0 ⊗ var 1) ⊗ (var 6 ⊖ var 0 ⊗ var 2) ⊖ (var 0 ⊗ var 4 ⊖ var 0 ⊗ var 2) ⊗ (var 5 ⊖ var 0 ⊗ var 1))
    (var 0 ⊗ (var 0 ⊗ (var 1 ⊗ var 4 ⊖ var 2 ⊗ var 3) ⊕ ((var 3 ⊖ var 1) ⊗ var 6 ⊖ (var 4 ⊖ var 2) ⊗ var 5))) refl

abbrev pub f0 : Coords
f0 = corner_at (Far 0)

abbrev pub f1 : Coords
f1 = corner_at (Far 1)

abbrev pub f2 : Coords
f2 = corner_at (Far 2)

positive-from : (s m t : ℤ) → s ≡ m *ℤ t → pos 0 <ℤ m → pos 0 <ℤ t → pos 0 <ℤ s
positive-from s m t e h k =
    let p = mul-positive m t h k in
    positive-along s (m *ℤ t) e p

far-positive : pos 0 <ℤ pos far
far-positive = some far far-large
  where
    some : (n : ℕ) → 2 ^ 64 ≤ n → pos 0 <ℤ pos n
    some n h = omega (arith, ints, h)

-- ---- numbers of places do not outweigh far
inner01 : (n : ℕ) (e f : ℤ) → 2 ^ 64 ≤ n → neg_ℤ (pos (2 ^ 29)) ≤ℤ e → e ≤ℤ pos (2 ^ 29) → neg_ℤ (pos (2 ^ 29)) ≤ℤ f → f ≤ℤ pos (2 ^ 29)
    → pos 0 <ℤ (pos n *ℤ ((direction 0).e *ℤ (direction 1).n -ℤ (direction 0).n *ℤ (direction 1).e) +ℤ (((direction 1).e -ℤ (direction 0).e) *ℤ f -ℤ ((direction 1).n -ℤ (direction 0).n) *ℤ e))
inner01 n e f h w x s t = omega (arith, ints, h, w, x, s, t)

inner12 : (n : ℕ) (e f : ℤ) → 2 ^ 64 ≤ n → neg_ℤ (pos (2 ^ 29)) ≤ℤ e → e ≤ℤ pos (2 ^ 29) → neg_ℤ (pos (2 ^ 29)) ≤ℤ f → f ≤ℤ pos (2 ^ 29)
    → pos 0 <ℤ (pos n *ℤ ((direction 1).e *ℤ (direction 2).n -ℤ (direction 1).n *ℤ (direction 2).e) +ℤ (((direction 2).e -ℤ (direction 1).e) *ℤ f -ℤ ((direction 2).n -ℤ (direction 1).n) *ℤ e))
inner12 n e f h w x s t = omega (arith, ints, h, w, x, s, t)

inner20 : (n : ℕ) (e f : ℤ) → 2 ^ 64 ≤ n → neg_ℤ (pos (2 ^ 29)) ≤ℤ e → e ≤ℤ pos (2 ^ 29) → neg_ℤ (pos (2 ^ 29)) ≤ℤ f → f ≤ℤ pos (2 ^ 29)
    → pos 0 <ℤ (pos n *ℤ ((direction 2).e *ℤ (direction 0).n -ℤ (direction 2).n *ℤ (direction 0).e) +ℤ (((direction 0).e -ℤ (direction 2).e) *ℤ f -ℤ ((direction 0).n -ℤ (direction 2).n) *ℤ e))
inner20 n e f h w x s t = omega (arith, ints, h, w, x, s, t)

pub far-side01 : (p : Coords) → IsPlace p → pos 0 <ℤ side f0 f1 p
far-side01 p h = positive-from (side f0 f1 p) (pos far) _ (far_side (pos far) (direction 0).e (direction 0).n (direction 1).e (direction 1).n p) far-positive (inner01 far p.e p.n far-large h.west h.east h.south h.north)

pub far-side12 : (p : Coords) → IsPlace p → pos 0 <ℤ side f1 f2 p
far-side12 p h = positive-from (side f1 f2 p) (pos far) _ (far_side (pos far) (direction 1).e (direction 1).n (direction 2).e (direction 2).n p) far-positive (inner12 far p.e p.n far-large h.west h.east h.south h.north)

pub far-side20 : (p : Coords) → IsPlace p → pos 0 <ℤ side f2 f0 p
far-side20 p h = positive-from (side f2 f0 p) (pos far) _ (far_side (pos far) (direction 2).e (direction 2).n (direction 0).e (direction 0).n p) far-positive (inner20 far p.e p.n far-large h.west h.east h.south h.north)

-- the far triangle is counterclockwise
inner-far : (n : ℕ) → 2 ^ 64 ≤ n
    → pos 0 <ℤ (pos n *ℤ ((direction 0).e *ℤ (direction 1).n -ℤ (direction 0).n *ℤ (direction 1).e) +ℤ (((direction 1).e -ℤ (direction 0).e) *ℤ (pos n *ℤ (direction 2).n) -ℤ ((direction 1).n -ℤ (direction 0).n) *ℤ (pos n *ℤ (direction 2).e)))
inner-far n h = omega (arith, ints, h)

pub far-turned : pos 0 <ℤ side f0 f1 f2
far-turned = positive-from (side f0 f1 f2) (pos far) _ (far_side (pos far) (direction 0).e (direction 0).n (direction 1).e (direction 1).n f2) far-positive (inner-far far far-large)
