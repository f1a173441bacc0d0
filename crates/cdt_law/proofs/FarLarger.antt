-- The highest corner of a triangle, where it is far, lies farther from the edge across than any place.
use Rattle.std.proofs.Common.{◌≡◌, ℕ, zero, suc, ◌^◌, ◌≤◌, ◌<◌, refl, sym, ◌∙◌, arith, [], ◌∷◌}
use Rattle.std.specs.Prelude.{ℤ, pos, ◌+ℤ◌, ◌-ℤ◌, ◌*ℤ◌, ◌<ℤ◌, unsigned_abs}
use Rattle.std.specs.declared.cmp.Ordering.TheVariants.{Greater}
use Rattle.std.proofs.lemmas.Int.{ints}
use Rattle.ground_model.specs.declared.corner.Corner.{Corner}
use Rattle.ground_model.specs.declared.corner.Corner.TheVariants.{At, Far}
use Rattle.ground_model.specs.Place.{Coords, IsPlace}
use Rattle.ground_model.specs.Side.{side}
use Rattle.ground_model.specs.Corner.{corner_side, direction, far}
use Rattle.ground_model.proofs.Ring.{var, num, ◌⊕◌, ◌⊖◌, ◌⊗◌, ring}
use Rattle.ground_model.proofs.ZOrder.{size-mul, size-sub, outweighs}
use Rattle.predicates.specs.Far.{IsKnown, rank, side_with}
use Rattle.predicates.proofs.Compared.{cmp_greater}
use Rattle.predicates.proofs.FarSides.{far-large}
use Rattle.predicates.proofs.FarOrientations.{farther, with-is}

-- ---- a far corner and a place
-- how far r turns about the origin from p
abbrev turn : Coords → Coords → ℤ
turn p r = p.e *ℤ r.n -ℤ p.n *ℤ r.e

turn-small : (p r : Coords) → IsPlace p → IsPlace r → unsigned_abs (turn p r) < far
turn-small p r h k =
    small (p.e *ℤ r.n) (p.n *ℤ r.e) far far-large
    (size-mul p.e r.n (2 ^ 29) (2 ^ 29) (omega (arith, ints, h.west, h.east)) (omega (arith, ints, k.south, k.north)))
    (size-mul p.n r.e (2 ^ 29) (2 ^ 29) (omega (arith, ints, h.south, h.north)) (omega (arith, ints, k.west, k.east)))
  where
    small : (x y : ℤ) (f : ℕ) → 2 ^ 64 ≤ f → unsigned_abs x ≤ 2 ^ 58 → unsigned_abs y ≤ 2 ^ 58 → unsigned_abs (x -ℤ y) < f
    small x y f l h k = omega (arith, size-sub x y, l, h, k)

after-far : (m : ℤ) (f d p r : Coords) → side (record { e = m *ℤ f.e; n = m *ℤ f.n }) p (record { e = m *ℤ d.e; n = m *ℤ d.n }) -ℤ side (record { e = m *ℤ f.e; n = m *ℤ f.n }) p r
    ≡ (m *ℤ (d.e *ℤ f.n -ℤ d.n *ℤ f.e) +ℤ (p.e *ℤ d.n -ℤ p.n *ℤ d.e) +ℤ (f.e *ℤ r.n -ℤ f.n *ℤ r.e)) *ℤ m -ℤ turn p r
unfolding side
after-far m f d p r =
    ring (m ∷ f.e ∷ f.n ∷ d.e ∷ d.n ∷ p.e ∷ p.n ∷ r.e ∷ r.n ∷ [])
    (((var 5 ⊖ var 0 ⊗ var 1) ⊗ (var 0 ⊗ var 4 ⊖ var 0 ⊗ var 2) ⊖ (var 6 ⊖ var 0 ⊗ var 2) ⊗ (var 0 ⊗ var 3 ⊖ var 0 ⊗ var 1))
    ⊖ ((var 5 ⊖ var 0 ⊗ var 1) ⊗ (var 8 ⊖ var 0 ⊗ var 2) ⊖ (var 6 ⊖ var 0 ⊗ var 2) ⊗ (var 7 ⊖ var 0 ⊗ var 1)))
    ((var 0 ⊗ (var 3 ⊗ var 2 ⊖ var 4 ⊗ var 1) ⊕ (var 5 ⊗ var 4 ⊖ var 6 ⊗ var 3) ⊕ (var 1 ⊗ var 8 ⊖ var 2 ⊗ var 7)) ⊗ var 0 ⊖ (var 5 ⊗ var 8 ⊖ var 6 ⊗ var 7)) refl

before-far : (m : ℤ) (f d p r : Coords) → side p (record { e = m *ℤ f.e; n = m *ℤ f.n }) (record { e = m *ℤ d.e; n = m *ℤ d.n }) -ℤ side p (record { e = m *ℤ f.e; n = m *ℤ f.n }) r
    ≡ (m *ℤ (f.e *ℤ d.n -ℤ f.n *ℤ d.e) -ℤ (p.e *ℤ d.n -ℤ p.n *ℤ d.e) -ℤ (f.e *ℤ r.n -ℤ f.n *ℤ r.e)) *ℤ m -ℤ turn r p
unfolding side
before-far m f d p r =
    ring (m ∷ f.e ∷ f.n ∷ d.e ∷ d.n ∷ p.e ∷ p.n ∷ r.e ∷ r.n ∷ [])
    (((var 0 ⊗ var 1 ⊖ var 5) ⊗ (var 0 ⊗ var 4 ⊖ var 6) ⊖ (var 0 ⊗ var 2 ⊖ var 6) ⊗ (var 0 ⊗ var 3 ⊖ var 5))
    ⊖ ((var 0 ⊗ var 1 ⊖ var 5) ⊗ (var 8 ⊖ var 6) ⊖ (var 0 ⊗ var 2 ⊖ var 6) ⊗ (var 7 ⊖ var 5)))
    ((var 0 ⊗ (var 1 ⊗ var 4 ⊖ var 2 ⊗ var 3) ⊖ (var 5 ⊗ var 4 ⊖ var 6 ⊗ var 3) ⊖ (var 1 ⊗ var 8 ⊖ var 2 ⊗ var 7)) ⊗ var 0 ⊖ (var 7 ⊗ var 6 ⊖ var 8 ⊗ var 5)) refl

two-far : (m : ℤ) (f g d r : Coords) → side (record { e = m *ℤ f.e; n = m *ℤ f.n }) (record { e = m *ℤ g.e; n = m *ℤ g.n }) (record { e = m *ℤ d.e; n = m *ℤ d.n }) -ℤ side (record { e = m *ℤ f.e; n = m *ℤ f.n }) (record { e = m *ℤ g.e; n = m *ℤ g.n }) r
    ≡ (m *ℤ ((g.e -ℤ f.e) *ℤ d.n -ℤ (g.n -ℤ f.n) *ℤ d.e) -ℤ ((g.e -ℤ f.e) *ℤ r.n -ℤ (g.n -ℤ f.n) *ℤ r.e)) *ℤ m -ℤ pos 0
unfolding side
two-far m f g d r =
    ring (m ∷ f.e ∷ f.n ∷ g.e ∷ g.n ∷ d.e ∷ d.n ∷ r.e ∷ r.n ∷ [])
    (((var 0 ⊗ var 3 ⊖ var 0 ⊗ var 1) ⊗ (var 0 ⊗ var 6 ⊖ var 0 ⊗ var 2) ⊖ (var 0 ⊗ var 4 ⊖ var 0 ⊗ var 2) ⊗ (var 0 ⊗ var 5 ⊖ var 0 ⊗ var 1))
    ⊖ ((var 0 ⊗ var 3 ⊖ var 0 ⊗ var 1) ⊗ (var 8 ⊖ var 0 ⊗ var 2) ⊖ (var 0 ⊗ var 4 ⊖ var 0 ⊗ var 2) ⊗ (var 7 ⊖ var 0 ⊗ var 1)))
    ((var 0 ⊗ ((var 3 ⊖ var 1) ⊗ var 6 ⊖ (var 4 ⊖ var 2) ⊗ var 5) ⊖ ((var 3 ⊖ var 1) ⊗ var 8 ⊖ (var 4 ⊖ var 2) ⊗ var 7)) ⊗ var 0 ⊖ num (pos 0)) refl

-- ---- the greater part outweighs the rest
more : (s t i x : ℤ) → s -ℤ t ≡ i *ℤ pos far -ℤ x → unsigned_abs x < far → pos 0 <ℤ i → t <ℤ s
more s t i x e small h = by (i *ℤ pos far) (outweighs i x far small h) e
  where
    by : (w : ℤ) → x <ℤ w → s -ℤ t ≡ w -ℤ x → t <ℤ s
    by w lt e = omega (arith, ints, lt, e)

none-small : unsigned_abs (pos 0) < far
none-small = omega (arith, far-large)

-- a part that grows with the far corners, and parts that do not
inner10 : (n : ℕ) (p r : Coords) → 2 ^ 64 ≤ n → IsPlace p → IsPlace r
    → pos 0 <ℤ (pos n *ℤ ((direction 0).e *ℤ (direction 1).n -ℤ (direction 0).n *ℤ (direction 1).e) +ℤ (p.e *ℤ (direction 0).n -ℤ p.n *ℤ (direction 0).e) +ℤ ((direction 1).e *ℤ r.n -ℤ (direction 1).n *ℤ r.e))
inner10 n p r l h k = omega (arith, ints, l, h.west, h.east, h.south, h.north, k.west, k.east, k.south, k.north)

inner21 : (n : ℕ) (p r : Coords) → 2 ^ 64 ≤ n → IsPlace p → IsPlace r
    → pos 0 <ℤ (pos n *ℤ ((direction 1).e *ℤ (direction 2).n -ℤ (direction 1).n *ℤ (direction 2).e) +ℤ (p.e *ℤ (direction 1).n -ℤ p.n *ℤ (direction 1).e) +ℤ ((direction 2).e *ℤ r.n -ℤ (direction 2).n *ℤ r.e))
inner21 n p r l h k = omega (arith, ints, l, h.west, h.east, h.south, h.north, k.west, k.east, k.south, k.north)

inner20 : (n : ℕ) (p r : Coords) → 2 ^ 64 ≤ n → IsPlace p → IsPlace r
    → pos 0 <ℤ (pos n *ℤ ((direction 2).e *ℤ (direction 0).n -ℤ (direction 2).n *ℤ (direction 0).e) -ℤ (p.e *ℤ (direction 0).n -ℤ p.n *ℤ (direction 0).e) -ℤ ((direction 2).e *ℤ r.n -ℤ (direction 2).n *ℤ r.e))
inner20 n p r l h k = omega (arith, ints, l, h.west, h.east, h.south, h.north, k.west, k.east, k.south, k.north)

inner120 : (n : ℕ) (r : Coords) → 2 ^ 64 ≤ n → IsPlace r
    → pos 0 <ℤ (pos n *ℤ (((direction 2).e -ℤ (direction 1).e) *ℤ (direction 0).n -ℤ ((direction 2).n -ℤ (direction 1).n) *ℤ (direction 0).e) -ℤ (((direction 2).e -ℤ (direction 1).e) *ℤ r.n -ℤ ((direction 2).n -ℤ (direction 1).n) *ℤ r.e))
inner120 n r l k = omega (arith, ints, l, k.west, k.east, k.south, k.north)

-- no other turn of far corners is counterclockwise
never-turned : (a b : Corner) (k : ℕ) → IsKnown a → IsKnown b → k < 3 → (Greater ≡ side_with a b k → ⊥) → pos 0 <ℤ corner_side a b (Far k) → ⊥
never-turned a b k ha hb lt apart turned = apart (sym (cmp_greater (corner_side a b (Far k)) turned) ∙ with-is a b k ha hb lt)

-- the highest corner of a triangle is farther from the edge across than any place
pub far-larger : (a b : Corner) (k : ℕ) (r : Coords) → IsKnown a → IsKnown b → k < 3 → k < rank a → k < rank b → IsPlace r → pos 0 <ℤ corner_side a b (Far k) → corner_side a b (At r) <ℤ corner_side a b (Far k)
far-larger (At p) (At q) k r ha hb lt la lb hr turned = farther p q r k ha hb hr lt turned
far-larger (Far zero) b k r ha hb lt la lb hr turned = absurd (omega (arith, la))
far-larger a (Far zero) k r ha hb lt la lb hr turned = absurd (omega (arith, lb))
far-larger (Far (suc zero)) b (suc k) r ha hb lt la lb hr turned = absurd (omega (arith, la))
far-larger a (Far (suc zero)) (suc k) r ha hb lt la lb hr turned = absurd (omega (arith, lb))
far-larger (Far (suc (suc zero))) b (suc (suc k)) r ha hb lt la lb hr turned = absurd (omega (arith, la))
far-larger a (Far (suc (suc zero))) (suc (suc k)) r ha hb lt la lb hr turned = absurd (omega (arith, lb))
far-larger (Far (suc (suc (suc i)))) b k r ha hb lt la lb hr turned = absurd (omega (arith, ha))
far-larger a (Far (suc (suc (suc j)))) k r ha hb lt la lb hr turned = absurd (omega (arith, hb))
far-larger (Far (suc zero)) (At q) zero r ha hb lt la lb hr turned =
    more _ _ _ (turn q r) (after-far (pos far) (direction 1) (direction 0) q r) (turn-small q r hb hr) (inner10 far q r far-large hb hr)
far-larger (Far (suc (suc zero))) (At q) (suc zero) r ha hb lt la lb hr turned =
    more _ _ _ (turn q r) (after-far (pos far) (direction 2) (direction 1) q r) (turn-small q r hb hr) (inner21 far q r far-large hb hr)
far-larger (Far (suc (suc zero))) (At q) zero r ha hb lt la lb hr turned = absurd (never-turned (Far 2) (At q) 0 ha hb lt (λ e. cc) turned)
far-larger (At p) (Far (suc (suc zero))) zero r ha hb lt la lb hr turned =
    more _ _ _ (turn r p) (before-far (pos far) (direction 2) (direction 0) p r) (turn-small r p hr ha) (inner20 far p r far-large ha hr)
far-larger (At p) (Far (suc zero)) zero r ha hb lt la lb hr turned = absurd (never-turned (At p) (Far 1) 0 ha hb lt (λ e. cc) turned)
far-larger (At p) (Far (suc (suc zero))) (suc zero) r ha hb lt la lb hr turned = absurd (never-turned (At p) (Far 2) 1 ha hb lt (λ e. cc) turned)
far-larger (Far (suc zero)) (Far (suc zero)) zero r ha hb lt la lb hr turned = absurd (never-turned (Far 1) (Far 1) 0 ha hb lt (λ e. cc) turned)
far-larger (Far (suc (suc zero))) (Far (suc (suc zero))) zero r ha hb lt la lb hr turned = absurd (never-turned (Far 2) (Far 2) 0 ha hb lt (λ e. cc) turned)
far-larger (Far (suc (suc zero))) (Far (suc (suc zero))) (suc zero) r ha hb lt la lb hr turned = absurd (never-turned (Far 2) (Far 2) 1 ha hb lt (λ e. cc) turned)
far-larger (Far (suc zero)) (Far (suc (suc zero))) zero r ha hb lt la lb hr turned =
    more _ _ _ (pos 0) (two-far (pos far) (direction 1) (direction 2) (direction 0) r) none-small (inner120 far r far-large hr)
far-larger (Far (suc (suc zero))) (Far (suc zero)) zero r ha hb lt la lb hr turned = absurd (never-turned (Far 2) (Far 1) 0 ha hb lt (λ e. cc) turned)
