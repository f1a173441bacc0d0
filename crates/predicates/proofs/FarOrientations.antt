-- The sides of far corners, by their tables.
use Rattle.std.proofs.Common.{◌≡◌, ℕ, zero, suc, ◌+◌, ◌^◌, ◌%◌, ◌<◌, ◌≤◌, ◌⊎◌, inl, inr, refl, sym, ap, subst, ◌∙◌, arith, [], ◌∷◌, Bool, true, false, cond, ◌||◌}
use Rattle.std.specs.Prelude.{ℤ, pos, neg_ℤ, ◌+ℤ◌, ◌-ℤ◌, ◌*ℤ◌, ◌<ℤ◌, ◌≤ℤ◌, unsigned_abs, nat_eq}
use Rattle.std.specs.declared.cmp.Ordering.TheVariants.{Less, Equal, Greater}
use Rattle.std.specs.Ordering.{int_cmp}
use Rattle.std.proofs.lemmas.Int.{ints}
use Rattle.std.proofs.lemmas.Bool.{eqb-true, eqb-false}
use Rattle.ground_model.specs.declared.corner.Corner.{Corner}
use Rattle.ground_model.specs.declared.corner.Corner.TheVariants.{At, Far}
use Rattle.ground_model.specs.Place.{Coords, IsPlace}
use Rattle.ground_model.specs.Side.{side}
use Rattle.ground_model.specs.Corner.{corner_at, corner_side, direction, far}
use Rattle.ground_model.proofs.Ring.{var, ◌⊖◌, ◌⊗◌, ring}
use Rattle.ground_model.proofs.ZOrder.{size-mul, size-sub, outweighs, outweighs_below}
use Rattle.ground_model.proofs.Circle.{side-turned, same_coords}
use Rattle.predicates.specs.Far.{IsKnown, side_toward, side_around, side_with, is_between}
use Rattle.predicates.proofs.Compared.{IsSigned, IsSignedFirst, cmp_signed, cmp_first, cmp_less, cmp_greater, cmp_equal, by_sign}
use Rattle.predicates.proofs.Signs.{positive-along, negative-neg, never-both, never-level, never-flat}
use Rattle.predicates.proofs.FlatSides.{flat_ab, flat_bc, flat_ca, side-back}
use Rattle.predicates.proofs.FarSides.{f0, f1, f2, far-side01, far-side12, far-side20, far-turned, far-large}
use Rattle.predicates.proofs.Valid.{IsValid, Place, Far0, Far1, Far2}

-- ---- two places and a far corner
-- how far a direction lies to the left of the way from p to q
abbrev pub toward : Coords → Coords → Coords → ℤ
toward p q d = (q.e -ℤ p.e) *ℤ d.n -ℤ (q.n -ℤ p.n) *ℤ d.e

-- how far the way from p to q turns about the origin, as seen at r: the part of a side that does not grow with the far corner
abbrev near : Coords → Coords → Coords → ℤ
near p q r = (q.e -ℤ p.e) *ℤ r.n -ℤ (q.n -ℤ p.n) *ℤ r.e

side-toward : (m : ℤ) (p q d : Coords) → side p q (record { e = m *ℤ d.e; n = m *ℤ d.n }) ≡ toward p q d *ℤ m -ℤ near p q p
unfolding side
side-toward m p q d =
    ring (p.e ∷ p.n ∷ q.e ∷ q.n ∷ d.e ∷ d.n ∷ m ∷ [])
    ((var 2 ⊖ var 0) ⊗ (var 6 ⊗ var 5 ⊖ var 1) ⊖ (var 3 ⊖ var 1) ⊗ (var 6 ⊗ var 4 ⊖ var 0))
    (((var 2 ⊖ var 0) ⊗ var 5 ⊖ (var 3 ⊖ var 1) ⊗ var 4) ⊗ var 6 ⊖ ((var 2 ⊖ var 0) ⊗ var 1 ⊖ (var 3 ⊖ var 1) ⊗ var 0)) refl

near-small : (p q r : Coords) → IsPlace p → IsPlace q → IsPlace r → unsigned_abs (near p q r) < far
near-small p q r h k l =
    small ((q.e -ℤ p.e) *ℤ r.n) ((q.n -ℤ p.n) *ℤ r.e) far far-large
    (size-mul (q.e -ℤ p.e) r.n (2 ^ 30) (2 ^ 29) (omega (arith, ints, h.west, h.east, k.west, k.east)) (omega (arith, ints, l.south, l.north)))
    (size-mul (q.n -ℤ p.n) r.e (2 ^ 30) (2 ^ 29) (omega (arith, ints, h.south, h.north, k.south, k.north)) (omega (arith, ints, l.west, l.east)))
  where
    small : (x y : ℤ) (f : ℕ) → 2 ^ 64 ≤ f → unsigned_abs x ≤ 2 ^ 59 → unsigned_abs y ≤ 2 ^ 59 → unsigned_abs (x -ℤ y) < f
    small x y f l h k = omega (arith, size-sub x y, l, h, k)

-- a far corner lies on the side of its direction
by_direction : (p q d : Coords) → IsPlace p → IsPlace q → (toward p q d ≡ pos 0 → p ≡ q) → IsSigned (side p q (record { e = pos far *ℤ d.e; n = pos far *ℤ d.n })) (toward p q d)
by_direction p q d h k flat = record {
  left = λ gt. above _ (toward p q d *ℤ pos far) (near p q p) (side-toward (pos far) p q d) (outweighs (toward p q d) (near p q p) far (near-small p q p h k h) gt);
  right = λ lt. below _ (toward p q d *ℤ pos far) (near p q p) (side-toward (pos far) p q d) (outweighs_below (toward p q d) (near p q p) far (near-small p q p h k h) lt);
  flat = λ e. flat_ab p q (record { e = pos far *ℤ d.e; n = pos far *ℤ d.n }) (flat e);
}
  where
    above : (s w t : ℤ) → s ≡ w -ℤ t → t <ℤ w → pos 0 <ℤ s
    above s w t e lt = omega (arith, ints, e, lt)

    below : (s w t : ℤ) → s ≡ w -ℤ t → w <ℤ t → s <ℤ pos 0
    below s w t e lt = omega (arith, ints, e, lt)

-- the way between two places: no longer than twice the limit
record IsWay (e n : ℤ) : Type 0 where
  west : neg_ℤ (pos (2 ^ 30)) ≤ℤ e
  east : e ≤ℤ pos (2 ^ 30)
  south : neg_ℤ (pos (2 ^ 30)) ≤ℤ n
  north : n ≤ℤ pos (2 ^ 30)

way : (p q : Coords) → IsPlace p → IsPlace q → IsWay (q.e -ℤ p.e) (q.n -ℤ p.n)
way p q h k = record {
  west = omega (arith, ints, h.east, k.west);
  east = omega (arith, ints, h.west, k.east);
  south = omega (arith, ints, h.north, k.south);
  north = omega (arith, ints, h.south, k.north);
}

table0 : (e n w : ℤ) → IsWay e n → w ≡ e *ℤ (direction 0).n -ℤ n *ℤ (direction 0).e → IsSignedFirst w (neg_ℤ n) e
table0 e n w h is = record {
  left = λ gt. omega (arith, ints, is, h.west, h.east, gt);
  right = λ lt. omega (arith, ints, is, h.west, h.east, lt);
  rest = λ z. record { left = λ gt. omega (arith, ints, is, z, gt); right = λ lt. omega (arith, ints, is, z, lt); flat = λ f. omega (arith, ints, is, z, f) };
}

table1 : (e n w : ℤ) → IsWay e n → w ≡ e *ℤ (direction 1).n -ℤ n *ℤ (direction 1).e → IsSignedFirst w (e +ℤ n) e
table1 e n w h is = record {
  left = λ gt. omega (arith, ints, is, h.west, h.east, gt);
  right = λ lt. omega (arith, ints, is, h.west, h.east, lt);
  rest = λ z. record { left = λ gt. omega (arith, ints, is, z, gt); right = λ lt. omega (arith, ints, is, z, lt); flat = λ f. omega (arith, ints, is, z, f) };
}

table2 : (e n w : ℤ) → IsWay e n → w ≡ e *ℤ (direction 2).n -ℤ n *ℤ (direction 2).e → IsSignedFirst w (neg_ℤ e) n
table2 e n w h is = record {
  left = λ gt. omega (arith, ints, is, h.south, h.north, gt);
  right = λ lt. omega (arith, ints, is, h.south, h.north, lt);
  rest = λ z. record { left = λ gt. omega (arith, ints, is, z, gt); right = λ lt. omega (arith, ints, is, z, lt); flat = λ f. omega (arith, ints, is, z, f) };
}

-- no direction is parallel to a way
equal : (s t : ℤ) → t -ℤ s ≡ pos 0 → s ≡ t
equal s t e = omega (arith, ints, e)

slanted : (k : ℕ) → ((e n : ℤ) → IsWay e n → e *ℤ (direction k).n -ℤ n *ℤ (direction k).e ≡ pos 0 → (e ≡ pos 0) × (n ≡ pos 0))
    → (p q : Coords) → IsPlace p → IsPlace q → toward p q (direction k) ≡ pos 0 → p ≡ q
slanted k zeros p q h i z =
    let both = zeros (q.e -ℤ p.e) (q.n -ℤ p.n) (way p q h i) z in
    same_coords p q (equal p.e q.e both.0) (equal p.n q.n both.1)

slanted0 : (p q : Coords) → IsPlace p → IsPlace q → toward p q (direction 0) ≡ pos 0 → p ≡ q
slanted0 = slanted 0 (λ e n h z. (omega (arith, ints, h.west, h.east, z), omega (arith, ints, h.west, h.east, z)))

slanted1 : (p q : Coords) → IsPlace p → IsPlace q → toward p q (direction 1) ≡ pos 0 → p ≡ q
slanted1 = slanted 1 (λ e n h z. (omega (arith, ints, h.west, h.east, z), omega (arith, ints, h.west, h.east, z)))

slanted2 : (p q : Coords) → IsPlace p → IsPlace q → toward p q (direction 2) ≡ pos 0 → p ≡ q
slanted2 = slanted 2 (λ e n h z. (omega (arith, ints, h.south, h.north, z), omega (arith, ints, h.south, h.north, z)))

straight : {P : Type 0} (s w : ℤ) → IsSigned s w → s ≡ pos 0 → (w ≡ pos 0 → P) → P
straight s w h e flat = by_sign w (λ lt. absurd (never-flat s (h.right lt) e)) (λ gt. absurd (never-level s (h.left gt) e)) flat

-- the side of two places and a far corner
toward-is : (p q : Coords) (k : ℕ) → IsPlace p → IsPlace q → k < 3 → int_cmp (side p q (corner_at (Far k))) (pos 0) ≡ side_toward k (q.e -ℤ p.e) (q.n -ℤ p.n)
toward-is p q zero h k lt =
    cmp_signed (side p q f0) (toward p q (direction 0)) (by_direction p q (direction 0) h k (slanted0 p q h k))
    ∙ cmp_first (toward p q (direction 0)) (neg_ℤ (q.n -ℤ p.n)) (q.e -ℤ p.e) (table0 (q.e -ℤ p.e) (q.n -ℤ p.n) (toward p q (direction 0)) (way p q h k) refl)
toward-is p q (suc zero) h k lt =
    cmp_signed (side p q f1) (toward p q (direction 1)) (by_direction p q (direction 1) h k (slanted1 p q h k))
    ∙ cmp_first (toward p q (direction 1)) ((q.e -ℤ p.e) +ℤ (q.n -ℤ p.n)) (q.e -ℤ p.e) (table1 (q.e -ℤ p.e) (q.n -ℤ p.n) (toward p q (direction 1)) (way p q h k) refl)
toward-is p q (suc (suc zero)) h k lt =
    cmp_signed (side p q f2) (toward p q (direction 2)) (by_direction p q (direction 2) h k (slanted2 p q h k))
    ∙ cmp_first (toward p q (direction 2)) (neg_ℤ (q.e -ℤ p.e)) (q.n -ℤ p.n) (table2 (q.e -ℤ p.e) (q.n -ℤ p.n) (toward p q (direction 2)) (way p q h k) refl)
toward-is p q (suc (suc (suc k))) h i lt = absurd (omega (arith, lt))

-- two places that see a far corner straight ahead are one
pub toward-flat : (p q : Coords) (k : ℕ) → IsPlace p → IsPlace q → k < 3 → side p q (corner_at (Far k)) ≡ pos 0 → p ≡ q
toward-flat p q zero h k lt e = straight (side p q f0) (toward p q (direction 0)) (by_direction p q (direction 0) h k (slanted0 p q h k)) e (slanted0 p q h k)
toward-flat p q (suc zero) h k lt e = straight (side p q f1) (toward p q (direction 1)) (by_direction p q (direction 1) h k (slanted1 p q h k)) e (slanted1 p q h k)
toward-flat p q (suc (suc zero)) h k lt e = straight (side p q f2) (toward p q (direction 2)) (by_direction p q (direction 2) h k (slanted2 p q h k)) e (slanted2 p q h k)
toward-flat p q (suc (suc (suc k))) h i lt e = absurd (omega (arith, lt))

-- a far corner to the left of the way from p to q lies in a direction to its left
positive-sign : (s w : ℤ) → IsSigned s w → pos 0 <ℤ s → pos 0 <ℤ w
positive-sign s w h gt = by_sign w (λ lt. absurd (never-both s gt (h.right lt))) (λ left. left) (λ e. absurd (never-level s gt (h.flat e)))

toward-left : (p q : Coords) (k : ℕ) → IsPlace p → IsPlace q → k < 3 → pos 0 <ℤ side p q (corner_at (Far k)) → pos 0 <ℤ toward p q (direction k)
toward-left p q zero h k lt = positive-sign (side p q f0) (toward p q (direction 0)) (by_direction p q (direction 0) h k (slanted0 p q h k))
toward-left p q (suc zero) h k lt = positive-sign (side p q f1) (toward p q (direction 1)) (by_direction p q (direction 1) h k (slanted1 p q h k))
toward-left p q (suc (suc zero)) h k lt = positive-sign (side p q f2) (toward p q (direction 2)) (by_direction p q (direction 2) h k (slanted2 p q h k))
toward-left p q (suc (suc (suc k))) h i lt = absurd (omega (arith, lt))

-- it lies farther to the left than any place
farther_by : (m : ℤ) (p q r d : Coords) → side p q (record { e = m *ℤ d.e; n = m *ℤ d.n }) -ℤ side p q r ≡ toward p q d *ℤ m -ℤ near p q r
unfolding side
farther_by m p q r d =
    ring (p.e ∷ p.n ∷ q.e ∷ q.n ∷ d.e ∷ d.n ∷ m ∷ r.e ∷ r.n ∷ [])
    (((var 2 ⊖ var 0) ⊗ (var 6 ⊗ var 5 ⊖ var 1) ⊖ (var 3 ⊖ var 1) ⊗ (var 6 ⊗ var 4 ⊖ var 0)) ⊖ ((var 2 ⊖ var 0) ⊗ (var 8 ⊖ var 1) ⊖ (var 3 ⊖ var 1) ⊗ (var 7 ⊖ var 0)))
    (((var 2 ⊖ var 0) ⊗ var 5 ⊖ (var 3 ⊖ var 1) ⊗ var 4) ⊗ var 6 ⊖ ((var 2 ⊖ var 0) ⊗ var 8 ⊖ (var 3 ⊖ var 1) ⊗ var 7)) refl

pub farther : (p q r : Coords) (k : ℕ) → IsPlace p → IsPlace q → IsPlace r → k < 3 → pos 0 <ℤ side p q (corner_at (Far k)) → side p q r <ℤ side p q (corner_at (Far k))
farther p q r k hp hq hr lt left =
    more (side p q (corner_at (Far k))) (side p q r) (toward p q (direction k) *ℤ pos far) (near p q r) (farther_by (pos far) p q r (direction k))
    (outweighs (toward p q (direction k)) (near p q r) far (near-small p q r hp hq hr) (toward-left p q k hp hq lt left))
  where
    more : (s t w x : ℤ) → s -ℤ t ≡ w -ℤ x → x <ℤ w → t <ℤ s
    more s t w x e h = omega (arith, ints, e, h)

-- ---- two far corners and any other corner
-- z is neither of the far corners i and j
pub record IsOther (i j : ℕ) (z : Corner) : Type 0 where
  pub not_i : z ≡ Far i → ⊥
  pub not_j : z ≡ Far j → ⊥

left01 : (z : Corner) → IsValid z → IsOther 0 1 z → pos 0 <ℤ side f0 f1 (corner_at z)
left01 z (Place p h) o = far-side01 p h
left01 z Far0 o = absurd (o.not_i refl)
left01 z Far1 o = absurd (o.not_j refl)
left01 z Far2 o = far-turned

left12 : (z : Corner) → IsValid z → IsOther 1 2 z → pos 0 <ℤ side f1 f2 (corner_at z)
left12 z (Place p h) o = far-side12 p h
left12 z Far0 o = positive-along (side f1 f2 f0) (side f0 f1 f2) (sym (side-turned f0 f1 f2)) far-turned
left12 z Far1 o = absurd (o.not_i refl)
left12 z Far2 o = absurd (o.not_j refl)

left20 : (z : Corner) → IsValid z → IsOther 2 0 z → pos 0 <ℤ side f2 f0 (corner_at z)
left20 z (Place p h) o = far-side20 p h
left20 z Far0 o = absurd (o.not_j refl)
left20 z Far1 o = positive-along (side f2 f0 f1) (side f0 f1 f2) (side-turned f2 f0 f1) far-turned
left20 z Far2 o = absurd (o.not_i refl)

turned_back : (i j : ℕ) (z : Corner) → IsOther i j z → IsOther j i z
turned_back i j z o = record { not_i = o.not_j; not_j = o.not_i }

backwards : (a b z : Coords) → pos 0 <ℤ side b a z → int_cmp (side a b z) (pos 0) ≡ Less
backwards a b z h = cmp_less (side a b z) (negative-neg (side b a z) (side a b z) (side-back b a z) h)

around-is : (i j : ℕ) (z : Corner) → IsValid z → i < 3 → j < 3 → IsOther i j z → int_cmp (side (corner_at (Far i)) (corner_at (Far j)) (corner_at z)) (pos 0) ≡ side_around i j
around-is zero zero z v h k o = cmp_equal (side f0 f0 (corner_at z)) (flat_ab f0 f0 (corner_at z) refl)
around-is zero (suc zero) z v h k o = cmp_greater (side f0 f1 (corner_at z)) (left01 z v o)
around-is zero (suc (suc zero)) z v h k o = backwards f0 f2 (corner_at z) (left20 z v (turned_back 0 2 z o))
around-is (suc zero) zero z v h k o = backwards f1 f0 (corner_at z) (left01 z v (turned_back 1 0 z o))
around-is (suc zero) (suc zero) z v h k o = cmp_equal (side f1 f1 (corner_at z)) (flat_ab f1 f1 (corner_at z) refl)
around-is (suc zero) (suc (suc zero)) z v h k o = cmp_greater (side f1 f2 (corner_at z)) (left12 z v o)
around-is (suc (suc zero)) zero z v h k o = cmp_greater (side f2 f0 (corner_at z)) (left20 z v o)
around-is (suc (suc zero)) (suc zero) z v h k o = backwards f2 f1 (corner_at z) (left12 z v (turned_back 2 1 z o))
around-is (suc (suc zero)) (suc (suc zero)) z v h k o = cmp_equal (side f2 f2 (corner_at z)) (flat_ab f2 f2 (corner_at z) refl)
around-is (suc (suc (suc i))) j z v h k o = absurd (omega (arith, h))
around-is i (suc (suc (suc j))) z v h k o = absurd (omega (arith, k))

-- far corners that see another straight ahead are one
pub around-flat : (i j : ℕ) (z : Corner) → IsValid z → i < 3 → j < 3 → IsOther i j z → side (corner_at (Far i)) (corner_at (Far j)) (corner_at z) ≡ pos 0 → i ≡ j
around-flat i j z v h k o e = by (nat_eq i j) refl
  where
    never : (s : Bool) → Equal ≡ cond s Greater Less → ⊥
    never true e = cc
    never false e = cc

    by : (t : Bool) → nat_eq i j ≡ t → i ≡ j
    by true t = eqb-true i j t
    by false t = absurd (never (nat_eq j ((i + 1) % 3))
        (sym (cmp_equal (side (corner_at (Far i)) (corner_at (Far j)) (corner_at z)) e) ∙ around-is i j z v h k o
        ∙ ap (λ s. cond s Equal (cond (nat_eq j ((i + 1) % 3)) Greater Less)) t))

-- ---- two corners and a far one
pub valid-of : (z : Corner) → IsKnown z → IsValid z
valid-of (At p) h = Place p h
valid-of (Far zero) h = Far0
valid-of (Far (suc zero)) h = Far1
valid-of (Far (suc (suc zero))) h = Far2
valid-of (Far (suc (suc (suc k)))) h = absurd (omega (arith, h))

pub place_other : (i j : ℕ) (p : Coords) → IsOther i j (At p)
place_other i j p = record { not_i = λ e. cc; not_j = λ e. cc }

pub with-is : (a b : Corner) (k : ℕ) → IsKnown a → IsKnown b → k < 3 → int_cmp (corner_side a b (Far k)) (pos 0) ≡ side_with a b k
with-is (At p) (At q) k ha hb lt = toward-is p q k ha hb lt
with-is (At p) (Far j) k ha hb lt =
    ap (λ t. int_cmp t (pos 0)) (side-turned p (corner_at (Far j)) (corner_at (Far k))) ∙ around-is j k (At p) (Place p ha) hb lt (place_other j k p)
with-is (Far i) (At q) k ha hb lt =
    ap (λ t. int_cmp t (pos 0)) (side-turned (corner_at (Far i)) q (corner_at (Far k)) ∙ side-turned q (corner_at (Far k)) (corner_at (Far i))) ∙ around-is k i (At q) (Place q hb) lt ha (place_other k i q)
with-is (Far i) (Far j) k ha hb lt = by (nat_eq i k) (nat_eq j k) refl refl
  where
    flat : int_cmp (corner_side (Far i) (Far j) (Far k)) (pos 0) ≡ Equal → (nat_eq i k || nat_eq j k) ≡ true → int_cmp (corner_side (Far i) (Far j) (Far k)) (pos 0) ≡ side_with (Far i) (Far j) k
    flat e t = e ∙ sym (ap (λ s. cond s Equal (side_around i j)) t)

    apart : (m n : ℕ) → nat_eq m n ≡ false → Far n ≡ Far m → ⊥
    apart m n e f =
        let same : m ≡ n = cc in
        eqb-false m n e same

    by : (s t : Bool) → nat_eq i k ≡ s → nat_eq j k ≡ t → int_cmp (corner_side (Far i) (Far j) (Far k)) (pos 0) ≡ side_with (Far i) (Far j) k
    by true t e f = flat (cmp_equal (corner_side (Far i) (Far j) (Far k)) (flat_ca (corner_at (Far i)) (corner_at (Far j)) (corner_at (Far k)) (ap (λ m. corner_at (Far m)) (sym (eqb-true i k e))))) (ap (λ s. s || nat_eq j k) e)
    by false true e f = flat (cmp_equal (corner_side (Far i) (Far j) (Far k)) (flat_bc (corner_at (Far i)) (corner_at (Far j)) (corner_at (Far k)) (ap (λ m. corner_at (Far m)) (eqb-true j k f)))) (λ n. e n || f n)
    by false false e f =
        around-is i j (Far k) (valid-of (Far k) lt) ha hb (record { not_i = apart i k e; not_j = apart j k f })
        ∙ sym (ap (λ s. cond s Equal (side_around i j)) (λ n. e n || f n))

-- ---- three corners on one line, of which one is far: two of them are one
pub data Flat (b c d : Corner) : Type 0 where
  Three : (p q r : Coords) → b ≡ At p → c ≡ At q → d ≡ At r → Flat b c d
  Ends : b ≡ c → Flat b c d
  AtEnd : (d ≡ b) ⊎ (d ≡ c) → is_between b c d ≡ false → Flat b c d

pub flat : (b c d : Corner) → IsKnown b → IsKnown c → IsKnown d → corner_side b c d ≡ pos 0 → Flat b c d
flat (At p) (At q) (At r) hb hc hd e = Three p q r refl refl refl
flat (At p) (At q) (Far k) hb hc hd e = Ends (ap At (toward-flat p q k hb hc hd e))
flat (At p) (Far j) (At r) hb hc hd e = AtEnd (inl (ap At (toward-flat r p j hd hb hc (side-turned r p (corner_at (Far j)) ∙ e)))) refl
flat (Far i) (At q) (At r) hb hc hd e = AtEnd (inr (ap At (sym (toward-flat q r i hc hd hb (sym (side-turned (corner_at (Far i)) q r) ∙ e))))) refl
flat (At p) (Far j) (Far k) hb hc hd e = AtEnd (inr (ap Far (sym (around-flat j k (At p) (Place p hb) hc hd (place_other j k p) (sym (side-turned p (corner_at (Far j)) (corner_at (Far k))) ∙ e))))) refl
flat (Far i) (At q) (Far k) hb hc hd e = AtEnd (inl (ap Far (around-flat k i (At q) (Place q hc) hd hb (place_other k i q) (side-turned (corner_at (Far k)) (corner_at (Far i)) q ∙ e)))) refl
flat (Far i) (Far j) (At r) hb hc hd e = Ends (ap Far (around-flat i j (At r) (Place r hd) hb hc (place_other i j r) e))
flat (Far i) (Far j) (Far k) hb hc hd e = by (nat_eq i k) (nat_eq j k) refl refl
  where
    apart : (m n : ℕ) → nat_eq m n ≡ false → Far n ≡ Far m → ⊥
    apart m n e f =
        let same : m ≡ n = cc in
        eqb-false m n e same

    by : (s t : Bool) → nat_eq i k ≡ s → nat_eq j k ≡ t → Flat (Far i) (Far j) (Far k)
    by true t f g = AtEnd (inl (ap Far (sym (eqb-true i k f)))) refl
    by false true f g = AtEnd (inr (ap Far (sym (eqb-true j k g)))) refl
    by false false f g = Ends (ap Far (around-flat i j (Far k) (valid-of (Far k) hd) hb hc (record { not_i = apart i k f; not_j = apart j k g }) e))

-- ---- whichever corner is the far one
pub with-last : (a b c : Corner) (k : ℕ) → IsKnown a → IsKnown b → IsKnown c → c ≡ Far k → side_with a b k ≡ int_cmp (corner_side a b c) (pos 0)
with-last a b c k ha hb hc e = sym (ap (λ z. int_cmp (corner_side a b z) (pos 0)) e ∙ with-is a b k ha hb (subst IsKnown e hc))

pub with-second : (a b c : Corner) (k : ℕ) → IsKnown a → IsKnown b → IsKnown c → b ≡ Far k → side_with c a k ≡ int_cmp (corner_side a b c) (pos 0)
with-second a b c k ha hb hc e = with-last c a b k hc ha hb e ∙ ap (λ s. int_cmp s (pos 0)) (side-turned (corner_at c) (corner_at a) (corner_at b))

pub with-first : (a b c : Corner) (k : ℕ) → IsKnown a → IsKnown b → IsKnown c → a ≡ Far k → side_with b c k ≡ int_cmp (corner_side a b c) (pos 0)
with-first a b c k ha hb hc e = with-last b c a k hb hc ha e ∙ sym (ap (λ s. int_cmp s (pos 0)) (side-turned (corner_at a) (corner_at b) (corner_at c)))
