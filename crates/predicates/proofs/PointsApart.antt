-- In a closed net a place that is a corner lies in no closed triangle but as a corner of it.
use Rattle.std.proofs.Common.{◌≡◌, ◌⊎◌, inl, inr, refl, sym, ap, ◌∙◌, arith, [], ◌∷◌, ⊎_elim}
use Rattle.std.specs.Prelude.{ℤ, pos, neg_ℤ, ◌+ℤ◌, ◌-ℤ◌, ◌*ℤ◌, ◌<ℤ◌, ◌≤ℤ◌}
use Rattle.std.proofs.lemmas.Int.{ints, by_lt_z}
use Rattle.ground_model.specs.declared.corner.Corner.{Corner}
use Rattle.ground_model.specs.declared.corner.Corner.TheVariants.{At}
use Rattle.ground_model.specs.Place.{Coords, IsPlace}
use Rattle.ground_model.specs.Side.{side}
use Rattle.ground_model.specs.Corner.{corner_at, corner_side}
use Rattle.ground_model.proofs.ZOrder.{mul-positive, mul-eq-zero}
use Rattle.ground_model.proofs.Ring.{var, ◌⊕◌, ◌⊖◌, ◌⊗◌, ring}
use Rattle.ground_model.proofs.Circle.{sideE, side-turned, same_coords}
use Rattle.predicates.specs.Net.{Net}
use Rattle.predicates.specs.Sheet.{IsClosed}
use Rattle.predicates.proofs.Signs.{mul-mixed, never-level, positive-along, positive-neg, weaken}
use Rattle.predicates.proofs.FlatSides.{flat_bc, flat_ca, side-back}
use Rattle.predicates.proofs.FarSides.{f0, f1, f2, far-side01, far-side12, far-side20}
use Rattle.predicates.proofs.Valid.{IsValid, Place, Far0, Far1, Far2}
use Rattle.predicates.proofs.FarTriangle.{closed-valid}
use Rattle.predicates.proofs.Owners.{Owner, owner-times, closed-behind, IsFarEdge, From0, From1, From2}
use Rattle.predicates.proofs.NearCorners.{InNet, in-turned, in-side, Corners, turn-corners, times-zero, zero-times, Left, met, member, OnEdge, towards}

-- ---- y and z are not both on the line of an edge on which p lies
mixed : (f g p y z c : Coords) → side p y z *ℤ side f g c ≡ side y z c *ℤ side f g p +ℤ side z p c *ℤ side f g y +ℤ side p y c *ℤ side f g z
unfolding side
mixed f g p y z c =
    ring (f.e ∷ f.n ∷ g.e ∷ g.n ∷ p.e ∷ p.n ∷ y.e ∷ y.n ∷ z.e ∷ z.n ∷ c.e ∷ c.n ∷ [])
    (sideE 2 3 4 ⊗ sideE 0 1 5) (sideE 3 4 5 ⊗ sideE 0 1 2 ⊕ sideE 4 2 5 ⊗ sideE 0 1 3 ⊕ sideE 2 3 5 ⊗ sideE 0 1 4) refl

not_flat : (a b c p y z : Coords) → pos 0 <ℤ side p y z → pos 0 <ℤ side a b c → side a b p ≡ pos 0 → side a b y ≡ pos 0 → side a b z ≡ pos 0 → ⊥
not_flat a b c p y z turned left at_p at_y at_z =
    sum (side p y z *ℤ side a b c) (side y z c *ℤ side a b p) (side z p c *ℤ side a b y) (side p y c *ℤ side a b z) (mixed a b p y z c) (mul-positive (side p y z) (side a b c) turned left)
    (times-zero (side y z c) (side a b p) at_p) (times-zero (side z p c) (side a b y) at_y) (times-zero (side p y c) (side a b z) at_z)
  where
    sum : (s x y z : ℤ) → s ≡ x +ℤ y +ℤ z → pos 0 <ℤ s → x ≡ pos 0 → y ≡ pos 0 → z ≡ pos 0 → ⊥
    sum s x y z e h f g k = omega (arith, ints, e, h, f, g, k)

-- ---- p is on an edge: in its triangle, or in the one behind
no_far_edge : (a b : Corner) (p : Coords) → IsPlace p → IsFarEdge a b → corner_side a b (At p) ≡ pos 0 → ⊥
no_far_edge a b p h From0 e = never-level (side f0 f1 p) (far-side01 p h) e
no_far_edge a b p h From1 e = never-level (side f1 f2 p) (far-side12 p h) e
no_far_edge a b p h From2 e = never-level (side f2 f0 p) (far-side20 p h) e

on-edge : (net : Net) → IsClosed net → (p : Coords) → IsPlace p → (y z a b c : Corner) (s : InNet net (At p) y z) (t : InNet net a b c) → OnEdge a b c p → (At p ≡ a) ⊎ ((At p ≡ b) ⊎ (At p ≡ c))
on-edge net closed p hp y z a b c s t on = by_lt_z (pos 0) (corner_side a b y)
    (λ lt. towards net closed p y z a b c s t on (inl lt))
    (λ le_y. by_lt_z (pos 0) (corner_side a b z)
    (λ lt. towards net closed p y z a b c s t on (inr lt))
    (λ le_z. behind (closed-behind net closed a b (owner-times net.triangles t.triangle t.index a b c t.at t.turn)) (back le_y le_z)))
  where
    turned : pos 0 <ℤ corner_side a b c
    turned = in-side net closed a b c t

    up : (u : Corner) → corner_side a b u <ℤ pos 0 → pos 0 <ℤ corner_side b a u
    up u h = positive-neg (corner_side a b u) (corner_side b a u) (side-back (corner_at a) (corner_at b) (corner_at u)) h

    zero : (x : ℤ) → x ≤ℤ pos 0 → pos 0 ≤ℤ x → x ≡ pos 0
    zero x h k = omega (arith, ints, h, k)

    back : corner_side a b y ≤ℤ pos 0 → corner_side a b z ≤ℤ pos 0 → (pos 0 <ℤ corner_side b a y) ⊎ (pos 0 <ℤ corner_side b a z)
    back le_y le_z = by_lt_z (corner_side a b y) (pos 0) (λ lt. inl (up y lt))
        (λ ge_y. by_lt_z (corner_side a b z) (pos 0) (λ lt. inr (up z lt))
        (λ ge_z. absurd (not_flat (corner_at a) (corner_at b) (corner_at c) p (corner_at y) (corner_at z) (in-side net closed (At p) y z s) turned on.flat (zero (corner_side a b y) le_y ge_y) (zero (corner_side a b z) le_z ge_z))))

    behind : Owner net.triangles b a ⊎ IsFarEdge a b → (pos 0 <ℤ corner_side b a y) ⊎ (pos 0 <ℤ corner_side b a z) → (At p ≡ a) ⊎ ((At p ≡ b) ⊎ (At p ≡ c))
    behind (inr f) h = absurd (no_far_edge a b p hp f on.flat)
    behind (inl o) h = moved (towards net closed p y z b a o.third s u on_u h)
      where
        u : InNet net b a o.third
        u = record { index = o.index; triangle = o.triangle; at = o.at; turn = o.turn }

        turned_u : pos 0 <ℤ corner_side b a o.third
        turned_u = in-side net closed b a o.third u

        level : (x y : ℤ) → y ≡ neg_ℤ x → x ≡ pos 0 → y ≡ pos 0
        level x y e f = omega (arith, ints, e, f)

        flat_u : corner_side b a (At p) ≡ pos 0
        flat_u = level (corner_side a b (At p)) (corner_side b a (At p)) (side-back (corner_at a) (corner_at b) p) on.flat

        factor : (g x s t u : ℤ) → g *ℤ x ≡ s +ℤ t +ℤ u → pos 0 <ℤ g → pos 0 <ℤ (s +ℤ t +ℤ u) → pos 0 <ℤ x
        factor g x s t u e hg h = by_lt_z (pos 0) x (λ lt. lt) (λ le. absurd (clash (g *ℤ x) (s +ℤ t +ℤ u) e h (mul-mixed g x (weaken g hg) le)))
          where
            clash : (p q : ℤ) → p ≡ q → pos 0 <ℤ q → p ≤ℤ pos 0 → ⊥
            clash p q e h k = omega (arith, ints, e, h, k)

        -- p is on ab, so its side of ad is that of b, and its side of db that of a
        side_ad : pos 0 <ℤ corner_side a o.third (At p)
        side_ad = factor (corner_side a b c) (corner_side a o.third (At p)) (corner_side b c (At p) *ℤ corner_side a o.third a) (corner_side c a (At p) *ℤ corner_side a o.third b) (corner_side a b (At p) *ℤ corner_side a o.third c)
            (mixed (corner_at a) (corner_at o.third) (corner_at a) (corner_at b) (corner_at c) p) turned
            (sum (corner_side b c (At p) *ℤ corner_side a o.third a) (corner_side c a (At p) *ℤ corner_side a o.third b) (corner_side a b (At p) *ℤ corner_side a o.third c)
            (times-zero (corner_side b c (At p)) (corner_side a o.third a) (flat_ca (corner_at a) (corner_at o.third) (corner_at a) refl))
            (mul-positive (corner_side c a (At p)) (corner_side a o.third b) on.ca (positive-along (corner_side a o.third b) (corner_side b a o.third) (sym (side-turned (corner_at b) (corner_at a) (corner_at o.third))) turned_u))
            (zero-times (corner_side a b (At p)) (corner_side a o.third c) on.flat))
          where
            sum : (s t u : ℤ) → s ≡ pos 0 → pos 0 <ℤ t → u ≡ pos 0 → pos 0 <ℤ (s +ℤ t +ℤ u)
            sum s t u e h f = omega (arith, ints, e, h, f)

        side_db : pos 0 <ℤ corner_side o.third b (At p)
        side_db = factor (corner_side a b c) (corner_side o.third b (At p)) (corner_side b c (At p) *ℤ corner_side o.third b a) (corner_side c a (At p) *ℤ corner_side o.third b b) (corner_side a b (At p) *ℤ corner_side o.third b c)
            (mixed (corner_at o.third) (corner_at b) (corner_at a) (corner_at b) (corner_at c) p) turned
            (sum (corner_side b c (At p) *ℤ corner_side o.third b a) (corner_side c a (At p) *ℤ corner_side o.third b b) (corner_side a b (At p) *ℤ corner_side o.third b c)
            (mul-positive (corner_side b c (At p)) (corner_side o.third b a) on.bc (positive-along (corner_side o.third b a) (corner_side b a o.third) (side-turned (corner_at o.third) (corner_at b) (corner_at a)) turned_u))
            (times-zero (corner_side c a (At p)) (corner_side o.third b b) (flat_bc (corner_at o.third) (corner_at b) (corner_at b) refl))
            (zero-times (corner_side a b (At p)) (corner_side o.third b c) on.flat))
          where
            sum : (s t u : ℤ) → pos 0 <ℤ s → t ≡ pos 0 → u ≡ pos 0 → pos 0 <ℤ (s +ℤ t +ℤ u)
            sum s t u h e f = omega (arith, ints, h, e, f)

        on_u : OnEdge b a o.third p
        on_u = record { flat = flat_u; bc = side_ad; ca = side_db }

        moved : (At p ≡ b) ⊎ ((At p ≡ a) ⊎ (At p ≡ o.third)) → (At p ≡ a) ⊎ ((At p ≡ b) ⊎ (At p ≡ c))
        moved (inl e) = inr (inl e)
        moved (inr (inl e)) = inl e
        moved (inr (inr e)) = absurd (never-level (corner_side b a o.third) turned_u (ap (corner_side b a) (sym e) ∙ flat_u))

-- ---- p is on two edges: it is their corner
pub place-corner : (z : Corner) (p : Coords) → IsValid z → IsPlace p → p ≡ corner_at z → At p ≡ z
place-corner z p (Place q h) hp e = ap At e
place-corner z p Far0 hp e = absurd (never-level (side f0 f1 p) (far-side01 p hp) (flat_ca f0 f1 p e))
place-corner z p Far1 hp e = absurd (never-level (side f0 f1 p) (far-side01 p hp) (flat_bc f0 f1 p (sym e)))
place-corner z p Far2 hp e = absurd (never-level (side f1 f2 p) (far-side12 p hp) (flat_bc f1 f2 p (sym e)))

east-of : (a b c p : Coords) → side a b c *ℤ (p.e -ℤ a.e) ≡ side a b p *ℤ (c.e -ℤ a.e) +ℤ side c a p *ℤ (b.e -ℤ a.e)
unfolding side
east-of a b c p = ring (a.e ∷ a.n ∷ b.e ∷ b.n ∷ c.e ∷ c.n ∷ p.e ∷ p.n ∷ []) (sideE 0 1 2 ⊗ (var 6 ⊖ var 0)) (sideE 0 1 3 ⊗ (var 4 ⊖ var 0) ⊕ sideE 2 0 3 ⊗ (var 2 ⊖ var 0)) refl

north-of : (a b c p : Coords) → side a b c *ℤ (p.n -ℤ a.n) ≡ side a b p *ℤ (c.n -ℤ a.n) +ℤ side c a p *ℤ (b.n -ℤ a.n)
unfolding side
north-of a b c p = ring (a.e ∷ a.n ∷ b.e ∷ b.n ∷ c.e ∷ c.n ∷ p.e ∷ p.n ∷ []) (sideE 0 1 2 ⊗ (var 7 ⊖ var 1)) (sideE 0 1 3 ⊗ (var 5 ⊖ var 1) ⊕ sideE 2 0 3 ⊗ (var 3 ⊖ var 1)) refl

pub at-corner : (a b c p : Coords) → pos 0 <ℤ side a b c → side a b p ≡ pos 0 → side c a p ≡ pos 0 → p ≡ a
at-corner a b c p turned ab ca =
    same_coords p a (same p.e a.e (side a b c) (side a b p *ℤ (c.e -ℤ a.e)) (side c a p *ℤ (b.e -ℤ a.e)) (east-of a b c p) turned (zero-times (side a b p) (c.e -ℤ a.e) ab) (zero-times (side c a p) (b.e -ℤ a.e) ca))
    (same p.n a.n (side a b c) (side a b p *ℤ (c.n -ℤ a.n)) (side c a p *ℤ (b.n -ℤ a.n)) (north-of a b c p) turned (zero-times (side a b p) (c.n -ℤ a.n) ab) (zero-times (side c a p) (b.n -ℤ a.n) ca))
  where
    same : (x y v s t : ℤ) → v *ℤ (x -ℤ y) ≡ s +ℤ t → pos 0 <ℤ v → s ≡ pos 0 → t ≡ pos 0 → x ≡ y
    same x y v s t e h f g = ⊎_elim (λ z. absurd (never-level v h z)) (λ z. equal x y z) (mul-eq-zero v (x -ℤ y) (e ∙ sum s t f g))
      where
        sum : (s t : ℤ) → s ≡ pos 0 → t ≡ pos 0 → s +ℤ t ≡ pos 0
        sum s t f g = omega (arith, ints, f, g)

        equal : (x y : ℤ) → x -ℤ y ≡ pos 0 → x ≡ y
        equal x y e = omega (arith, ints, e)

-- ---- wherever p is
pub closed-only : (net : Net) → IsClosed net → (p : Coords) → IsPlace p → (y z a b c : Corner) (s : InNet net (At p) y z) (t : InNet net a b c)
    → pos 0 ≤ℤ corner_side a b (At p) → pos 0 ≤ℤ corner_side b c (At p) → pos 0 ≤ℤ corner_side c a (At p) → (At p ≡ a) ⊎ ((At p ≡ b) ⊎ (At p ≡ c))
closed-only net closed p hp y z a b c s t ge_ab ge_bc ge_ca =
    by_lt_z (pos 0) (corner_side a b (At p))
    (λ ab. by_lt_z (pos 0) (corner_side b c (At p))
    (λ bc. by_lt_z (pos 0) (corner_side c a (At p))
    (λ ca. member net p y z a b c s t (met net closed p y z a b c s t 1 1 (omega arith) (omega arith) (Left ab) (Left bc) (Left ca)))
    (λ le_ca. back (back (on-edge net closed p hp y z c a b s (in-turned net b c a (in-turned net a b c t)) (record { flat = zero (corner_side c a (At p)) le_ca ge_ca; bc = ab; ca = bc })))))
    (λ le_bc. by_lt_z (pos 0) (corner_side c a (At p))
    (λ ca. back (on-edge net closed p hp y z b c a s (in-turned net a b c t) (record { flat = zero (corner_side b c (At p)) le_bc ge_bc; bc = ca; ca = ab })))
    (λ le_ca. inr (inr (place-corner c p v.c_in hp (at-corner (corner_at c) (corner_at a) (corner_at b) p (in-side net closed c a b (in-turned net b c a (in-turned net a b c t))) (zero (corner_side c a (At p)) le_ca ge_ca) (zero (corner_side b c (At p)) le_bc ge_bc)))))))
    (λ le_ab. by_lt_z (pos 0) (corner_side b c (At p))
    (λ bc. by_lt_z (pos 0) (corner_side c a (At p))
    (λ ca. on-edge net closed p hp y z a b c s t (record { flat = zero (corner_side a b (At p)) le_ab ge_ab; bc = bc; ca = ca }))
    (λ le_ca. inl (place-corner a p v.a_in hp (at-corner (corner_at a) (corner_at b) (corner_at c) p (in-side net closed a b c t) (zero (corner_side a b (At p)) le_ab ge_ab) (zero (corner_side c a (At p)) le_ca ge_ca)))))
    (λ le_bc. inr (inl (place-corner b p v.b_in hp (at-corner (corner_at b) (corner_at c) (corner_at a) p (in-side net closed b c a (in-turned net a b c t)) (zero (corner_side b c (At p)) le_bc ge_bc) (zero (corner_side a b (At p)) le_ab ge_ab))))))
  where
    v : Corners a b c
    v = turn-corners t.triangle a b c t.turn (closed-valid net closed t.index t.triangle t.at)

    zero : (x : ℤ) → x ≤ℤ pos 0 → pos 0 ≤ℤ x → x ≡ pos 0
    zero x h k = omega (arith, ints, h, k)

    back : {x y z : Corner} → (At p ≡ x) ⊎ ((At p ≡ y) ⊎ (At p ≡ z)) → (At p ≡ z) ⊎ ((At p ≡ x) ⊎ (At p ≡ y))
    back (inl e) = inr (inl e)
    back (inr (inl e)) = inr (inr e)
    back (inr (inr e)) = inl e
