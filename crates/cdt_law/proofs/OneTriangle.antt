-- Two good triangles that have a point strictly inside in common are one.
use Rattle.std.proofs.Common.{◌≡◌, ◌⊎◌, inl, inr, refl, sym, ap, subst, ◌∙◌, arith, Bool, true, false}
use Rattle.std.specs.Prelude.{ℤ, pos, neg_ℤ, ◌+ℤ◌, ◌*ℤ◌, ◌<ℤ◌, ◌≤ℤ◌}
use Rattle.std.proofs.lemmas.Int.{ints, by_lt_z}
use Rattle.ground_model.specs.declared.corner.Corner.{Corner}
use Rattle.ground_model.specs.declared.corner.Corner.TheVariants.{At}
use Rattle.ground_model.specs.Place.{Coords}
use Rattle.ground_model.specs.Line.{is_point}
use Rattle.ground_model.specs.Corner.{corner_at, corner_side, is_same_corner}
use Rattle.ground_model.proofs.Circle.{side-turned}
use Rattle.predicates.specs.Net.{Triangle}
use Rattle.predicates.specs.Weighted.{Weighted, weighted_side}
use Rattle.predicates.proofs.Signs.{mul-mixed, mul-negative, never-level, weaken}
use Rattle.predicates.proofs.Edges.{corner-equal, corner-self}
use Rattle.predicates.proofs.Heights.{lift, deep}
use Rattle.predicates.proofs.Nudged.{Inside}
use Rattle.predicates.proofs.Valid.{IsValid}
use Rattle.predicates.proofs.Owners.{IsTurn, Still, Once, Twice}
use Rattle.predicates.proofs.HasTriangles.{turn-moved}
use Rattle.predicates.proofs.NoFourInPlane.{not_flat}
use Rattle.cdt_law.proofs.SixDepths.{weighed}
use Rattle.cdt_law.proofs.GoodTriangle.{Site, IsSite, IsGood, good-turned, inside-turned, no_deep}
use Rattle.predicates.proofs.FlatSides.{flat_ab, flat_bc, flat_ca, side-back}

-- the corner is a point
pub record PointAt (s : Site) (z : Corner) : Type 0 where
  pub place : Coords
  pub is : z ≡ At place
  pub at : is_point s.points place ≡ true

-- each of three corners is a point, if it lies below the plane of a, b, c
pub record ArePoints (s : Site) (a b c p q r : Corner) : Type 0 where
  pub first : pos 0 <ℤ deep a b c p → PointAt s p
  pub second : pos 0 <ℤ deep a b c q → PointAt s q
  pub third : pos 0 <ℤ deep a b c r → PointAt s r

-- ---- none of the six depths is positive
not_deep : (s : Site) → IsSite s → (a b c p q r : Corner) → IsGood s a b c → IsGood s p q r → (x : Weighted) → Inside (corner_at a) (corner_at b) (corner_at c) x → Inside (corner_at p) (corner_at q) (corner_at r) x
    → (pos 0 <ℤ deep a b c p → PointAt s p) → deep a b c p ≤ℤ pos 0
not_deep s site a b c p q r first second x in1 in2 point =
    by_lt_z (pos 0) (deep a b c p) (λ lt. absurd (by (point lt) lt)) (λ le. le)
  where
    by : PointAt s p → pos 0 <ℤ deep a b c p → ⊥
    by z lt = no_deep s site a b c z.place q r first (subst (λ (k : Corner). IsGood s k q r) z.is second) x in1 (subst (λ (k : Corner). Inside (corner_at k) (corner_at q) (corner_at r) x) z.is in2) z.at (subst (λ (k : Corner). pos 0 <ℤ deep a b c k) z.is lt)

record NoneDeep (a b c p q r : Corner) : Type 0 where
  first : deep a b c p ≤ℤ pos 0
  second : deep a b c q ≤ℤ pos 0
  third : deep a b c r ≤ℤ pos 0

none_deep : (s : Site) → IsSite s → (a b c p q r : Corner) → IsGood s a b c → IsGood s p q r → (x : Weighted) → Inside (corner_at a) (corner_at b) (corner_at c) x → Inside (corner_at p) (corner_at q) (corner_at r) x
    → ArePoints s a b c p q r → NoneDeep a b c p q r
none_deep s site a b c p q r first second x in1 in2 points = record {
  first = not_deep s site a b c p q r first second x in1 in2 points.first;
  second = not_deep s site a b c q r p first (good-turned s p q r second) x in1 (inside-turned (corner_at p) (corner_at q) (corner_at r) x in2) points.second;
  third = not_deep s site a b c r p q first (good-turned s q r p (good-turned s p q r second)) x in1 (inside-turned (corner_at q) (corner_at r) (corner_at p) x (inside-turned (corner_at p) (corner_at q) (corner_at r) x in2)) points.third;
}

-- ---- so all are zero
record AllLevel (a b c p q r : Corner) : Type 0 where
  first : deep a b c p ≡ pos 0
  second : deep a b c q ≡ pos 0
  third : deep a b c r ≡ pos 0

all_level : (a b c p q r : Corner) (x : Weighted) → Inside (corner_at a) (corner_at b) (corner_at c) x → Inside (corner_at p) (corner_at q) (corner_at r) x
    → NoneDeep a b c p q r → NoneDeep p q r a b c → AllLevel a b c p q r
all_level a b c p q r x in1 in2 n m = record {
  first = level (w q r) (deep a b c p) in2.bc n.first (λ lt. first-lost (w q r *ℤ deep a b c p) (w r p *ℤ deep a b c q) (w p q *ℤ deep a b c r) (w b c *ℤ deep p q r a) (w c a *ℤ deep p q r b) (w a b *ℤ deep p q r c) balance lt (down (w r p) (deep a b c q) in2.ca n.second) (down (w p q) (deep a b c r) in2.ab n.third) da db dc);
  second = level (w r p) (deep a b c q) in2.ca n.second (λ lt. second-lost (w q r *ℤ deep a b c p) (w r p *ℤ deep a b c q) (w p q *ℤ deep a b c r) (w b c *ℤ deep p q r a) (w c a *ℤ deep p q r b) (w a b *ℤ deep p q r c) balance (down (w q r) (deep a b c p) in2.bc n.first) lt (down (w p q) (deep a b c r) in2.ab n.third) da db dc);
  third = level (w p q) (deep a b c r) in2.ab n.third (λ lt. third-lost (w q r *ℤ deep a b c p) (w r p *ℤ deep a b c q) (w p q *ℤ deep a b c r) (w b c *ℤ deep p q r a) (w c a *ℤ deep p q r b) (w a b *ℤ deep p q r c) balance (down (w q r) (deep a b c p) in2.bc n.first) (down (w r p) (deep a b c q) in2.ca n.second) lt da db dc);
}
  where
    w : Corner → Corner → ℤ
    w y z = weighted_side (corner_at y) (corner_at z) x

    balance : w q r *ℤ deep a b c p +ℤ w r p *ℤ deep a b c q +ℤ w p q *ℤ deep a b c r +ℤ w b c *ℤ deep p q r a +ℤ w c a *ℤ deep p q r b +ℤ w a b *ℤ deep p q r c ≡ pos 0
    balance = weighed (lift a) (lift b) (lift c) (lift p) (lift q) (lift r) x

    down : (f d : ℤ) → pos 0 <ℤ f → d ≤ℤ pos 0 → (f *ℤ d) ≤ℤ pos 0
    down f d h k = mul-mixed f d (weaken f h) k

    da : (w b c *ℤ deep p q r a) ≤ℤ pos 0
    da = down (w b c) (deep p q r a) in1.bc m.first

    db : (w c a *ℤ deep p q r b) ≤ℤ pos 0
    db = down (w c a) (deep p q r b) in1.ca m.second

    dc : (w a b *ℤ deep p q r c) ≤ℤ pos 0
    dc = down (w a b) (deep p q r c) in1.ab m.third

    level : (f d : ℤ) → pos 0 <ℤ f → d ≤ℤ pos 0 → ((f *ℤ d) <ℤ pos 0 → ⊥) → d ≡ pos 0
    level f d h le lost = by_lt_z d (pos 0) (λ lt. absurd (lost (mul-negative f d h lt))) (λ ge. omega (arith, ints, le, ge))

    first-lost : (y1 y2 y3 y4 y5 y6 : ℤ) → y1 +ℤ y2 +ℤ y3 +ℤ y4 +ℤ y5 +ℤ y6 ≡ pos 0 → y1 <ℤ pos 0 → y2 ≤ℤ pos 0 → y3 ≤ℤ pos 0 → y4 ≤ℤ pos 0 → y5 ≤ℤ pos 0 → y6 ≤ℤ pos 0 → ⊥
    first-lost y1 y2 y3 y4 y5 y6 e h1 h2 h3 h4 h5 h6 = omega (arith, ints, e, h1, h2, h3, h4, h5, h6)

    second-lost : (y1 y2 y3 y4 y5 y6 : ℤ) → y1 +ℤ y2 +ℤ y3 +ℤ y4 +ℤ y5 +ℤ y6 ≡ pos 0 → y1 ≤ℤ pos 0 → y2 <ℤ pos 0 → y3 ≤ℤ pos 0 → y4 ≤ℤ pos 0 → y5 ≤ℤ pos 0 → y6 ≤ℤ pos 0 → ⊥
    second-lost y1 y2 y3 y4 y5 y6 e h1 h2 h3 h4 h5 h6 = omega (arith, ints, e, h1, h2, h3, h4, h5, h6)

    third-lost : (y1 y2 y3 y4 y5 y6 : ℤ) → y1 +ℤ y2 +ℤ y3 +ℤ y4 +ℤ y5 +ℤ y6 ≡ pos 0 → y1 ≤ℤ pos 0 → y2 ≤ℤ pos 0 → y3 <ℤ pos 0 → y4 ≤ℤ pos 0 → y5 ≤ℤ pos 0 → y6 ≤ℤ pos 0 → ⊥
    third-lost y1 y2 y3 y4 y5 y6 e h1 h2 h3 h4 h5 h6 = omega (arith, ints, e, h1, h2, h3, h4, h5, h6)

-- ---- a corner in the plane of a good triangle is a corner of it
one_of : (s : Site) (a b c z : Corner) → IsGood s a b c → IsValid z → deep a b c z ≡ pos 0 → (z ≡ a) ⊎ ((z ≡ b) ⊎ (z ≡ c))
one_of s a b c z g v level = by (is_same_corner z a) (is_same_corner z b) (is_same_corner z c) refl refl refl
  where
    differ : (y : Corner) → is_same_corner z y ≡ false → z ≡ y → ⊥
    differ y f e = let t : is_same_corner z y ≡ true = sym (ap (is_same_corner z) e) ∙ corner-self z in cc

    by : (i j k : Bool) → is_same_corner z a ≡ i → is_same_corner z b ≡ j → is_same_corner z c ≡ k → (z ≡ a) ⊎ ((z ≡ b) ⊎ (z ≡ c))
    by true j k e f h = inl (corner-equal z a e)
    by false true k e f h = inr (inl (corner-equal z b f))
    by false false true e f h = inr (inr (corner-equal z c h))
    by false false false e f h = absurd (not_flat a b c z (record { a_in = g.all_in.a_in; b_in = g.all_in.b_in; c_in = g.all_in.c_in; d_in = v; turned = g.turned; not_a = differ a e; not_b = differ b f; not_c = differ c h }) level)

-- three corners that turn as a, b, c do, and are among these, are a turn of them
assigned : (a b c p q r : Corner) → pos 0 <ℤ corner_side a b c → pos 0 <ℤ corner_side p q r → (p ≡ a) ⊎ ((p ≡ b) ⊎ (p ≡ c)) → (q ≡ a) ⊎ ((q ≡ b) ⊎ (q ≡ c)) → (r ≡ a) ⊎ ((r ≡ b) ⊎ (r ≡ c)) → IsTurn (record { a = a; b = b; c = c }) p q r
assigned a b c p q r turned1 turned2 ip iq ir = by ip iq ir
  where
    t : Triangle
    t = record { a = a; b = b; c = c }

    pq : p ≡ q → ⊥
    pq e = never-level (corner_side p q r) turned2 (flat_ab (corner_at p) (corner_at q) (corner_at r) (ap corner_at e))

    qr : q ≡ r → ⊥
    qr e = never-level (corner_side p q r) turned2 (flat_bc (corner_at p) (corner_at q) (corner_at r) (ap corner_at e))

    rp : r ≡ p → ⊥
    rp e = never-level (corner_side p q r) turned2 (flat_ca (corner_at p) (corner_at q) (corner_at r) (ap corner_at e))

    opposite : (y z : ℤ) → z ≡ neg_ℤ y → pos 0 <ℤ y → pos 0 <ℤ z → ⊥
    opposite y z e h k = omega (arith, ints, e, h, k)

    odd : corner_side p q r ≡ corner_side b a c → ⊥
    odd e = opposite (corner_side a b c) (corner_side p q r) (e ∙ side-back (corner_at a) (corner_at b) (corner_at c)) turned1 turned2

    sides : (x y z : Corner) → p ≡ x → q ≡ y → r ≡ z → corner_side p q r ≡ corner_side x y z
    sides x y z e f g = λ i. corner_side (e i) (f i) (g i)

    by : (p ≡ a) ⊎ ((p ≡ b) ⊎ (p ≡ c)) → (q ≡ a) ⊎ ((q ≡ b) ⊎ (q ≡ c)) → (r ≡ a) ⊎ ((r ≡ b) ⊎ (r ≡ c)) → IsTurn t p q r
    by (inl e) (inl f) g = absurd (pq (e ∙ sym f))
    by (inl e) (inr (inl f)) (inl g) = absurd (rp (g ∙ sym e))
    by (inl e) (inr (inl f)) (inr (inl g)) = absurd (qr (f ∙ sym g))
    by (inl e) (inr (inl f)) (inr (inr g)) = turn-moved t a p b q c r Still (sym e) (sym f) (sym g)
    by (inl e) (inr (inr f)) (inl g) = absurd (rp (g ∙ sym e))
    by (inl e) (inr (inr f)) (inr (inl g)) = absurd (odd (sides a c b e f g ∙ sym (side-turned (corner_at b) (corner_at a) (corner_at c))))
    by (inl e) (inr (inr f)) (inr (inr g)) = absurd (qr (f ∙ sym g))
    by (inr (inl e)) (inr (inl f)) g = absurd (pq (e ∙ sym f))
    by (inr (inl e)) (inl f) (inl g) = absurd (qr (f ∙ sym g))
    by (inr (inl e)) (inl f) (inr (inl g)) = absurd (rp (g ∙ sym e))
    by (inr (inl e)) (inl f) (inr (inr g)) = absurd (odd (sides b a c e f g))
    by (inr (inl e)) (inr (inr f)) (inl g) = turn-moved t b p c q a r Once (sym e) (sym f) (sym g)
    by (inr (inl e)) (inr (inr f)) (inr (inl g)) = absurd (rp (g ∙ sym e))
    by (inr (inl e)) (inr (inr f)) (inr (inr g)) = absurd (qr (f ∙ sym g))
    by (inr (inr e)) (inr (inr f)) g = absurd (pq (e ∙ sym f))
    by (inr (inr e)) (inl f) (inl g) = absurd (qr (f ∙ sym g))
    by (inr (inr e)) (inl f) (inr (inl g)) = turn-moved t c p a q b r Twice (sym e) (sym f) (sym g)
    by (inr (inr e)) (inl f) (inr (inr g)) = absurd (rp (g ∙ sym e))
    by (inr (inr e)) (inr (inl f)) (inl g) = absurd (odd (sides c b a e f g ∙ side-turned (corner_at c) (corner_at b) (corner_at a)))
    by (inr (inr e)) (inr (inl f)) (inr (inl g)) = absurd (qr (f ∙ sym g))
    by (inr (inr e)) (inr (inl f)) (inr (inr g)) = absurd (rp (g ∙ sym e))

-- two good triangles over one point are turns of each other, where each corner of one that lies below the other's plane is a point
pub one_triangle : (s : Site) → IsSite s → (a b c p q r : Corner) → IsGood s a b c → IsGood s p q r → (x : Weighted) → Inside (corner_at a) (corner_at b) (corner_at c) x → Inside (corner_at p) (corner_at q) (corner_at r) x
    → ArePoints s a b c p q r → ArePoints s p q r a b c → IsTurn (record { a = a; b = b; c = c }) p q r
one_triangle s site a b c p q r first second x in1 in2 points1 points2 =
    let level = all_level a b c p q r x in1 in2 (none_deep s site a b c p q r first second x in1 in2 points1) (none_deep s site p q r a b c second first x in2 in1 points2) in
    assigned a b c p q r first.turned second.turned
    (one_of s a b c p first second.all_in.a_in level.first) (one_of s a b c q first second.all_in.b_in level.second) (one_of s a b c r first second.all_in.c_in level.third)
