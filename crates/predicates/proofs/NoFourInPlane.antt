-- No lifted corner lies in the plane of three others.
use Rattle.std.proofs.Common.{◌≡◌, ℕ, zero, suc, ◌+◌, ◌*◌, ◌^◌, ◌≤◌, ◌<◌, ◌⊎◌, inl, inr, refl, sym, ap, ◌∙◌, arith, true}
use Rattle.std.specs.Prelude.{ℤ, pos, negsuc, ◌+ℤ◌, ◌-ℤ◌, ◌*ℤ◌, ◌<ℤ◌, unsigned_abs, IsTrue}
use Rattle.std.specs.declared.cmp.Ordering.{Ordering}
use Rattle.std.specs.declared.cmp.Ordering.TheVariants.{Less, Equal, Greater}
use Rattle.std.specs.Ordering.{MatchOrdering, is_gt}
use Rattle.std.proofs.lemmas.Cmp.{int_ranked}
use Rattle.std.proofs.lemmas.Int.{ints, unsigned_abs-mul}
use Rattle.ground_model.specs.declared.corner.Corner.{Corner}
use Rattle.ground_model.specs.declared.corner.Corner.TheVariants.{At, Far}
use Rattle.ground_model.specs.Place.{Coords, IsPlace}
use Rattle.ground_model.specs.Side.{side, orientation, is_left}
use Rattle.ground_model.specs.Height.{base, top, height}
use Rattle.ground_model.specs.Corner.{corner_at, corner_side, far, far_height}
use Rattle.ground_model.proofs.ZOrder.{size-mul}
use Rattle.ground_model.proofs.Lifted.{top_is}
use Rattle.predicates.proofs.Untied.{never_ties}
use Rattle.predicates.specs.Depth.{depth}
use Rattle.predicates.proofs.FarNumbers.{outgrows, outweighed, height0_is, height1_is, height2_is}
use Rattle.predicates.proofs.Valid.{IsValid, Place, Far0, Far1, Far2}
use Rattle.predicates.proofs.HigherPlanes.{depth-turned}
use Rattle.predicates.proofs.Heights.{lift, corner_height, deep}
use Rattle.predicates.proofs.PlanesBelow.{height-size, corner-size}
use Rattle.predicates.proofs.FourApart.{FourApart, apart-turned, not_ab, not_bc, not_ca, not_collinear}
use Rattle.predicates.proofs.Signs.{never-level}

-- ---- sizes
-- more than every side of corners
abbrev pub most : ℕ
most = 2 ^ 67 * (far * far)

pub side-size : (a b c : Corner) → IsValid a → IsValid b → IsValid c → unsigned_abs (corner_side a b c) ≤ most
unfolding side
side-size a b c va vb vc =
    bounded (((corner_at b).e -ℤ (corner_at a).e) *ℤ ((corner_at c).n -ℤ (corner_at a).n)) (((corner_at b).n -ℤ (corner_at a).n) *ℤ ((corner_at c).e -ℤ (corner_at a).e)) far
    (size-mul ((corner_at b).e -ℤ (corner_at a).e) ((corner_at c).n -ℤ (corner_at a).n) (2 ^ 33 * far) (2 ^ 33 * far) (gap (corner_at b).e (corner_at a).e far (corner-size b vb).0 (corner-size a va).0) (gap (corner_at c).n (corner_at a).n far (corner-size c vc).1 (corner-size a va).1))
    (size-mul ((corner_at b).n -ℤ (corner_at a).n) ((corner_at c).e -ℤ (corner_at a).e) (2 ^ 33 * far) (2 ^ 33 * far) (gap (corner_at b).n (corner_at a).n far (corner-size b vb).1 (corner-size a va).1) (gap (corner_at c).e (corner_at a).e far (corner-size c vc).0 (corner-size a va).0))
  where
    gap : (x y : ℤ) (f : ℕ) → unsigned_abs x ≤ 2 ^ 32 * f → unsigned_abs y ≤ 2 ^ 32 * f → unsigned_abs (x -ℤ y) ≤ 2 ^ 33 * f
    gap x y f h k = omega (arith, ints, h, k)

    bounded : (x y : ℤ) (f : ℕ) → unsigned_abs x ≤ 2 ^ 33 * f * (2 ^ 33 * f) → unsigned_abs y ≤ 2 ^ 33 * f * (2 ^ 33 * f) → unsigned_abs (x -ℤ y) ≤ 2 ^ 67 * (f * f)
    bounded x y f h k = omega (arith, ints, h, k)

-- a multiple of something large is large, unless it is zero
pub too-large : (big : ℕ) (h x : ℤ) → h ≡ pos big → (x ≡ pos 0 → ⊥) → big ≤ unsigned_abs (h *ℤ x)
too-large big h x e some = by (unsigned_abs x) (unsigned_abs (h *ℤ x)) (unsigned_abs-mul h x ∙ ap (λ k. unsigned_abs k * unsigned_abs x) e) (positive x some)
  where
    positive : (x : ℤ) → (x ≡ pos 0 → ⊥) → 1 ≤ unsigned_abs x
    positive (pos zero) some = absurd (some refl)
    positive (pos (suc n)) some = omega arith
    positive (negsuc n) some = omega arith

    by : (m z : ℕ) → z ≡ big * m → 1 ≤ m → big ≤ z
    by zero z e h = absurd (omega (arith, h))
    by (suc m) z e h = omega (arith, e)

-- ---- the highest of four corners decides
-- the corner is the highest, or its height is this at most
abbrev AtMost : Corner → ℕ → Corner → Type 0
AtMost f m z = (z ≡ f) ⊎ (unsigned_abs (corner_height z) ≤ m)

lower : (f : Corner) (m : ℕ) (z : Corner) → AtMost f m z → (z ≡ f → ⊥) → unsigned_abs (corner_height z) ≤ m
lower f m z (inl e) h = absurd (h e)
lower f m z (inr l) h = l

record AllAtMost (f : Corner) (m : ℕ) (a b c d : Corner) : Type 0 where
  a_at : AtMost f m a
  b_at : AtMost f m b
  c_at : AtMost f m c
  d_at : AtMost f m d

record NoneIs (f a b c d : Corner) : Type 0 where
  a_not : a ≡ f → ⊥
  b_not : b ≡ f → ⊥
  c_not : c ≡ f → ⊥
  d_not : d ≡ f → ⊥

record NoneFlat (a b c d : Corner) : Type 0 where
  bc : corner_side b c d ≡ pos 0 → ⊥
  ca : corner_side c a d ≡ pos 0 → ⊥
  ab : corner_side a b d ≡ pos 0 → ⊥

none_highest : (f : Corner) (big m : ℕ) (a b c d : Corner) → corner_height f ≡ pos big → 3 * (m * most) < big → FourApart a b c d → NoneFlat a b c d → deep a b c d ≡ pos 0 → AllAtMost f m a b c d → NoneIs f a b c d
unfolding depth
none_highest f big m a b c d high less r n level l = record {
  a_not = λ e. at_first (corner_height a *ℤ corner_side b c d) (corner_height b *ℤ corner_side c a d) (corner_height c *ℤ corner_side a b d) (corner_height d *ℤ corner_side a b c) big (m * most) level
      (too-large big (corner_height a) (corner_side b c d) (ap corner_height e ∙ high) n.bc)
      (small b (corner_side c a d) l.b_at (λ k. not_ab a b c d r (e ∙ sym k)) size_ca) (small c (corner_side a b d) l.c_at (λ k. not_ca a b c d r (k ∙ sym e)) size_ab) (small d (corner_side a b c) l.d_at (λ k. r.not_a (k ∙ sym e)) size_abc) less;
  b_not = λ e. at_second (corner_height a *ℤ corner_side b c d) (corner_height b *ℤ corner_side c a d) (corner_height c *ℤ corner_side a b d) (corner_height d *ℤ corner_side a b c) big (m * most) level
      (too-large big (corner_height b) (corner_side c a d) (ap corner_height e ∙ high) n.ca)
      (small a (corner_side b c d) l.a_at (λ k. not_ab a b c d r (k ∙ sym e)) size_bc) (small c (corner_side a b d) l.c_at (λ k. not_bc a b c d r (e ∙ sym k)) size_ab) (small d (corner_side a b c) l.d_at (λ k. r.not_b (k ∙ sym e)) size_abc) less;
  c_not = λ e. at_third (corner_height a *ℤ corner_side b c d) (corner_height b *ℤ corner_side c a d) (corner_height c *ℤ corner_side a b d) (corner_height d *ℤ corner_side a b c) big (m * most) level
      (too-large big (corner_height c) (corner_side a b d) (ap corner_height e ∙ high) n.ab)
      (small a (corner_side b c d) l.a_at (λ k. not_ca a b c d r (e ∙ sym k)) size_bc) (small b (corner_side c a d) l.b_at (λ k. not_bc a b c d r (k ∙ sym e)) size_ca) (small d (corner_side a b c) l.d_at (λ k. r.not_c (k ∙ sym e)) size_abc) less;
  d_not = λ e. at_fourth (corner_height a *ℤ corner_side b c d) (corner_height b *ℤ corner_side c a d) (corner_height c *ℤ corner_side a b d) (corner_height d *ℤ corner_side a b c) big (m * most) level
      (too-large big (corner_height d) (corner_side a b c) (ap corner_height e ∙ high) (never-level (corner_side a b c) r.turned))
      (small a (corner_side b c d) l.a_at (λ k. r.not_a (e ∙ sym k)) size_bc) (small b (corner_side c a d) l.b_at (λ k. r.not_b (e ∙ sym k)) size_ca) (small c (corner_side a b d) l.c_at (λ k. r.not_c (e ∙ sym k)) size_ab) less;
}
  where
    small : (z : Corner) (x : ℤ) → AtMost f m z → (z ≡ f → ⊥) → unsigned_abs x ≤ most → unsigned_abs (corner_height z *ℤ x) ≤ m * most
    small z x at not size = size-mul (corner_height z) x m most (lower f m z at not) size

    size_bc : unsigned_abs (corner_side b c d) ≤ most
    size_bc = side-size b c d r.b_in r.c_in r.d_in

    size_ca : unsigned_abs (corner_side c a d) ≤ most
    size_ca = side-size c a d r.c_in r.a_in r.d_in

    size_ab : unsigned_abs (corner_side a b d) ≤ most
    size_ab = side-size a b d r.a_in r.b_in r.d_in

    size_abc : unsigned_abs (corner_side a b c) ≤ most
    size_abc = side-size a b c r.a_in r.b_in r.c_in

    at_first : (p q s t : ℤ) (big n : ℕ) → p +ℤ q +ℤ s -ℤ t ≡ pos 0 → big ≤ unsigned_abs p → unsigned_abs q ≤ n → unsigned_abs s ≤ n → unsigned_abs t ≤ n → 3 * n < big → ⊥
    at_first p q s t big n e h i j k lt = omega (arith, ints, e, h, i, j, k, lt)

    at_second : (p q s t : ℤ) (big n : ℕ) → p +ℤ q +ℤ s -ℤ t ≡ pos 0 → big ≤ unsigned_abs q → unsigned_abs p ≤ n → unsigned_abs s ≤ n → unsigned_abs t ≤ n → 3 * n < big → ⊥
    at_second p q s t big n e h i j k lt = omega (arith, ints, e, h, i, j, k, lt)

    at_third : (p q s t : ℤ) (big n : ℕ) → p +ℤ q +ℤ s -ℤ t ≡ pos 0 → big ≤ unsigned_abs s → unsigned_abs p ≤ n → unsigned_abs q ≤ n → unsigned_abs t ≤ n → 3 * n < big → ⊥
    at_third p q s t big n e h i j k lt = omega (arith, ints, e, h, i, j, k, lt)

    at_fourth : (p q s t : ℤ) (big n : ℕ) → p +ℤ q +ℤ s -ℤ t ≡ pos 0 → big ≤ unsigned_abs t → unsigned_abs p ≤ n → unsigned_abs q ≤ n → unsigned_abs s ≤ n → 3 * n < big → ⊥
    at_fourth p q s t big n e h i j k lt = omega (arith, ints, e, h, i, j, k, lt)

-- ---- the heights of corners, by the highest
pub at-most : (h m n : ℕ) → h ≡ m → 2 ^ 120 * m < n → unsigned_abs (pos h) ≤ n
at-most h m n e lt = omega (arith, e, lt)

-- the height of a place
pub place-height : (p : Coords) → IsPlace p → unsigned_abs (height p) ≤ base ^ (2 * top)
place-height p h = by (unsigned_abs (height p)) (base ^ top) (base ^ (2 * top)) (height-size p h) (outgrows top (2 * top) (omega (arith, top_is)))
  where
    by : (x s w : ℕ) → x ≤ 2 ^ 60 * s → 2 ^ 120 * s < w → x ≤ w
    by x s w h k = omega (arith, h, k)

pub place-below : (p : Coords) (j : ℕ) → IsPlace p → 2 * top + 2 ≤ j → unsigned_abs (height p) ≤ base ^ j
place-below p j h le = by (unsigned_abs (height p)) (base ^ (2 * top)) (base ^ j) (place-height p h) (outgrows (2 * top) j le)
  where
    by : (x s w : ℕ) → x ≤ s → 2 ^ 120 * s < w → x ≤ w
    by x s w h k = omega (arith, h, k)

at0 : (z : Corner) → IsValid z → AtMost (Far 0) (base ^ (16 * top)) z
at0 z (Place p h) = inr (place-below p (16 * top) h (omega (arith, top_is)))
at0 z Far0 = inl refl
at0 z Far1 = inr (omega (arith, height1_is))
at0 z Far2 = inr (at-most (far_height 2) (base ^ (8 * top)) (base ^ (16 * top)) height2_is (outgrows (8 * top) (16 * top) (omega (arith, top_is))))

at1 : (z : Corner) → IsValid z → (z ≡ Far 0 → ⊥) → AtMost (Far 1) (base ^ (8 * top)) z
at1 z (Place p h) not0 = inr (place-below p (8 * top) h (omega (arith, top_is)))
at1 z Far0 not0 = absurd (not0 refl)
at1 z Far1 not0 = inl refl
at1 z Far2 not0 = inr (omega (arith, height2_is))

at2 : (z : Corner) → IsValid z → (z ≡ Far 0 → ⊥) → (z ≡ Far 1 → ⊥) → AtMost (Far 2) (base ^ (2 * top)) z
at2 z (Place p h) not0 not1 = inr (place-height p h)
at2 z Far0 not0 not1 = absurd (not0 refl)
at2 z Far1 not0 not1 = absurd (not1 refl)
at2 z Far2 not0 not1 = inl refl

-- ---- four places
pub is_left-from : (a b c : Coords) → pos 0 <ℤ side a b c → IsTrue (is_left a b c)
is_left-from a b c h = by (orientation a b c) (int_ranked (side a b c) (pos 0) (orientation a b c) refl)
  where
    no_both : (s : ℤ) → s <ℤ pos 0 → pos 0 <ℤ s → ⊥
    no_both s h k = omega (arith, ints, h, k)

    by : (o : Ordering) → MatchOrdering o (side a b c <ℤ pos 0) (side a b c ≡ pos 0) (pos 0 <ℤ side a b c) → is_gt o ≡ true
    by Less m = absurd (no_both (side a b c) m h)
    by Equal m = absurd (never-level (side a b c) h m)
    by Greater m = refl

of_places : (a b c d : Coords) → IsPlace a → IsPlace b → IsPlace c → IsPlace d → FourApart (At a) (At b) (At c) (At d) → deep (At a) (At b) (At c) (At d) ≡ pos 0 → ⊥
unfolding depth
of_places a b c d ha hb hc hd f level =
    never_ties a b c d (record { a_in = ha; b_in = hb; c_in = hc; d_in = hd }) (is_left-from a b c f.turned)
    (record { not_a = λ e. f.not_a (ap At e); not_b = λ e. f.not_b (ap At e); not_c = λ e. f.not_c (ap At e) })
    (moved (height a *ℤ side b c d +ℤ height b *ℤ side c a d +ℤ height c *ℤ side a b d) (height d *ℤ side a b c) level)
  where
    moved : (x y : ℤ) → x -ℤ y ≡ pos 0 → y ≡ x
    moved x y e = omega (arith, ints, e)

record NoneFar (a b c d : Corner) : Type 0 where
  not0 : NoneIs (Far 0) a b c d
  not1 : NoneIs (Far 1) a b c d
  not2 : NoneIs (Far 2) a b c d

four_places : (a b c d : Corner) → FourApart a b c d → deep a b c d ≡ pos 0 → NoneFar a b c d → ⊥
four_places a b c d f level n = by a b c d f.a_in f.b_in f.c_in f.d_in f level n
  where
    by : (a b c d : Corner) → IsValid a → IsValid b → IsValid c → IsValid d → FourApart a b c d → deep a b c d ≡ pos 0 → NoneFar a b c d → ⊥
    by a b c d (Place p h) (Place q i) (Place r j) (Place s k) f level n = of_places p q r s h i j k f level
    by a b c d Far0 vb vc vd f level n = n.not0.a_not refl
    by a b c d Far1 vb vc vd f level n = n.not1.a_not refl
    by a b c d Far2 vb vc vd f level n = n.not2.a_not refl
    by a b c d va Far0 vc vd f level n = n.not0.b_not refl
    by a b c d va Far1 vc vd f level n = n.not1.b_not refl
    by a b c d va Far2 vc vd f level n = n.not2.b_not refl
    by a b c d va vb Far0 vd f level n = n.not0.c_not refl
    by a b c d va vb Far1 vd f level n = n.not1.c_not refl
    by a b c d va vb Far2 vd f level n = n.not2.c_not refl
    by a b c d va vb vc Far0 f level n = n.not0.d_not refl
    by a b c d va vb vc Far1 f level n = n.not1.d_not refl
    by a b c d va vb vc Far2 f level n = n.not2.d_not refl

-- no lifted corner lies in the plane of three others
pub not_flat : (a b c d : Corner) → FourApart a b c d → deep a b c d ≡ pos 0 → ⊥
not_flat a b c d f level = four_places a b c d f level (record { not0 = none0; not1 = none1; not2 = none2 })
  where
    flats : NoneFlat a b c d
    flats = record {
      bc = not_collinear a b c d f level;
      ca = not_collinear b c a d (apart-turned a b c d f) (sym (depth-turned (lift a) (lift b) (lift c) (lift d)) ∙ level);
      ab = not_collinear c a b d (apart-turned b c a d (apart-turned a b c d f)) (depth-turned (lift c) (lift a) (lift b) (lift d) ∙ level);
    }

    none0 : NoneIs (Far 0) a b c d
    none0 = none_highest (Far 0) (far_height 0) (base ^ (16 * top)) a b c d refl (below (3 * (base ^ (16 * top) * most)) (base ^ (24 * top)) (far_height 0) height0_is (outweighed (16 * top) (24 * top) (omega (arith, top_is)))) f flats level
        (record { a_at = at0 a f.a_in; b_at = at0 b f.b_in; c_at = at0 c f.c_in; d_at = at0 d f.d_in })
      where
        below : (x y z : ℕ) → z ≡ y → x < y → x < z
        below x y z e h = omega (arith, e, h)

    none1 : NoneIs (Far 1) a b c d
    none1 = none_highest (Far 1) (far_height 1) (base ^ (8 * top)) a b c d refl (below (3 * (base ^ (8 * top) * most)) (base ^ (16 * top)) (far_height 1) height1_is (outweighed (8 * top) (16 * top) (omega (arith, top_is)))) f flats level
        (record { a_at = at1 a f.a_in none0.a_not; b_at = at1 b f.b_in none0.b_not; c_at = at1 c f.c_in none0.c_not; d_at = at1 d f.d_in none0.d_not })
      where
        below : (x y z : ℕ) → z ≡ y → x < y → x < z
        below x y z e h = omega (arith, e, h)

    none2 : NoneIs (Far 2) a b c d
    none2 = none_highest (Far 2) (far_height 2) (base ^ (2 * top)) a b c d refl (below (3 * (base ^ (2 * top) * most)) (base ^ (8 * top)) (far_height 2) height2_is (outweighed (2 * top) (8 * top) (omega (arith, top_is)))) f flats level
        (record { a_at = at2 a f.a_in none0.a_not none1.a_not; b_at = at2 b f.b_in none0.b_not none1.b_not; c_at = at2 c f.c_in none0.c_not none1.c_not; d_at = at2 d f.d_in none0.d_not none1.d_not })
      where
        below : (x y z : ℕ) → z ≡ y → x < y → x < z
        below x y z e h = omega (arith, e, h)
