-- A circle with far corners: the highest of the four decides what is inside.
use Rattle.std.proofs.Common.{◌≡◌, ℕ, ◌*◌, ◌≤◌, ◌<◌, ◌⊎◌, inl, inr, refl, sym, ap, subst, ◌∙◌, arith, [], ◌∷◌, Bool, true, false, ◌||◌}
use Rattle.std.specs.Prelude.{ℤ, pos, negsuc, neg_ℤ, ◌+ℤ◌, ◌-ℤ◌, ◌*ℤ◌, ◌<ℤ◌, ◌≤ℤ◌, unsigned_abs, IsTrue}
use Rattle.std.specs.Ordering.{int_cmp, is_gt}
use Rattle.std.proofs.lemmas.Int.{ints, by_lt_z}
use Rattle.std.proofs.lemmas.Bool.{or_cases}
use Rattle.ground_model.specs.declared.corner.Corner.{Corner}
use Rattle.ground_model.specs.declared.corner.Corner.TheVariants.{At, Far}
use Rattle.ground_model.specs.Place.{Coords, IsPlace}
use Rattle.ground_model.specs.Side.{side, is_left}
use Rattle.ground_model.specs.Lifted.{Lifted}
use Rattle.ground_model.specs.Corner.{corner_at, corner_side, is_corner_inside, is_same_corner}
use Rattle.ground_model.proofs.Ring.{var, num, ◌⊕◌, ◌⊖◌, ◌⊗◌, ring}
use Rattle.ground_model.proofs.ZOrder.{size-mul}
use Rattle.ground_model.proofs.Circle.{sideE, side-turned, side-parts}
use Rattle.ground_model.proofs.Ties.{turns_of_left}
use Rattle.predicates.specs.Depth.{depth}
use Rattle.predicates.specs.Far.{IsKnown, is_far, rank, is_between, is_inside_beside}
use Rattle.predicates.proofs.Compared.{by_sign, cmp_less, cmp_greater, cmp_equal}
use Rattle.predicates.proofs.Signs.{level-down, mul-at-least, never-level, positive-along, weaken-neg}
use Rattle.predicates.proofs.FlatSides.{flat_ab, flat_bc, flat_ca}
use Rattle.predicates.proofs.Valid.{IsValid, Place}
use Rattle.predicates.proofs.FarOrientations.{valid-of, Flat, Three, Ends, AtEnd, flat}
use Rattle.predicates.proofs.Edges.{corner-equal, corner-self}
use Rattle.predicates.proofs.Heights.{lift, corner_height, deep}
use Rattle.predicates.proofs.HigherPlanes.{depth-turned}
use Rattle.predicates.proofs.FourApart.{FourApart, deep_between, shallow_past_b, shallow_past_c}
use Rattle.predicates.proofs.NoFourInPlane.{most, side-size}
use Rattle.predicates.proofs.InsideDepths.{deep-inside, shallow-outside}
use Rattle.predicates.proofs.Between.{is_between-true, is_between-past_b, is_between-past_c}
use Rattle.predicates.proofs.Highest.{Highest, highest}

-- ---- four corners of which the first three turn
record Circle (a b c d : Corner) : Type 0 where
  a_in : IsValid a
  b_in : IsValid b
  c_in : IsValid c
  d_in : IsValid d
  turned : pos 0 <ℤ corner_side a b c

low : (h x : ℤ) (big : ℕ) → h ≡ pos big → x <ℤ pos 0 → (h *ℤ x) ≤ℤ neg_ℤ (pos big)
low h (pos n) big e k = absurd (omega (arith, ints, k))
low h (negsuc n) big e k = by (h *ℤ negsuc n) (ap (λ t. t *ℤ negsuc n) e)
  where
    by : (z : ℤ) → z ≡ pos big *ℤ negsuc n → z ≤ℤ neg_ℤ (pos big)
    by z e = omega (arith, ints, e)

-- ---- the first is the highest: the side of the others decides
record IsFirst (a b c d : Corner) : Type 0 where
  far : rank a < 3
  over_b : rank a < rank b
  over_c : rank a < rank c
  over_d : rank a < rank d

-- the terms of the depth but for the highest corner's
small : (a z : Corner) (x : ℤ) (o : Highest a) → IsValid z → rank a < rank z → unsigned_abs x ≤ most → unsigned_abs (corner_height z *ℤ x) ≤ o.rest * most
small a z x o v lt size = size-mul (corner_height z) x o.rest most (o.lower z v lt) size

deep_left : (a b c d : Corner) → Circle a b c d → IsFirst a b c d → pos 0 <ℤ corner_side b c d → pos 0 <ℤ deep a b c d
unfolding depth
deep_left a b c d k f left =
    let o = highest a k.a_in f.far in
    sum (corner_height a *ℤ corner_side b c d) (corner_height b *ℤ corner_side c a d) (corner_height c *ℤ corner_side a b d) (corner_height d *ℤ corner_side a b c) o.big (o.rest * most)
    (mul-at-least (corner_height a) (corner_side b c d) o.big o.high left)
    (small a b (corner_side c a d) o k.b_in f.over_b (side-size c a d k.c_in k.a_in k.d_in))
    (small a c (corner_side a b d) o k.c_in f.over_c (side-size a b d k.a_in k.b_in k.d_in))
    (small a d (corner_side a b c) o k.d_in f.over_d (side-size a b c k.a_in k.b_in k.c_in)) o.outweighs
  where
    sum : (p q s t : ℤ) (big n : ℕ) → pos big ≤ℤ p → unsigned_abs q ≤ n → unsigned_abs s ≤ n → unsigned_abs t ≤ n → 3 * n < big → pos 0 <ℤ (p +ℤ q +ℤ s -ℤ t)
    sum p q s t big n h i j k lt = omega (arith, ints, h, i, j, k, lt)

shallow_right : (a b c d : Corner) → Circle a b c d → IsFirst a b c d → corner_side b c d <ℤ pos 0 → deep a b c d <ℤ pos 0
unfolding depth
shallow_right a b c d k f right =
    let o = highest a k.a_in f.far in
    sum (corner_height a *ℤ corner_side b c d) (corner_height b *ℤ corner_side c a d) (corner_height c *ℤ corner_side a b d) (corner_height d *ℤ corner_side a b c) o.big (o.rest * most)
    (low (corner_height a) (corner_side b c d) o.big o.high right)
    (small a b (corner_side c a d) o k.b_in f.over_b (side-size c a d k.c_in k.a_in k.d_in))
    (small a c (corner_side a b d) o k.c_in f.over_c (side-size a b d k.a_in k.b_in k.d_in))
    (small a d (corner_side a b c) o k.d_in f.over_d (side-size a b c k.a_in k.b_in k.c_in)) o.outweighs
  where
    sum : (p q s t : ℤ) (big n : ℕ) → p ≤ℤ neg_ℤ (pos big) → unsigned_abs q ≤ n → unsigned_abs s ≤ n → unsigned_abs t ≤ n → 3 * n < big → (p +ℤ q +ℤ s -ℤ t) <ℤ pos 0
    sum p q s t big n h i j k lt = omega (arith, ints, h, i, j, k, lt)

-- ---- the fourth is the highest: it is above the plane
record IsLast (a b c d : Corner) : Type 0 where
  far : rank d < 3
  over_a : rank d < rank a
  over_b : rank d < rank b
  over_c : rank d < rank c

shallow_last : (a b c d : Corner) → Circle a b c d → IsLast a b c d → deep a b c d <ℤ pos 0
unfolding depth
shallow_last a b c d k f =
    let o = highest d k.d_in f.far in
    sum (corner_height a *ℤ corner_side b c d) (corner_height b *ℤ corner_side c a d) (corner_height c *ℤ corner_side a b d) (corner_height d *ℤ corner_side a b c) o.big (o.rest * most)
    (small d a (corner_side b c d) o k.a_in f.over_a (side-size b c d k.b_in k.c_in k.d_in))
    (small d b (corner_side c a d) o k.b_in f.over_b (side-size c a d k.c_in k.a_in k.d_in))
    (small d c (corner_side a b d) o k.c_in f.over_c (side-size a b d k.a_in k.b_in k.d_in))
    (mul-at-least (corner_height d) (corner_side a b c) o.big o.high k.turned) o.outweighs
  where
    sum : (p q s t : ℤ) (big n : ℕ) → unsigned_abs p ≤ n → unsigned_abs q ≤ n → unsigned_abs s ≤ n → pos big ≤ℤ t → 3 * n < big → (p +ℤ q +ℤ s -ℤ t) <ℤ pos 0
    sum p q s t big n h i j k lt = omega (arith, ints, h, i, j, k, lt)

-- ---- a corner of the circle is in its plane
depth-first : (a b c : Lifted) → depth a b c a ≡ pos 0
unfolding depth side
depth-first a b c =
    ring (a.at.e ∷ a.at.n ∷ b.at.e ∷ b.at.n ∷ c.at.e ∷ c.at.n ∷ a.height ∷ b.height ∷ c.height ∷ [])
    (var 6 ⊗ sideE 1 2 0 ⊕ var 7 ⊗ sideE 2 0 0 ⊕ var 8 ⊗ sideE 0 1 0 ⊖ var 6 ⊗ sideE 0 1 2) (num (pos 0)) refl

level_at : (a b c d : Corner) → (d ≡ a) ⊎ ((d ≡ b) ⊎ (d ≡ c)) → deep a b c d ≡ pos 0
level_at a b c d (inl e) = ap (deep a b c) e ∙ depth-first (lift a) (lift b) (lift c)
level_at a b c d (inr (inl e)) = ap (deep a b c) e ∙ depth-turned (lift a) (lift b) (lift c) (lift b) ∙ depth-first (lift b) (lift c) (lift a)
level_at a b c d (inr (inr e)) = ap (deep a b c) e ∙ sym (depth-turned (lift c) (lift a) (lift b) (lift c)) ∙ depth-first (lift c) (lift a) (lift b)

-- ---- where the first is the highest and the others are collinear
-- three places
between_decides : (a : Corner) (b c d : Coords) → Circle a (At b) (At c) (At d) → IsFirst a (At b) (At c) (At d) → side b c d ≡ pos 0 → is_corner_inside a (At b) (At c) (At d) ≡ is_between (At b) (At c) (At d)
between_decides a b c d k f flat = by_lt_z (pos 0) (side (corner_at a) b d)
    (λ left_ab. by_lt_z (pos 0) (side c (corner_at a) d)
    (λ left_ca. deep-inside a (At b) (At c) (At d) (deep_between a (At b) (At c) (At d) (apart (λ e. never-level (side (corner_at a) b d) left_ab (flat_bc (corner_at a) b d (sym (same e)))) (λ e. never-level (side c (corner_at a) d) left_ca (flat_ca c (corner_at a) d (same e)))) flat left_ab left_ca)
    ∙ sym (is_between-true (corner_at a) b c d (place b k.b_in) (place c k.c_in) (place d k.d_in) not_bc flat left_ca left_ab))
    (λ right_ca. shallow-outside a (At b) (At c) (At d) (past_c right_ca) ∙ sym (is_between-past_c (corner_at a) b c d (place b k.b_in) (place c k.c_in) (place d k.d_in) flat right_ca left_ab)))
    (λ right_ab. shallow-outside a (At b) (At c) (At d) (past_b right_ab)
    ∙ sym (is_between-past_b (corner_at a) b c d (place b k.b_in) (place c k.c_in) (place d k.d_in) flat (other (side b c d) (side c (corner_at a) d) (side (corner_at a) b d) (side (corner_at a) b c) (side-parts (corner_at a) b c d) k.turned flat right_ab) right_ab))
  where
    place : (p : Coords) → IsValid (At p) → IsPlace p
    place p (Place q h) = h

    same : {p q : Coords} → At p ≡ At q → p ≡ q
    same e = cc

    other : (s t u v : ℤ) → s +ℤ t +ℤ u ≡ v → pos 0 <ℤ v → s ≡ pos 0 → u ≤ℤ pos 0 → pos 0 <ℤ t
    other s t u v e h f k = omega (arith, ints, e, h, f, k)

    not_bc : b ≡ c → ⊥
    not_bc e = never-level (side (corner_at a) b c) k.turned (flat_bc (corner_at a) b c e)

    not_a : At d ≡ a → ⊥
    not_a e = unequal (rank a) f.far (ap rank (sym e))
      where
        unequal : (n : ℕ) → n < 3 → n ≡ 3 → ⊥
        unequal n h e = omega (arith, h, e)

    apart : (At d ≡ At b → ⊥) → (At d ≡ At c → ⊥) → FourApart a (At b) (At c) (At d)
    apart not_b not_c = record { a_in = k.a_in; b_in = k.b_in; c_in = k.c_in; d_in = k.d_in; turned = k.turned; not_a = not_a; not_b = not_b; not_c = not_c }

    past : ((At d ≡ At b → ⊥) → (At d ≡ At c → ⊥) → deep a (At b) (At c) (At d) <ℤ pos 0) → deep a (At b) (At c) (At d) ≤ℤ pos 0
    past h = by (is_same_corner (At d) (At b)) (is_same_corner (At d) (At c)) refl refl
      where
        by : (s t : Bool) → is_same_corner (At d) (At b) ≡ s → is_same_corner (At d) (At c) ≡ t → deep a (At b) (At c) (At d) ≤ℤ pos 0
        by true t e g = level-down (deep a (At b) (At c) (At d)) (level_at a (At b) (At c) (At d) (inr (inl (corner-equal (At d) (At b) e))))
        by false true e g = level-down (deep a (At b) (At c) (At d)) (level_at a (At b) (At c) (At d) (inr (inr (corner-equal (At d) (At c) g))))
        by false false e g = weaken-neg (deep a (At b) (At c) (At d)) (h (λ i. differ (sym (ap (λ z. is_same_corner z (At b)) i ∙ corner-self (At b)) ∙ e)) (λ i. differ (sym (ap (λ z. is_same_corner z (At c)) i ∙ corner-self (At c)) ∙ g)))
          where
            differ : true ≡ false → ⊥
            differ d = cc

    past_b : side (corner_at a) b d ≤ℤ pos 0 → deep a (At b) (At c) (At d) ≤ℤ pos 0
    past_b right = past (λ not_b not_c. shallow_past_b a (At b) (At c) (At d) (apart not_b not_c) flat right)

    past_c : side c (corner_at a) d ≤ℤ pos 0 → deep a (At b) (At c) (At d) ≤ℤ pos 0
    past_c right = past (λ not_b not_c. shallow_past_c a (At b) (At c) (At d) (apart not_b not_c) flat right)

-- whichever corners these are
decided : (a b c d : Corner) → IsKnown b → IsKnown c → IsKnown d → Circle a b c d → IsFirst a b c d → is_corner_inside a b c d ≡ is_inside_beside (int_cmp (corner_side b c d) (pos 0)) (is_between b c d)
decided a b c d hb hc hd k f = by_sign (corner_side b c d)
    (λ lt. shallow-outside a b c d (weaken-neg (deep a b c d) (shallow_right a b c d k f lt)) ∙ sym (ap (λ o. is_inside_beside o (is_between b c d)) (cmp_less (corner_side b c d) lt)))
    (λ gt. deep-inside a b c d (deep_left a b c d k f gt) ∙ sym (ap (λ o. is_inside_beside o (is_between b c d)) (cmp_greater (corner_side b c d) gt)))
    (λ e. on_line (flat b c d hb hc hd e) e ∙ sym (ap (λ o. is_inside_beside o (is_between b c d)) (cmp_equal (corner_side b c d) e)))
  where
    on_line : Flat b c d → corner_side b c d ≡ pos 0 → is_corner_inside a b c d ≡ is_between b c d
    on_line (Ends e) z = absurd (never-level (corner_side a b c) k.turned (flat_bc (corner_at a) (corner_at b) (corner_at c) (ap corner_at e)))
    on_line (AtEnd at out) z = shallow-outside a b c d (level-down (deep a b c d) (level_at a b c d (inr at))) ∙ sym out
    on_line (Three p q r eb ec ed) z =
        (λ i. is_corner_inside a (eb i) (ec i) (ed i))
        ∙ between_decides a p q r (subst (λ x. x) (λ i. Circle a (eb i) (ec i) (ed i)) k) (subst (λ x. x) (λ i. IsFirst a (eb i) (ec i) (ed i)) f) (subst (λ x. x) (λ i. corner_side (eb i) (ec i) (ed i) ≡ pos 0) z)
        ∙ sym (λ i. is_between (eb i) (ec i) (ed i))

-- ---- by ranks
rank_same : (a b : Corner) → rank a < 3 → rank a ≡ rank b → a ≡ b
rank_same (At p) b lt e = absurd (omega (arith, lt))
rank_same (Far i) (At q) lt e = absurd (omega (arith, lt, e))
rank_same (Far i) (Far j) lt e = ap Far e

rank_below : (a b : Corner) → rank a < 3 → rank a ≤ rank b → (a ≡ b → ⊥) → rank a < rank b
rank_below a b lt le differ = by_lt (rank a) (rank b) le (λ e. differ (rank_same a b lt e))
  where
    by_lt : (m n : ℕ) → m ≤ n → (m ≡ n → ⊥) → m < n
    by_lt m n le differ = omega (arith, le, differ)

rank_top : (z : Corner) → IsKnown z → rank z ≤ 3
rank_top (At p) h = omega arith
rank_top (Far k) h = omega (arith, h)

circle : (a b c d : Corner) → IsKnown a → IsKnown b → IsKnown c → IsKnown d → IsTrue (is_left (corner_at a) (corner_at b) (corner_at c)) → Circle a b c d
circle a b c d ha hb hc hd left = record { a_in = valid-of a ha; b_in = valid-of b hb; c_in = valid-of c hc; d_in = valid-of d hd; turned = turns_of_left (corner_at a) (corner_at b) (corner_at c) left }

-- the first is the highest, and d is lower
pub first-decides : (a b c d : Corner) → IsKnown a → IsKnown b → IsKnown c → IsKnown d → IsTrue (is_left (corner_at a) (corner_at b) (corner_at c)) → rank a < rank d → rank a ≤ rank b → rank a ≤ rank c
    → is_corner_inside a b c d ≡ is_inside_beside (int_cmp (corner_side b c d) (pos 0)) (is_between b c d)
first-decides a b c d ha hb hc hd left lt le_b le_c =
    let far : rank a < 3 = omega (arith, lt, rank_top d hd) in
    let k = circle a b c d ha hb hc hd left in
    decided a b c d hb hc hd k (record {
      far = far;
      over_b = rank_below a b far le_b (λ e. never-level (corner_side a b c) k.turned (flat_ab (corner_at a) (corner_at b) (corner_at c) (ap corner_at e)));
      over_c = rank_below a c far le_c (λ e. never-level (corner_side a b c) k.turned (flat_ca (corner_at a) (corner_at b) (corner_at c) (ap corner_at (sym e))));
      over_d = lt;
    })

-- the fourth is the highest
pub last-decides : (a b c d : Corner) → IsKnown a → IsKnown b → IsKnown c → IsKnown d → IsTrue (is_left (corner_at a) (corner_at b) (corner_at c)) → rank d < 3 → rank d ≤ rank a → rank d ≤ rank b → rank d ≤ rank c
    → is_corner_inside a b c d ≡ false
last-decides a b c d ha hb hc hd left far le_a le_b le_c = shallow-outside a b c d (by (is_same_corner d a) (is_same_corner d b) (is_same_corner d c) refl refl refl)
  where
    level : (d ≡ a) ⊎ ((d ≡ b) ⊎ (d ≡ c)) → deep a b c d ≤ℤ pos 0
    level at = level-down (deep a b c d) (level_at a b c d at)

    apart : (z : Corner) → is_same_corner d z ≡ false → d ≡ z → ⊥
    apart z e i = differ (sym (ap (λ x. is_same_corner x z) i ∙ corner-self z) ∙ e)
      where
        differ : true ≡ false → ⊥
        differ d = cc

    by : (s t u : Bool) → is_same_corner d a ≡ s → is_same_corner d b ≡ t → is_same_corner d c ≡ u → deep a b c d ≤ℤ pos 0
    by true t u e f g = level (inl (corner-equal d a e))
    by false true u e f g = level (inr (inl (corner-equal d b f)))
    by false false true e f g = level (inr (inr (corner-equal d c g)))
    by false false false e f g = weaken-neg (deep a b c d) (shallow_last a b c d (circle a b c d ha hb hc hd left) (record {
      far = far;
      over_a = rank_below d a far le_a (apart a e);
      over_b = rank_below d b far le_b (apart b f);
      over_c = rank_below d c far le_c (apart c g);
    }))

-- where one of the four is far, the highest is
rank_far : (z : Corner) → IsKnown z → is_far z ≡ true → rank z < 3
rank_far (At p) h e = cc
rank_far (Far k) h e = h

pub highest-far : (a b c d : Corner) → IsKnown a → IsKnown b → IsKnown c → IsKnown d → (is_far a || is_far b || is_far c || is_far d) ≡ true → rank d ≤ rank a → rank d ≤ rank b → rank d ≤ rank c → rank d < 3
highest-far a b c d ha hb hc hd far le_a le_b le_c = by (or_cases (is_far a || is_far b || is_far c) (is_far d) far)
  where
    one : (z : Corner) → IsKnown z → is_far z ≡ true → rank d ≤ rank z → rank d < 3
    one z h e le = omega (arith, rank_far z h e, le)

    two : (is_far a ≡ true) ⊎ (is_far b ≡ true) → rank d < 3
    two (inl e) = one a ha e le_a
    two (inr e) = one b hb e le_b

    three : ((is_far a || is_far b) ≡ true) ⊎ (is_far c ≡ true) → rank d < 3
    three (inl e) = two (or_cases (is_far a) (is_far b) e)
    three (inr e) = one c hc e le_c

    by : ((is_far a || is_far b || is_far c) ≡ true) ⊎ (is_far d ≡ true) → rank d < 3
    by (inl e) = three (or_cases (is_far a || is_far b) (is_far c) e)
    by (inr e) = rank_far d hd e

-- the corners may be turned
pub inside-turned : (a b c d : Corner) → is_corner_inside a b c d ≡ is_corner_inside b c a d
inside-turned a b c d = by_lt_z (pos 0) (deep a b c d)
    (λ gt. deep-inside a b c d gt ∙ sym (deep-inside b c a d (positive-along (deep b c a d) (deep a b c d) (sym turned) gt)))
    (λ le. shallow-outside a b c d le ∙ sym (shallow-outside b c a d (low_along (deep b c a d) (deep a b c d) (sym turned) le)))
  where
    turned : deep a b c d ≡ deep b c a d
    turned = depth-turned (lift a) (lift b) (lift c) (lift d)

    low_along : (x y : ℤ) → x ≡ y → y ≤ℤ pos 0 → x ≤ℤ pos 0
    low_along x y e h = omega (arith, ints, e, h)

pub left-turned : (a b c : Corner) → IsTrue (is_left (corner_at a) (corner_at b) (corner_at c)) → IsTrue (is_left (corner_at b) (corner_at c) (corner_at a))
left-turned a b c h = sym (ap (λ s. is_gt (int_cmp s (pos 0))) (side-turned (corner_at a) (corner_at b) (corner_at c))) ∙ h
