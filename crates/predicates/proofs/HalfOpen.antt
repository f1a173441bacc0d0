-- Of a triangle that turns counterclockwise the crossings sum to 0 or 1, and tell whether the point lies in it.
-- All over plain numbers: na, nb, nc are the rises of the corners, la, lb, lc the sides across from them.
use Rattle.std.proofs.Common.{◌≡◌, ◌⊎◌, inl, inr, refl, subst, ◌∙◌, arith}
use Rattle.std.specs.Prelude.{ℤ, pos, ◌+ℤ◌, ◌*ℤ◌, ◌<ℤ◌, ◌≤ℤ◌, Bool, true, false}
use Rattle.std.proofs.lemmas.Int.{ints, by_lt_z}
use Rattle.ground_model.proofs.ZLaws.{mul_comm}
use Rattle.ground_model.proofs.ZOrder.{mul-positive}
use Rattle.predicates.specs.HalfOpen.{crossing_by}
use Rattle.predicates.proofs.Signs.{mul-nonneg, mul-nonpos, mul-mixed, mul-negative, never-both, never-high, never-low, weaken, weaken-neg}

-- what a hit tells of the three sides
pub record Tells (h la lb lc : ℤ) : Type 0 where
  pub is_bit : (h ≡ pos 0) ⊎ (h ≡ pos 1)
  pub inside : pos 0 <ℤ la → pos 0 <ℤ lb → pos 0 <ℤ lc → h ≡ pos 1
  pub closed : h ≡ pos 1 → (pos 0 ≤ℤ la) × (pos 0 ≤ℤ lb) × (pos 0 ≤ℤ lc)

-- the tests of a rise and of a side
pub record Above (up : Bool) (n : ℤ) : Type 0 where
  pub yes : up ≡ true → pos 0 <ℤ n
  pub no : up ≡ false → n ≤ℤ pos 0

pub record Beside (left right : Bool) (s : ℤ) : Type 0 where
  pub left_yes : left ≡ true → pos 0 <ℤ s
  pub left_no : left ≡ false → s ≤ℤ pos 0
  pub right_yes : right ≡ true → s <ℤ pos 0
  pub right_no : right ≡ false → pos 0 ≤ℤ s

-- the three sides together are positive, and the rises balance
pub record Balance (na nb nc la lb lc : ℤ) : Type 0 where
  pub some : pos 0 <ℤ (la +ℤ lb +ℤ lc)
  pub balance : la *ℤ na +ℤ lb *ℤ nb +ℤ lc *ℤ nc ≡ pos 0
  pub not_level : na ≡ pos 0 → nb ≡ pos 0 → nc ≡ pos 0 → ⊥

tells_zero : (h la lb lc : ℤ) → h ≡ pos 0 → (pos 0 <ℤ la → pos 0 <ℤ lb → pos 0 <ℤ lc → ⊥) → Tells h la lb lc
tells_zero h la lb lc e outside = record { is_bit = inl e; inside = λ a b c. absurd (outside a b c); closed = λ k. absurd (differ h e k) }
  where
    differ : (h : ℤ) → h ≡ pos 0 → h ≡ pos 1 → ⊥
    differ h e k = omega (arith, ints, e, k)

tells_one : (h la lb lc : ℤ) → h ≡ pos 1 → pos 0 ≤ℤ la → pos 0 ≤ℤ lb → pos 0 ≤ℤ lc → Tells h la lb lc
tells_one h la lb lc e a b c = record { is_bit = inr e; inside = λ _ _ _. e; closed = λ _. (a, b, c) }

-- ---- a alone lies north
-- b's side is positive where c's is negative
one_north-left : {na nb nc la lb lc : ℤ} → Balance na nb nc la lb lc → pos 0 <ℤ na → nb ≤ℤ pos 0 → nc ≤ℤ pos 0 → lc ≤ℤ pos 0 → lb ≤ℤ pos 0 → ⊥
one_north-left {na} {nb} {nc} {la} {lb} {lc} w ha hb hc kc kb =
    let ka : pos 0 <ℤ la = alone la lb lc w.some kb kc in
    none (la *ℤ na) (lb *ℤ nb) (lc *ℤ nc) w.balance (mul-positive la na ka ha) (mul-nonpos lb nb kb hb) (mul-nonpos lc nc kc hc)
  where
    alone : (x y z : ℤ) → pos 0 <ℤ (x +ℤ y +ℤ z) → y ≤ℤ pos 0 → z ≤ℤ pos 0 → pos 0 <ℤ x
    alone x y z s h k = omega (arith, ints, s, h, k)

    none : (x y z : ℤ) → x +ℤ y +ℤ z ≡ pos 0 → pos 0 <ℤ x → pos 0 ≤ℤ y → pos 0 ≤ℤ z → ⊥
    none x y z e h k l = omega (arith, ints, e, h, k, l)

one_north-closed : {na nb nc la lb lc : ℤ} → Balance na nb nc la lb lc → pos 0 <ℤ na → nb ≤ℤ pos 0 → nc ≤ℤ pos 0 → pos 0 ≤ℤ lc → pos 0 ≤ℤ lb → pos 0 ≤ℤ la
one_north-closed {na} {nb} {nc} {la} {lb} {lc} w ha hb hc kc kb =
    by_lt_z la (pos 0)
    (λ neg. absurd (none (la *ℤ na) (na *ℤ la) (lb *ℤ nb) (lc *ℤ nc) w.balance (mul_comm la na) (mul-negative na la ha neg) (mul-mixed lb nb kb hb) (mul-mixed lc nc kc hc)))
    (λ le. le)
  where
    none : (x x' y z : ℤ) → x +ℤ y +ℤ z ≡ pos 0 → x ≡ x' → x' <ℤ pos 0 → y ≤ℤ pos 0 → z ≤ℤ pos 0 → ⊥
    none x x' y z e same h k l = omega (arith, ints, e, same, h, k, l)

-- the values of the four outcomes
flat : pos 0 +ℤ pos 0 +ℤ pos 0 ≡ pos 0
flat = refl

one_north : {na nb nc la lb lc : ℤ} → Balance na nb nc la lb lc → pos 0 <ℤ na → nb ≤ℤ pos 0 → nc ≤ℤ pos 0
    → (left_a right_a left_b right_b left_c right_c : Bool) → Beside left_b right_b lb → Beside left_c right_c lc
    → Tells (crossing_by true false left_c right_c +ℤ crossing_by false false left_a right_a +ℤ crossing_by false true left_b right_b) la lb lc
one_north {na} {nb} {nc} {la} {lb} {lc} w ha hb hc left_a right_a true right_b left_c true sb sc =
    tells_zero _ la lb lc refl (λ _ _ k. never-both lc k (sc.right_yes refl))
one_north {na} {nb} {nc} {la} {lb} {lc} w ha hb hc left_a right_a false right_b left_c true sb sc =
    absurd (one_north-left w ha hb hc (weaken-neg lc (sc.right_yes refl)) (sb.left_no refl))
one_north {na} {nb} {nc} {la} {lb} {lc} w ha hb hc left_a right_a true right_b left_c false sb sc =
    let kb : pos 0 ≤ℤ lb = weaken lb (sb.left_yes refl) in
    tells_one _ la lb lc refl (one_north-closed w ha hb hc (sc.right_no refl) kb) kb (sc.right_no refl)
one_north {na} {nb} {nc} {la} {lb} {lc} w ha hb hc left_a right_a false right_b left_c false sb sc =
    tells_zero _ la lb lc refl (λ _ k _. never-low lb k (sb.left_no refl))

-- ---- a alone does not lie north
two_north-left : {na nb nc la lb lc : ℤ} → Balance na nb nc la lb lc → na ≤ℤ pos 0 → pos 0 <ℤ nb → pos 0 <ℤ nc → lb <ℤ pos 0 → lc ≤ℤ pos 0 → ⊥
two_north-left {na} {nb} {nc} {la} {lb} {lc} w ha hb hc kb kc =
    let ka : pos 0 ≤ℤ la = alone la lb lc w.some kb kc in
    none (la *ℤ na) (lb *ℤ nb) (nb *ℤ lb) (lc *ℤ nc) (nc *ℤ lc) w.balance (mul_comm lb nb) (mul_comm lc nc) (mul-mixed la na ka ha) (mul-negative nb lb hb kb) (mul-mixed nc lc (weaken nc hc) kc)
  where
    alone : (x y z : ℤ) → pos 0 <ℤ (x +ℤ y +ℤ z) → y <ℤ pos 0 → z ≤ℤ pos 0 → pos 0 ≤ℤ x
    alone x y z s h k = omega (arith, ints, s, h, k)

    none : (x y y' z z' : ℤ) → x +ℤ y +ℤ z ≡ pos 0 → y ≡ y' → z ≡ z' → x ≤ℤ pos 0 → y' <ℤ pos 0 → z' ≤ℤ pos 0 → ⊥
    none x y y' z z' e ey ez h k l = omega (arith, ints, e, ey, ez, h, k, l)

two_north-closed : {na nb nc la lb lc : ℤ} → Balance na nb nc la lb lc → na ≤ℤ pos 0 → pos 0 <ℤ nb → pos 0 <ℤ nc → pos 0 <ℤ lc → pos 0 ≤ℤ lb → pos 0 ≤ℤ la
two_north-closed {na} {nb} {nc} {la} {lb} {lc} w ha hb hc kc kb =
    by_lt_z la (pos 0)
    (λ neg. absurd (none (la *ℤ na) (lb *ℤ nb) (lc *ℤ nc) w.balance (mul-nonpos la na (weaken-neg la neg) ha) (mul-nonneg lb nb kb (weaken nb hb)) (mul-positive lc nc kc hc)))
    (λ le. le)
  where
    none : (x y z : ℤ) → x +ℤ y +ℤ z ≡ pos 0 → pos 0 ≤ℤ x → pos 0 ≤ℤ y → pos 0 <ℤ z → ⊥
    none x y z e h k l = omega (arith, ints, e, h, k, l)

two_north : {na nb nc la lb lc : ℤ} → Balance na nb nc la lb lc → na ≤ℤ pos 0 → pos 0 <ℤ nb → pos 0 <ℤ nc
    → (left_a right_a left_b right_b left_c right_c : Bool) → Beside left_b right_b lb → Beside left_c right_c lc
    → Tells (crossing_by false true left_c right_c +ℤ crossing_by true true left_a right_a +ℤ crossing_by true false left_b right_b) la lb lc
two_north {na} {nb} {nc} {la} {lb} {lc} w ha hb hc left_a right_a left_b true true right_c sb sc =
    tells_zero _ la lb lc refl (λ _ k _. never-both lb k (sb.right_yes refl))
two_north {na} {nb} {nc} {la} {lb} {lc} w ha hb hc left_a right_a left_b true false right_c sb sc =
    absurd (two_north-left w ha hb hc (sb.right_yes refl) (sc.left_no refl))
two_north {na} {nb} {nc} {la} {lb} {lc} w ha hb hc left_a right_a left_b false true right_c sb sc =
    let kc : pos 0 <ℤ lc = sc.left_yes refl in
    tells_one _ la lb lc refl (two_north-closed w ha hb hc kc (sb.right_no refl)) (sb.right_no refl) (weaken lc kc)
two_north {na} {nb} {nc} {la} {lb} {lc} w ha hb hc left_a right_a left_b false false right_c sb sc =
    tells_zero _ la lb lc refl (λ _ _ k. never-low lc k (sc.left_no refl))

-- ---- all of them, or none
all_north-outside : {na nb nc la lb lc : ℤ} → Balance na nb nc la lb lc → pos 0 <ℤ na → pos 0 <ℤ nb → pos 0 <ℤ nc → pos 0 <ℤ la → pos 0 <ℤ lb → pos 0 <ℤ lc → ⊥
all_north-outside {na} {nb} {nc} {la} {lb} {lc} w ha hb hc ka kb kc =
    none (la *ℤ na) (lb *ℤ nb) (lc *ℤ nc) w.balance (mul-positive la na ka ha) (mul-positive lb nb kb hb) (mul-positive lc nc kc hc)
  where
    none : (x y z : ℤ) → x +ℤ y +ℤ z ≡ pos 0 → pos 0 <ℤ x → pos 0 <ℤ y → pos 0 <ℤ z → ⊥
    none x y z e h k l = omega (arith, ints, e, h, k, l)

none_north-outside : {na nb nc la lb lc : ℤ} → Balance na nb nc la lb lc → na ≤ℤ pos 0 → nb ≤ℤ pos 0 → nc ≤ℤ pos 0 → pos 0 <ℤ la → pos 0 <ℤ lb → pos 0 <ℤ lc → ⊥
none_north-outside {na} {nb} {nc} {la} {lb} {lc} w ha hb hc ka kb kc =
    w.not_level (level la na ka ha (zero_x (la *ℤ na) (lb *ℤ nb) (lc *ℤ nc) w.balance pa pb pc))
    (level lb nb kb hb (zero_y (la *ℤ na) (lb *ℤ nb) (lc *ℤ nc) w.balance pa pb pc))
    (level lc nc kc hc (zero_z (la *ℤ na) (lb *ℤ nb) (lc *ℤ nc) w.balance pa pb pc))
  where
    pa : (la *ℤ na) ≤ℤ pos 0
    pa = mul-mixed la na (weaken la ka) ha

    pb : (lb *ℤ nb) ≤ℤ pos 0
    pb = mul-mixed lb nb (weaken lb kb) hb

    pc : (lc *ℤ nc) ≤ℤ pos 0
    pc = mul-mixed lc nc (weaken lc kc) hc

    zero_x : (x y z : ℤ) → x +ℤ y +ℤ z ≡ pos 0 → x ≤ℤ pos 0 → y ≤ℤ pos 0 → z ≤ℤ pos 0 → pos 0 ≤ℤ x
    zero_x x y z e h k l = omega (arith, ints, e, h, k, l)

    zero_y : (x y z : ℤ) → x +ℤ y +ℤ z ≡ pos 0 → x ≤ℤ pos 0 → y ≤ℤ pos 0 → z ≤ℤ pos 0 → pos 0 ≤ℤ y
    zero_y x y z e h k l = omega (arith, ints, e, h, k, l)

    zero_z : (x y z : ℤ) → x +ℤ y +ℤ z ≡ pos 0 → x ≤ℤ pos 0 → y ≤ℤ pos 0 → z ≤ℤ pos 0 → pos 0 ≤ℤ z
    zero_z x y z e h k l = omega (arith, ints, e, h, k, l)

    level : (l n : ℤ) → pos 0 <ℤ l → n ≤ℤ pos 0 → pos 0 ≤ℤ (l *ℤ n) → n ≡ pos 0
    level l n h k p = by_lt_z n (pos 0) (λ neg. absurd (never-high (l *ℤ n) p (mul-negative l n h neg))) (λ ge. both n ge k)
      where
        both : (x : ℤ) → pos 0 ≤ℤ x → x ≤ℤ pos 0 → x ≡ pos 0
        both x h k = omega (arith, ints, h, k)

-- ---- turning the corners
Balance-turned : {na nb nc la lb lc : ℤ} → Balance na nb nc la lb lc → Balance nb nc na lb lc la
Balance-turned {na} {nb} {nc} {la} {lb} {lc} w =
    record { some = more la lb lc w.some; balance = turned (la *ℤ na) (lb *ℤ nb) (lc *ℤ nc) ∙ w.balance; not_level = λ hb hc ha. w.not_level ha hb hc }
  where
    more : (x y z : ℤ) → pos 0 <ℤ (x +ℤ y +ℤ z) → pos 0 <ℤ (y +ℤ z +ℤ x)
    more x y z h = omega (arith, ints, h)

    turned : (x y z : ℤ) → y +ℤ z +ℤ x ≡ x +ℤ y +ℤ z
    turned x y z = omega (arith, ints)

Tells-turned : (x y z : ℤ) {la lb lc : ℤ} → Tells (y +ℤ z +ℤ x) lb lc la → Tells (x +ℤ y +ℤ z) la lb lc
Tells-turned x y z {la} {lb} {lc} t =
    let e : y +ℤ z +ℤ x ≡ x +ℤ y +ℤ z = omega (arith, ints) in
    subst (λ (h : ℤ). Tells h la lb lc) e
    record { is_bit = t.is_bit; inside = λ a b c. t.inside b c a; closed = λ h. let all = t.closed h in (all.2, all.0, all.1) }

-- the sum of the three crossings tells of the three sides
pub hit_tells : {na nb nc la lb lc : ℤ} → Balance na nb nc la lb lc
    → (ua ub uc left_a right_a left_b right_b left_c right_c : Bool)
    → Above ua na → Above ub nb → Above uc nc → Beside left_a right_a la → Beside left_b right_b lb → Beside left_c right_c lc
    → Tells (crossing_by ua ub left_c right_c +ℤ crossing_by ub uc left_a right_a +ℤ crossing_by uc ua left_b right_b) la lb lc
hit_tells {na} {nb} {nc} {la} {lb} {lc} w true true true al ar bl br cl cr ha hb hc sa sb sc =
    tells_zero _ la lb lc refl (all_north-outside w (ha.yes refl) (hb.yes refl) (hc.yes refl))
hit_tells {na} {nb} {nc} {la} {lb} {lc} w false false false al ar bl br cl cr ha hb hc sa sb sc =
    tells_zero _ la lb lc refl (none_north-outside w (ha.no refl) (hb.no refl) (hc.no refl))
hit_tells w true false false al ar bl br cl cr ha hb hc sa sb sc =
    one_north w (ha.yes refl) (hb.no refl) (hc.no refl) al ar bl br cl cr sb sc
hit_tells w false true true al ar bl br cl cr ha hb hc sa sb sc =
    two_north w (ha.no refl) (hb.yes refl) (hc.yes refl) al ar bl br cl cr sb sc
hit_tells w false true false al ar bl br cl cr ha hb hc sa sb sc =
    Tells-turned (crossing_by false true cl cr) (crossing_by true false al ar) (crossing_by false false bl br)
    (one_north (Balance-turned w) (hb.yes refl) (hc.no refl) (ha.no refl) bl br cl cr al ar sc sa)
hit_tells w true false true al ar bl br cl cr ha hb hc sa sb sc =
    Tells-turned (crossing_by true false cl cr) (crossing_by false true al ar) (crossing_by true true bl br)
    (two_north (Balance-turned w) (hb.no refl) (hc.yes refl) (ha.yes refl) bl br cl cr al ar sc sa)
hit_tells w false false true al ar bl br cl cr ha hb hc sa sb sc =
    Tells-turned (crossing_by false false cl cr) (crossing_by false true al ar) (crossing_by true false bl br)
    (Tells-turned (crossing_by false true al ar) (crossing_by true false bl br) (crossing_by false false cl cr)
    (one_north (Balance-turned (Balance-turned w)) (hc.yes refl) (ha.no refl) (hb.no refl) cl cr al ar bl br sa sb))
hit_tells w true true false al ar bl br cl cr ha hb hc sa sb sc =
    Tells-turned (crossing_by true true cl cr) (crossing_by true false al ar) (crossing_by false true bl br)
    (Tells-turned (crossing_by true false al ar) (crossing_by false true bl br) (crossing_by true true cl cr)
    (two_north (Balance-turned (Balance-turned w)) (hc.no refl) (ha.yes refl) (hb.yes refl) cl cr al ar bl br sa sb))
