-- A march passes no edge that crosses its way but over it.
use Rattle.std.proofs.Common.{◌≡◌, ◌+◌, ℕ, [], ◌∷◌, refl, subst, ◌∙◌, arith}
use Rattle.std.specs.Prelude.{ℤ, pos, ◌+ℤ◌, ◌-ℤ◌, ◌*ℤ◌, ◌<ℤ◌, ◌≤ℤ◌, unsigned_abs}
use Rattle.std.proofs.lemmas.Int.{ints}
use Rattle.ground_model.specs.Place.{Coords}
use Rattle.ground_model.specs.Side.{side}
use Rattle.ground_model.proofs.Circle.{env, sideE, side-turned}
use Rattle.ground_model.proofs.Ring.{var, num, ◌⊕◌, ◌⊖◌, ◌⊗◌, ring}
use Rattle.ground_model.proofs.ZLaws.{mul_comm}
use Rattle.ground_model.proofs.ZOrder.{mul-positive}
use Rattle.predicates.specs.Weighted.{Weighted, weighted_side, once, joined, repeated}
use Rattle.predicates.proofs.FlatSides.{flat_ca}
use Rattle.predicates.proofs.Nudged.{many-left, many-within}
use Rattle.predicates.proofs.Signs.{mul-nonneg, mul-nonpos, mul-mixed, mul-negative, weaken, weaken-neg, level-up, positive-along}
use Rattle.predicates.proofs.WeightedSides.{weighted_side-once}
use Rattle.crossing_law.proofs.Numbers.{positive_by}
use Rattle.crossing_law.proofs.Ties.{norm, alongE, normE, long}
use Rattle.line_edit.specs.Ways.{width, crossing, ComesBefore}
use Rattle.line_edit.proofs.Cuts.{cut, beside, cut_side, Lies, Strictly, Towards}
use Rattle.line_edit.proofs.Ways.{over_by, times_zero}

-- ---- identities
-- p, q, c, d, l, r have numbers 0 to 5
later : (p q c d l r : Coords) → norm p q *ℤ beside p q c d l r ≡ crossing p q c d *ℤ width p q r l -ℤ crossing p q r l *ℤ width p q c d
unfolding side alongE normE
later p q c d l r = ring (env (p ∷ q ∷ c ∷ d ∷ l ∷ r ∷ []))
    (normE 0 1 ⊗ (sideE 2 3 5 ⊗ sideE 0 1 4 ⊖ sideE 2 3 4 ⊗ sideE 0 1 5))
    ((sideE 0 1 3 ⊗ alongE 0 1 2 ⊖ sideE 0 1 2 ⊗ alongE 0 1 3) ⊗ (sideE 0 1 4 ⊖ sideE 0 1 5) ⊖ (sideE 0 1 4 ⊗ alongE 0 1 5 ⊖ sideE 0 1 5 ⊗ alongE 0 1 4) ⊗ (sideE 0 1 3 ⊖ sideE 0 1 2)) refl

-- of the sides of three places a, b, f to the edge and to the way
three : (sa sb sf ha hb hf : ℤ) → (sb *ℤ ha -ℤ sa *ℤ hb) *ℤ hf +ℤ (sf *ℤ hb -ℤ sb *ℤ hf) *ℤ ha +ℤ (sa *ℤ hf -ℤ sf *ℤ ha) *ℤ hb ≡ pos 0
three sa sb sf ha hb hf = ring (sa ∷ sb ∷ sf ∷ ha ∷ hb ∷ hf ∷ [])
    ((var 1 ⊗ var 3 ⊖ var 0 ⊗ var 4) ⊗ var 5 ⊕ (var 2 ⊗ var 4 ⊖ var 1 ⊗ var 5) ⊗ var 3 ⊕ (var 0 ⊗ var 5 ⊖ var 2 ⊗ var 3) ⊗ var 4) (num (pos 0)) refl

swap : (sa sb ha hb : ℤ) → sa *ℤ hb -ℤ sb *ℤ ha ≡ pos 0 -ℤ (sb *ℤ ha -ℤ sa *ℤ hb)
swap sa sb ha hb = ring (sa ∷ sb ∷ ha ∷ hb ∷ []) (var 0 ⊗ var 3 ⊖ var 1 ⊗ var 2) (num (pos 0) ⊖ (var 1 ⊗ var 2 ⊖ var 0 ⊗ var 3)) refl

-- ---- numbers
gap : (s t : ℤ) → s <ℤ t → pos 0 <ℤ (t -ℤ s)
gap s t h = omega (arith, ints, h)

no_gap : (s t d : ℤ) → d ≡ t -ℤ s → pos 0 <ℤ d → s <ℤ t
no_gap s t d e h = omega (arith, ints, e, h)

opposite : (s t : ℤ) → s ≡ pos 0 -ℤ t → t ≤ℤ pos 0 → pos 0 ≤ℤ s
opposite s t e h = omega (arith, ints, e, h)

nothing_less : (s t : ℤ) → pos 0 ≤ℤ s → t ≡ pos 0 → pos 0 ≤ℤ (s -ℤ t)
nothing_less s t h e = omega (arith, ints, h, e)

less_nothing : (s t : ℤ) → s ≡ pos 0 → t ≤ℤ pos 0 → pos 0 ≤ℤ (s -ℤ t)
less_nothing s t e h = omega (arith, ints, e, h)

first_more : (s t : ℤ) → pos 0 <ℤ s → t ≡ pos 0 → pos 0 <ℤ (s -ℤ t)
first_more s t h e = omega (arith, ints, h, e)

last_less : (s t : ℤ) → s ≡ pos 0 → t <ℤ pos 0 → pos 0 <ℤ (s -ℤ t)
last_less s t e h = omega (arith, ints, e, h)

ordered : (s t : ℤ) → s <ℤ pos 0 → pos 0 <ℤ t → s <ℤ t
ordered s t h k = omega (arith, ints, h, k)

low : (s t : ℤ) → s ≤ℤ pos 0 → pos 0 ≤ℤ t → (s *ℤ t) ≤ℤ pos 0
low s t h k = subst (λ z. z ≤ℤ pos 0) (mul_comm t s) (mul-mixed t s k h)

-- ---- an edge from c, on the right of the way, to d, on its left; v lies before it
module _ (p q c d : Coords) (right : side p q c <ℤ pos 0) (left : pos 0 <ℤ side p q d) where
  long_way : pos 0 <ℤ norm p q
  long_way = long p q c d (ordered (side p q c) (side p q d) right left)

  -- it crosses the way after another edge does where its place lies beyond that
  pub beyond_edge : (l r : Coords) → ComesBefore p q r l c d → pos 0 <ℤ beside p q c d l r
  beyond_edge l r before = over_by (beside p q c d l r) (norm p q) (crossing p q c d *ℤ width p q r l -ℤ crossing p q r l *ℤ width p q c d)
      (mul_comm (beside p q c d l r) (norm p q) ∙ later p q c d l r) long_way (gap (crossing p q r l *ℤ width p q c d) (crossing p q c d *ℤ width p q r l) before)

  pub edge_before : (l r : Coords) → pos 0 <ℤ beside p q c d l r → ComesBefore p q r l c d
  edge_before l r h = no_gap (crossing p q r l *ℤ width p q c d) (crossing p q c d *ℤ width p q r l) (norm p q *ℤ beside p q c d l r) (later p q c d l r) (mul-positive (norm p q) (beside p q c d l r) long_way h)

  -- to the left of an edge where it is not beyond its reverse
  back : (a b : Coords) → beside p q c d b a ≤ℤ pos 0 → pos 0 ≤ℤ beside p q c d a b
  back a b h = opposite (beside p q c d a b) (beside p q c d b a) (swap (side c d b) (side c d a) (side p q b) (side p q a)) h

  pub strictly : (a b : Coords) (y : Weighted) → pos 0 <ℤ beside p q c d a b → Lies a b (cut p q c d) y
  strictly a b y h = Strictly (positive-along (weighted_side a b (cut p q c d)) (beside p q c d a b) (cut_side p q c d a b) h)

  pub towards : (a b : Coords) (y : Weighted) → pos 0 ≤ℤ beside p q c d a b → pos 0 <ℤ weighted_side a b y → Lies a b (cut p q c d) y
  towards a b y h k = Towards (along_it (weighted_side a b (cut p q c d)) (beside p q c d a b) (cut_side p q c d a b) h) k
    where
      along_it : (s t : ℤ) → s ≡ t → pos 0 ≤ℤ t → pos 0 ≤ℤ s
      along_it s t e h = omega (arith, ints, e, h)

  near_v : (a b v : Coords) → pos 0 <ℤ side a b v → pos 0 <ℤ weighted_side a b (once v)
  near_v a b v h = positive-along (weighted_side a b (once v)) (side a b v) (weighted_side-once a b v) h

  -- ---- in the triangle lrf beyond an edge from r to l, after which it crosses
  module _ (l r f v : Coords) (l_left : pos 0 <ℤ side p q l) (r_right : side p q r <ℤ pos 0) (after_it : pos 0 <ℤ beside p q c d l r) where
    whole : beside p q c d l r *ℤ side p q f +ℤ beside p q c d r f *ℤ side p q l +ℤ beside p q c d f l *ℤ side p q r ≡ pos 0
    whole = three (side c d l) (side c d r) (side c d f) (side p q l) (side p q r) (side p q f)

    pub first_lies : Lies l r (cut p q c d) (once v)
    first_lies = strictly l r (once v) after_it

    -- f to the left: the way goes on over the edge from r to f
    module _ (f_left : pos 0 <ℤ side p q f) (not_beyond : beside p q c d f r ≤ℤ pos 0) where
      pub left_rf : pos 0 <ℤ side r f v → Lies r f (cut p q c d) (once v)
      left_rf h = towards r f (once v) (back r f not_beyond) (near_v r f v h)

      pub left_fl : Lies f l (cut p q c d) (once v)
      left_fl = strictly f l (once v)
          (positive_by (beside p q c d f l) (side p q r) (pos 0 -ℤ (beside p q c d l r *ℤ side p q f +ℤ beside p q c d r f *ℤ side p q l))
          (sum (beside p q c d l r *ℤ side p q f) (beside p q c d r f *ℤ side p q l) (beside p q c d f l *ℤ side p q r) whole) r_right
          (down (beside p q c d l r *ℤ side p q f) (beside p q c d r f *ℤ side p q l) (mul-positive (beside p q c d l r) (side p q f) after_it f_left) (mul-nonneg (beside p q c d r f) (side p q l) (back r f not_beyond) (weaken (side p q l) l_left))))
        where
          sum : (s t u : ℤ) → s +ℤ t +ℤ u ≡ pos 0 → u ≡ pos 0 -ℤ (s +ℤ t)
          sum s t u e = omega (arith, ints, e)

          down : (s t : ℤ) → pos 0 <ℤ s → pos 0 ≤ℤ t → (pos 0 -ℤ (s +ℤ t)) <ℤ pos 0
          down s t h k = omega (arith, ints, h, k)

    -- f to the right: it goes on over the edge from f to l
    module _ (f_right : side p q f <ℤ pos 0) (not_beyond : beside p q c d l f ≤ℤ pos 0) where
      pub right_fl : pos 0 <ℤ side f l v → Lies f l (cut p q c d) (once v)
      right_fl h = towards f l (once v) (back f l not_beyond) (near_v f l v h)

      pub right_rf : Lies r f (cut p q c d) (once v)
      right_rf = strictly r f (once v)
          (over_by (beside p q c d r f) (side p q l) (pos 0 -ℤ (beside p q c d l r *ℤ side p q f +ℤ beside p q c d f l *ℤ side p q r))
          (sum (beside p q c d l r *ℤ side p q f) (beside p q c d r f *ℤ side p q l) (beside p q c d f l *ℤ side p q r) whole) l_left
          (up (beside p q c d l r *ℤ side p q f) (beside p q c d f l *ℤ side p q r) (mul-negative (beside p q c d l r) (side p q f) after_it f_right) (mul-mixed (beside p q c d f l) (side p q r) (back f l not_beyond) (weaken-neg (side p q r) r_right))))
        where
          sum : (s t u : ℤ) → s +ℤ t +ℤ u ≡ pos 0 → t ≡ pos 0 -ℤ (s +ℤ u)
          sum s t u e = omega (arith, ints, e)

          up : (s t : ℤ) → s <ℤ pos 0 → t ≤ℤ pos 0 → pos 0 <ℤ (pos 0 -ℤ (s +ℤ t))
          up s t h k = omega (arith, ints, h, k)

    -- f on the way, and not before the edge from c to d
    module _ (f_on : side p q f ≡ pos 0) (not_behind : side c d f ≤ℤ pos 0) where
      pub on_rf : pos 0 <ℤ side r f v → Lies r f (cut p q c d) (once v)
      on_rf h = towards r f (once v) (nothing_less (side c d f *ℤ side p q r) (side c d r *ℤ side p q f) (mul-nonpos (side c d f) (side p q r) not_behind (weaken-neg (side p q r) r_right)) (times_zero (side c d r) (side p q f) f_on)) (near_v r f v h)

      pub on_fl : pos 0 <ℤ side f l v → Lies f l (cut p q c d) (once v)
      on_fl h = towards f l (once v) (less_nothing (side c d l *ℤ side p q f) (side c d f *ℤ side p q l) (times_zero (side c d l) (side p q f) f_on) (low (side c d f) (side p q l) not_behind (weaken (side p q l) l_left))) (near_v f l v h)

  -- ---- in the triangle vab at a place v on the way
  module _ (v a b : Coords) (turned : pos 0 <ℤ side v a b) (on_v : side p q v ≡ pos 0) (behind : pos 0 <ℤ side c d v) (b_left : pos 0 <ℤ side p q b) where
    pub start_bv : (y : Weighted) → Lies b v (cut p q c d) y
    start_bv y = strictly b v y (first_more (side c d v *ℤ side p q b) (side c d b *ℤ side p q v) (mul-positive (side c d v) (side p q b) behind b_left) (times_zero (side c d b) (side p q v) on_v))

    ab_v : pos 0 <ℤ side a b v
    ab_v = subst (λ z. pos 0 <ℤ z) (side-turned v a b) turned

    pub start_va : (y : Weighted) → side p q a <ℤ pos 0 → Lies v a (cut p q c d) y
    start_va y a_right = strictly v a y (last_less (side c d a *ℤ side p q v) (side c d v *ℤ side p q a) (times_zero (side c d a) (side p q v) on_v) (mul-negative (side c d v) (side p q a) behind a_right))

    pub start_ab : beside p q c d b a ≤ℤ pos 0 → Lies a b (cut p q c d) (once v)
    start_ab not_beyond = towards a b (once v) (back a b not_beyond) (near_v a b v ab_v)

    -- a on the way, and not before the edge from c to d: places near v, a little to the left
    abbrev pub times : ℕ
    times = 1 + unsigned_abs (weighted_side c d (once b)) + unsigned_abs (weighted_side a b (once b))

    abbrev pub nearby : Weighted
    nearby = joined (repeated (pos times) (once v)) (once b)

    pub nearby_some : pos 0 ≤ℤ nearby.weight
    nearby_some = heavy times
      where
        heavy : (n : ℕ) → pos 0 ≤ℤ (pos n *ℤ pos 1 +ℤ pos 1)
        heavy n = omega (arith, ints)

    pub nearby_behind : pos 0 <ℤ weighted_side c d nearby
    nearby_behind = many-left c d times (once v) (once b) (omega arith) (near_v c d v behind)

    module _ (a_on : side p q a ≡ pos 0) (not_behind : side c d a ≤ℤ pos 0) where
      pub leg_va : Lies v a (cut p q c d) nearby
      leg_va = towards v a nearby
          (nothing_less (side c d a *ℤ side p q v) (side c d v *ℤ side p q a) (level-up (side c d a *ℤ side p q v) (times_zero (side c d a) (side p q v) on_v)) (times_zero (side c d v) (side p q a) a_on))
          (many-within v a times (once v) (once b) (level-up (weighted_side v a (once v)) (weighted_side-once v a v ∙ flat_ca v a v refl)) (near_v v a b turned))

      pub leg_ab : Lies a b (cut p q c d) nearby
      leg_ab = towards a b nearby
          (less_nothing (side c d b *ℤ side p q a) (side c d a *ℤ side p q b) (times_zero (side c d b) (side p q a) a_on) (low (side c d a) (side p q b) not_behind (weaken (side p q b) b_left)))
          (many-left a b times (once v) (once b) (omega arith) (near_v a b v ab_v))
