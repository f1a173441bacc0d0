-- Two pieces with one place strictly within both, which cross nowhere, are one.
use Rattle.std.proofs.Common.{◌≡◌, ◌⊎◌, ℕ, ◌+◌, ◌<◌, inl, inr, refl, sym, ap, ◌∙◌, arith, true, false, List}
use Rattle.std.specs.Prelude.{ℤ, pos, neg_ℤ, ◌+ℤ◌, ◌*ℤ◌, ◌<ℤ◌, ◌≤ℤ◌}
use Rattle.std.proofs.lemmas.Int.{ints, by_lt_z}
use Rattle.std.proofs.lemmas.Bool.{both_ways as clash}
use Rattle.ground_model.specs.Line.{is_point}
use Rattle.ground_model.specs.Place.{Coords, is_before}
use Rattle.ground_model.specs.Side.{side, crosses}
use Rattle.ground_model.proofs.Along.{negative_factor, times_negative}
use Rattle.ground_model.proofs.Circle.{side-turned}
use Rattle.ground_model.proofs.Segments.{before_trans, crosses_from, side_of_mean}
use Rattle.ground_model.proofs.ZOrder.{mul-eq-zero, mul-positive}
use Rattle.predicates.proofs.FlatSides.{flat_bc, flat_ca, side-back}
use Rattle.predicates.proofs.Signs.{mul-mixed}
use Rattle.cdt_law.proofs.LongerPieces.{Inside, amid, one-before}
use Rattle.cdt_law.proofs.PieceParts.{IsClear}
use Rattle.cdt_law.proofs.PiecesWithout.{on-in-order}
use Rattle.cdt_law.proofs.ThinnerSites.{Amid, collinear}
use Rattle.point_edit.proofs.Added.{is_it}

-- ---- of a weighted sum that is zero
none_left : (k l m : ℕ) (x y z : ℤ) → 0 < l → pos k *ℤ x ≡ pos l *ℤ y +ℤ pos m *ℤ z → x ≡ pos 0 → z ≡ pos 0 → y ≡ pos 0
none_left k l m x y z some e f g = elim (mul-eq-zero (pos l) y zero_sum) as (λ _. y ≡ pos 0) [
  | inl h ↦ absurd (never l some h)
  | inr h ↦ h
]
  where
    never : (l : ℕ) → 0 < l → pos l ≡ pos 0 → ⊥
    never l some h = omega (arith, ints, some, h)

    times_zero : (y : ℤ) → y *ℤ pos 0 ≡ pos 0
    times_zero y = omega (arith, ints)

    left : (a b c : ℤ) → a ≡ b +ℤ c → a ≡ pos 0 → c ≡ pos 0 → b ≡ pos 0
    left a b c e f g = omega (arith, ints, e, f, g)

    zero_sum : pos l *ℤ y ≡ pos 0
    zero_sum = left (pos k *ℤ x) (pos l *ℤ y) (pos m *ℤ z) e (ap (λ t. pos k *ℤ t) f ∙ times_zero (pos k)) (ap (λ t. pos m *ℤ t) g ∙ times_zero (pos m))

no_whole : (k l m : ℕ) (x y z : ℤ) → 0 < k → pos k *ℤ x ≡ pos l *ℤ y +ℤ pos m *ℤ z → y ≡ pos 0 → z ≡ pos 0 → x ≡ pos 0
no_whole k l m x y z some e f g = none_left l k 0 (pos 0) x (pos 0) some (times_zero (pos l) ∙ sym (e ∙ both) ∙ none (pos k *ℤ x)) refl refl
  where
    times_zero : (y : ℤ) → y *ℤ pos 0 ≡ pos 0
    times_zero y = omega (arith, ints)

    none : (y : ℤ) → y ≡ y +ℤ pos 0 *ℤ pos 0
    none y = omega (arith, ints)

    sum : (a b : ℤ) → a ≡ pos 0 → b ≡ pos 0 → a +ℤ b ≡ pos 0
    sum a b e f = omega (arith, ints, e, f)

    both : pos l *ℤ y +ℤ pos m *ℤ z ≡ pos 0
    both = sum (pos l *ℤ y) (pos m *ℤ z) (ap (λ t. pos l *ℤ t) f ∙ times_zero (pos l)) (ap (λ t. pos m *ℤ t) g ∙ times_zero (pos m))

-- its parts have opposite signs, where the one isn't zero
opposite : (k l m : ℕ) (x y z : ℤ) → 0 < l → 0 < m → pos k *ℤ x ≡ pos l *ℤ y +ℤ pos m *ℤ z → x ≡ pos 0 → (z ≡ pos 0 → ⊥) → (y *ℤ z) <ℤ pos 0
opposite k l m x y z some some' e f not_zero = by_lt_z z (pos 0)
    (λ lt. by_lt_z (pos 0) y
    (λ gt. times_negative y z gt lt)
    (λ le. absurd (clash_up (pos l *ℤ y) (pos m *ℤ z) zero_sum (mul-mixed (pos l) y (omega (arith, ints)) le) (times_negative (pos m) z (omega (arith, ints, some')) lt))))
    (λ ge. by_lt_z (pos 0) z
    (λ gt. swapped y z (times_negative z y gt (negative_factor (pos l) y (omega (arith, ints)) (down (pos l *ℤ y) (pos m *ℤ z) zero_sum (mul-positive (pos m) z (omega (arith, ints, some')) gt)))))
    (λ le. absurd (not_zero (omega (arith, ints, ge, le)))))
  where
    times_zero : (y : ℤ) → y *ℤ pos 0 ≡ pos 0
    times_zero y = omega (arith, ints)

    zero_sum : pos l *ℤ y +ℤ pos m *ℤ z ≡ pos 0
    zero_sum = sym e ∙ ap (λ t. pos k *ℤ t) f ∙ times_zero (pos k)

    clash_up : (a b : ℤ) → a +ℤ b ≡ pos 0 → a ≤ℤ pos 0 → b <ℤ pos 0 → ⊥
    clash_up a b e h k = omega (arith, ints, e, h, k)

    down : (a b : ℤ) → a +ℤ b ≡ pos 0 → pos 0 <ℤ b → a <ℤ pos 0
    down a b e h = omega (arith, ints, e, h)

    swapped : (y z : ℤ) → (z *ℤ y) <ℤ pos 0 → (y *ℤ z) <ℤ pos 0
    swapped y z h = omega (arith, ints, h)

-- ---- two segments over one place
pub turned_back : (a b c : Coords) → side a b c ≡ pos 0 → side b c a ≡ pos 0
turned_back a b c e = sym (side-turned a b c) ∙ e

pub swapped_back : (a b c : Coords) → side a b c ≡ pos 0 → side b a c ≡ pos 0
swapped_back a b c e = side-back a b c ∙ negated (side a b c) e
  where
    negated : (x : ℤ) → x ≡ pos 0 → neg_ℤ x ≡ pos 0
    negated x e = omega (arith, ints, e)

module _ (a b c d p : Coords) (h : Amid a b p) (k : Amid c d p) where
  -- where one end of the other is in line with it, an end of it is in line with the other
  in_line : side a b d ≡ pos 0 → side c d b ≡ pos 0
  in_line e = turned_back b c d (turned_back d b c (swapped_back b d c far))
    where
      at_p : side b d p ≡ pos 0
      at_p = no_whole (h.mean.l + h.mean.m) h.mean.l h.mean.m (side b d p) (side b d a) (side b d b) h.mean.some (side_of_mean a b p h.mean b d) (turned_back a b d e) (flat_ca b d b refl)

      far : side b d c ≡ pos 0
      far = none_left (k.mean.l + k.mean.m) k.mean.l k.mean.m (side b d p) (side b d c) (side b d d) k.first (side_of_mean c d p k.mean b d) at_p (flat_bc b d d refl)

  -- then its other end is so too
  other_end : side a b d ≡ pos 0 → side a b c ≡ pos 0
  other_end e = none_left (k.mean.l + k.mean.m) k.mean.l k.mean.m (side a b p) (side a b c) (side a b d) k.first (side_of_mean c d p k.mean a b) (collinear a b p h) e

  off_line : (side a b d ≡ pos 0 → ⊥) → (side a b c *ℤ side a b d) <ℤ pos 0
  off_line none = opposite (k.mean.l + k.mean.m) k.mean.l k.mean.m (side a b p) (side a b c) (side a b d) k.first k.last (side_of_mean c d p k.mean a b) (collinear a b p h) none

-- they are in line, or they cross
lined_or_cross : (a b c d p : Coords) → Amid a b p → Amid c d p → (side a b d ≡ pos 0) ⊎ (crosses a b c d ≡ true)
lined_or_cross a b c d p h k = by_lt_z (side a b d) (pos 0) (λ lt. apart (λ e. below (side a b d) lt e)) (λ ge. by_lt_z (pos 0) (side a b d) (λ gt. apart (λ e. above (side a b d) gt e)) (λ le. inl (omega (arith, ints, ge, le))))
  where
    below : (x : ℤ) → x <ℤ pos 0 → x ≡ pos 0 → ⊥
    below x h e = omega (arith, ints, h, e)

    above : (x : ℤ) → pos 0 <ℤ x → x ≡ pos 0 → ⊥
    above x h e = omega (arith, ints, h, e)

    apart : (side a b d ≡ pos 0 → ⊥) → (side a b d ≡ pos 0) ⊎ (crosses a b c d ≡ true)
    apart none = inr (crosses_from a b c d (record { first = off_line a b c d p h k none; second = off_line c d a b p k h (λ e. none (in_line c d a b p k h e)) }))

-- ---- two pieces over one place
module _ (points : List Coords) (u v s t p : Coords) (h : Inside u v p) (k : Inside s t p) (clear : IsClear points u v) (clear' : IsClear points s t)
    (at_u : is_point points u ≡ true) (at_v : is_point points v ≡ true) (at_s : is_point points s ≡ true) (at_t : is_point points t ≡ true) (e : side u v t ≡ pos 0) where
  lined : side s t v ≡ pos 0
  lined = in_line u v s t p (amid u v p h) (amid s t p k) e

  last_after : is_before v t ≡ true → ⊥
  last_after lt = clear' v at_v (record { on = on-in-order s v t lined sv lt; after = sv; before = lt })
    where
      sv : is_before s v ≡ true
      sv = before_trans s p v k.after h.before

  last_before : is_before t v ≡ true → ⊥
  last_before lt = clear t at_t (record { on = on-in-order u t v e ut lt; after = ut; before = lt })
    where
      ut : is_before u t ≡ true
      ut = before_trans u p t h.after k.before

  first_before : is_before u s ≡ true → ⊥
  first_before lt = clear s at_s (record { on = on-in-order u s v (other_end u v s t p (amid u v p h) (amid s t p k) e) lt sv; after = lt; before = sv })
    where
      sv : is_before s v ≡ true
      sv = before_trans s p v k.after h.before

  first_after : is_before s u ≡ true → ⊥
  first_after lt = clear' u at_u (record { on = on-in-order s u t (other_end s t u v p (amid s t p k) (amid u v p h) lined) lt ut; after = lt; before = ut })
    where
      ut : is_before u t ≡ true
      ut = before_trans u p t h.after k.before

  same_ends : (u ≡ s) × (v ≡ t)
  same_ends = (by u s first_before first_after, by v t last_after last_before)
    where
      by : (x y : Coords) → (is_before x y ≡ true → ⊥) → (is_before y x ≡ true → ⊥) → x ≡ y
      by x y not_before not_after = elim (is_it x y) as (λ _. x ≡ y) [
        | inl f ↦ f
        | inr differ ↦ elim (one-before x y differ) as (λ _. x ≡ y) [
          | inl lt ↦ absurd (not_before lt)
          | inr lt ↦ absurd (not_after lt)
        ]
      ]

pub one_piece : (points : List Coords) (u v s t p : Coords) → Inside u v p → Inside s t p → IsClear points u v → IsClear points s t
    → is_point points u ≡ true → is_point points v ≡ true → is_point points s ≡ true → is_point points t ≡ true → crosses u v s t ≡ false → (u ≡ s) × (v ≡ t)
one_piece points u v s t p h k clear clear' at_u at_v at_s at_t apart = elim (lined_or_cross u v s t p (amid u v p h) (amid s t p k)) as (λ _. (u ≡ s) × (v ≡ t)) [
  | inl e ↦ same_ends points u v s t p h k clear clear' at_u at_v at_s at_t e
  | inr crossed ↦ absurd (clash (crosses u v s t) apart crossed)
]
