-- A weighted mean of levels, rounded, is a level.
use Rattle.std.proofs.Common.{◌≡◌, ◌^◌, refl, ◌∙◌, arith, [], ◌∷◌, true, to_z, of_z}
use Rattle.std.specs.Prelude.{ℤ, pos, negsuc, neg_ℤ, ◌+ℤ◌, ◌-ℤ◌, ◌*ℤ◌, ◌<ℤ◌, ◌≤ℤ◌, ◌&&◌, not, IsTrue, FitsSigned}
use Rattle.std.specs.Int.{int_div_euclid}
use Rattle.std.specs.declared.cmp.Ordering.{Ordering}
use Rattle.std.specs.declared.cmp.Ordering.TheVariants.{Less, Equal, Greater}
use Rattle.std.specs.Ordering.{is_lt, MatchOrdering}
use Rattle.std.proofs.lemmas.Cmp.{int_ranked}
use Rattle.std.proofs.lemmas.Bool.{and_parts}
use Rattle.std.proofs.lemmas.Int.{ints, by_lt_z}
use Rattle.ground_model.specs.declared.slope.Slope.{Slope}
use Rattle.ground_model.specs.Place.{Coords, IsLevel}
use Rattle.ground_model.specs.Side.{side, is_left, is_right, orientation}
use Rattle.ground_model.specs.Rounding.{floor_div, rounded_half_up}
use Rattle.ground_model.specs.Level.{weighted_level, level_on, is_on_slope}
use Rattle.ground_model.proofs.Ring.{var, num, ◌⊕◌, ◌⊖◌, ◌⊗◌, ring}
use Rattle.ground_model.proofs.Circle.{side-parts}
use Rattle.ground_model.proofs.Floor.{floor_div-le, floor_div-more}
use Rattle.ground_model.proofs.Ties.{turns_of_left}
use mir.Syntax.{w64, w128}
use Rattle.predicates.proofs.Sizes.{read_is}

-- ---- the code's quotient
pub int_div_euclid-floor : (a b : ℤ) → pos 0 <ℤ b → int_div_euclid a b ≡ floor_div a b
int_div_euclid-floor (pos a) (pos b) h = refl
int_div_euclid-floor (negsuc a) (pos b) h = refl
int_div_euclid-floor (pos a) (negsuc b) h = absurd (omega (arith, ints, h))
int_div_euclid-floor (negsuc a) (negsuc b) h = absurd (omega (arith, ints, h))

-- ---- products keep an order
pub mul-nonneg : (x y : ℤ) → pos 0 ≤ℤ x → pos 0 ≤ℤ y → pos 0 ≤ℤ (x *ℤ y)
mul-nonneg (pos a) (pos b) h k = omega (arith, ints)
mul-nonneg (negsuc a) y h k = absurd (omega (arith, ints, h))
mul-nonneg (pos a) (negsuc b) h k = absurd (omega (arith, ints, k))

pub mul-le : (x y w : ℤ) → x ≤ℤ y → pos 0 ≤ℤ w → (x *ℤ w) ≤ℤ (y *ℤ w)
mul-le x y w h k = omega (arith, ints, mul-nonneg (y -ℤ x) w (omega (arith, ints)) k, ring (x ∷ y ∷ w ∷ []) ((var 1 ⊖ var 0) ⊗ var 2) (var 1 ⊗ var 2 ⊖ var 0 ⊗ var 2) refl)

-- ---- the mean
twice : (a : ℤ) → pos 0 <ℤ a → pos 0 <ℤ (pos 2 *ℤ a)
twice a h = omega (arith, ints)

-- a multiple that is less than the next one after another is no more than this
pub cancelled : (x y w : ℤ) → pos 0 <ℤ w → (w *ℤ x) <ℤ (w *ℤ y +ℤ w) → x ≤ℤ y
cancelled x y w h less = by_lt_z y x
    (λ more. absurd (beyond (mul-le (y +ℤ pos 1) x w (omega (arith, ints)) (omega (arith, ints)))))
    (λ le. le)
  where
    beyond : ((y +ℤ pos 1) *ℤ w) ≤ℤ (x *ℤ w) → ⊥
    beyond rise = omega (arith, ints, less, rise, ring (y ∷ w ∷ []) ((var 0 ⊕ num (pos 1)) ⊗ var 1) (var 1 ⊗ var 0 ⊕ var 1) refl)

-- a quotient rounded half up lies within whole bounds of the sum
doubled : (l a : ℤ) → (pos 2 *ℤ a) *ℤ l ≡ pos 2 *ℤ (l *ℤ a)
doubled l a = ring (l ∷ a ∷ []) ((num (pos 2) ⊗ var 1) ⊗ var 0) (num (pos 2) ⊗ (var 0 ⊗ var 1)) refl

pub rounded-le : (l s a : ℤ) → pos 0 <ℤ a → s ≤ℤ (l *ℤ a) → rounded_half_up s a ≤ℤ l
rounded-le l s a h below = cancelled (rounded_half_up s a) l (pos 2 *ℤ a) (twice a h)
    (omega (arith, ints, h, below, doubled l a, floor_div-le (pos 2 *ℤ s +ℤ a) (pos 2 *ℤ a) (twice a h)))

pub rounded-ge : (l s a : ℤ) → pos 0 <ℤ a → (l *ℤ a) ≤ℤ s → l ≤ℤ rounded_half_up s a
rounded-ge l s a h above = cancelled l (rounded_half_up s a) (pos 2 *ℤ a) (twice a h)
    (omega (arith, ints, h, above, doubled l a, floor_div-more (pos 2 *ℤ s +ℤ a) (pos 2 *ℤ a) (twice a h)))

pub mean_is_level : (za zb zc wa wb wc area : ℤ) → IsLevel za → IsLevel zb → IsLevel zc → pos 0 ≤ℤ wa → pos 0 ≤ℤ wb → pos 0 ≤ℤ wc → wa +ℤ wb +ℤ wc ≡ area → pos 0 <ℤ area
    → IsLevel (rounded_half_up (za *ℤ wa +ℤ zb *ℤ wb +ℤ zc *ℤ wc) area)
mean_is_level za zb zc wa wb wc area a b c pa pb pc sum some = record {
  low = rounded-ge (neg_ℤ (pos (2 ^ 26))) (za *ℤ wa +ℤ zb *ℤ wb +ℤ zc *ℤ wc) area some
      (omega (arith, ints, sum, mul-le (neg_ℤ (pos (2 ^ 26))) za wa a.low pa, mul-le (neg_ℤ (pos (2 ^ 26))) zb wb b.low pb, mul-le (neg_ℤ (pos (2 ^ 26))) zc wc c.low pc));
  high = rounded-le (pos (2 ^ 26)) (za *ℤ wa +ℤ zb *ℤ wb +ℤ zc *ℤ wc) area some
      (omega (arith, ints, sum, mul-le za (pos (2 ^ 26)) wa a.high pa, mul-le zb (pos (2 ^ 26)) wb b.high pb, mul-le zc (pos (2 ^ 26)) wc c.high pc));
}

-- ---- on a slope
not_right : (a b p : Coords) → not (is_right a b p) ≡ true → pos 0 ≤ℤ side a b p
not_right a b p h = at_least (orientation a b p) (int_ranked (side a b p) (pos 0) (orientation a b p) refl) h
  where
    at_least : (o : Ordering) → MatchOrdering o (side a b p <ℤ pos 0) (side a b p ≡ pos 0) (pos 0 <ℤ side a b p) → not (is_lt o) ≡ true → pos 0 ≤ℤ side a b p
    at_least Less m t = cc
    at_least Equal m t = omega (arith, ints, m)
    at_least Greater m t = omega (arith, ints, m)

pub level_on_is_level : (p : Coords) (s : Slope) → IsLevel s.za → IsLevel s.zb → IsLevel s.zc → IsTrue (is_left s.facet.a s.facet.b s.facet.c) → IsTrue (is_on_slope p s) → IsLevel (level_on p s)
unfolding weighted_level
level_on_is_level p s a b c turned on =
    let both = and_parts (not (is_right s.facet.a s.facet.b p) && not (is_right s.facet.b s.facet.c p)) (not (is_right s.facet.c s.facet.a p)) on in
    let two = and_parts (not (is_right s.facet.a s.facet.b p)) (not (is_right s.facet.b s.facet.c p)) both.0 in
    mean_is_level s.za s.zb s.zc (side s.facet.b s.facet.c p) (side s.facet.c s.facet.a p) (side s.facet.a s.facet.b p) (side s.facet.a s.facet.b s.facet.c) a b c
    (not_right s.facet.b s.facet.c p two.1) (not_right s.facet.c s.facet.a p both.1) (not_right s.facet.a s.facet.b p two.0)
    (side-parts s.facet.a s.facet.b s.facet.c p) (turns_of_left s.facet.a s.facet.b s.facet.c turned)

-- what the code computes, where nothing is lost
pub mean_is : (p : Coords) (s : Slope) (sum area mean : ℤ) → FitsSigned w128 sum → FitsSigned w64 area → sum ≡ weighted_level s p → area ≡ side s.facet.a s.facet.b s.facet.c
    → mean ≡ rounded_half_up (to_z w128 (of_z w128 sum)) (to_z w64 (of_z w64 area)) → mean ≡ level_on p s
mean_is p s sum area mean fs fa es ea e =
    let sum_read = read_is w128 sum (weighted_level s p) fs es in
    let area_read = read_is w64 area (side s.facet.a s.facet.b s.facet.c) fa ea in
    e ∙ (λ i. rounded_half_up (sum_read i) (area_read i))
