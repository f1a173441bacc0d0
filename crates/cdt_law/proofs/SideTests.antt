-- The tests of sides, and what they tell.
use Rattle.std.proofs.Common.{◌≡◌, refl, arith, true}
use Rattle.std.specs.Prelude.{ℤ, pos, ◌<ℤ◌, ◌≤ℤ◌, not}
use Rattle.std.specs.declared.cmp.Ordering.{Ordering}
use Rattle.std.specs.declared.cmp.Ordering.TheVariants.{Less, Equal, Greater}
use Rattle.std.specs.Ordering.{MatchOrdering, is_lt}
use Rattle.std.proofs.lemmas.Int.{ints}
use Rattle.std.proofs.lemmas.Cmp.{int_ranked}
use Rattle.ground_model.specs.Place.{Coords}
use Rattle.ground_model.specs.Side.{side, orientation, is_right}
use Rattle.predicates.proofs.Signs.{never-high}

abbrev Shows : Ordering → ℤ → Type 0
Shows o s = MatchOrdering o (s <ℤ pos 0) (s ≡ pos 0) (pos 0 <ℤ s)

shows : (a b c : Coords) → Shows (orientation a b c) (side a b c)
shows a b c = int_ranked (side a b c) (pos 0) (orientation a b c) refl

pub right_from : (a b c : Coords) → side a b c <ℤ pos 0 → is_right a b c ≡ true
right_from a b c h = by (orientation a b c) (shows a b c)
  where
    level : (s : ℤ) → s <ℤ pos 0 → s ≡ pos 0 → ⊥
    level s h k = omega (arith, ints, h, k)

    over : (s : ℤ) → s <ℤ pos 0 → pos 0 <ℤ s → ⊥
    over s h k = omega (arith, ints, h, k)

    by : (o : Ordering) → Shows o (side a b c) → is_lt o ≡ true
    by Less m = refl
    by Equal m = absurd (level (side a b c) h m)
    by Greater m = absurd (over (side a b c) h m)

pub not_right-from : (a b c : Coords) → pos 0 ≤ℤ side a b c → not (is_right a b c) ≡ true
not_right-from a b c h = by (orientation a b c) (shows a b c)
  where
    by : (o : Ordering) → Shows o (side a b c) → not (is_lt o) ≡ true
    by Less m = absurd (never-high (side a b c) h m)
    by Equal m = refl
    by Greater m = refl

pub not_right-is : (a b c : Coords) → not (is_right a b c) ≡ true → pos 0 ≤ℤ side a b c
not_right-is a b c e = by (orientation a b c) (shows a b c) e
  where
    level : (s : ℤ) → s ≡ pos 0 → pos 0 ≤ℤ s
    level s h = omega (arith, ints, h)

    over : (s : ℤ) → pos 0 <ℤ s → pos 0 ≤ℤ s
    over s h = omega (arith, ints, h)

    by : (o : Ordering) → Shows o (side a b c) → not (is_lt o) ≡ true → pos 0 ≤ℤ side a b c
    by Less m e = cc
    by Equal m e = level (side a b c) m
    by Greater m e = over (side a b c) m
