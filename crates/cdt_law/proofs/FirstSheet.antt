-- The far triangle alone is a locally Delaunay sheet of no points.
use Rattle.std.proofs.Common.{◌≡◌, ℕ, zero, suc, ◌+◌, ◌≤◌, ◌⊎◌, inl, inr, refl, sym, arith, Bool, true, false}
use Rattle.std.specs.Prelude.{ℤ, pos, ◌<ℤ◌, int_lt, ◌&&◌, ◌||◌, cond, nat_eq}
use Rattle.std.proofs.lemmas.Int.{ints}
use Rattle.std.proofs.lemmas.List.Elements.{All-nil}
use Rattle.std.proofs.lemmas.Bool.{ne_eqb, and_from, or_cases}
use Rattle.ground_model.specs.declared.corner.Corner.{Corner}
use Rattle.ground_model.specs.declared.corner.Corner.TheVariants.{At, Far}
use Rattle.ground_model.specs.Place.{IsPlace}
use Rattle.ground_model.specs.Side.{side}
use Rattle.ground_model.specs.Corner.{is_same_corner}
use Rattle.predicates.specs.Net.{Triangle, is_turned, is_triangle}
use Rattle.predicates.specs.Sheet.{IsSheet, IsLocallyDelaunay}
use Rattle.predicates.specs.Tiling.{far_triangle}
use Rattle.cdt_law.specs.Laws.{first_net, FirstLaw}
use Rattle.predicates.proofs.FarSides.{f0, f1, f2, far-turned}
use Rattle.predicates.proofs.Owners.{IsTurn, Still, Once, Twice}
use Rattle.predicates.proofs.HasTriangles.{turn-of}

-- the tests of one corner against the three far ones: one of them at most
data Tests : Bool → Bool → Bool → Type 0 where
  Is0 : Tests true false false
  Is1 : Tests false true false
  Is2 : Tests false false true
  None3 : Tests false false false

none : (x y z : Bool) → x ≡ false → y ≡ false → z ≡ false → Tests x y z
none false false false e f g = None3
none true y z e f g = cc
none x true z e f g = cc
none x y true e f g = cc

tests : (z : Corner) → Tests (is_same_corner z (Far 0)) (is_same_corner z (Far 1)) (is_same_corner z (Far 2))
tests (At p) = None3
tests (Far zero) = Is0
tests (Far (suc zero)) = Is1
tests (Far (suc (suc zero))) = Is2
tests (Far (suc (suc (suc k)))) =
    none (nat_eq (suc (suc (suc k))) 0) (nat_eq (suc (suc (suc k))) 1) (nat_eq (suc (suc (suc k))) 2)
    (ne_eqb (suc (suc (suc k))) 0 (λ e. omega (arith, e))) (ne_eqb (suc (suc (suc k))) 1 (λ e. omega (arith, e))) (ne_eqb (suc (suc (suc k))) 2 (λ e. omega (arith, e)))

-- how often an edge is among the six, by the tests of its ends
abbrev six : Bool → Bool → Bool → Bool → Bool → Bool → ℕ
six a0 a1 a2 b0 b1 b2 = 0 + cond (a0 && b1) 1 0 + cond (a1 && b2) 1 0 + cond (a2 && b0) 1 0 + cond (a1 && b0) 1 0 + cond (a2 && b1) 1 0 + cond (a0 && b2) 1 0

six-once : (a0 a1 a2 b0 b1 b2 : Bool) → Tests a0 a1 a2 → Tests b0 b1 b2 → six a0 a1 a2 b0 b1 b2 ≤ 1
six-once a0 a1 a2 b0 b1 b2 Is0 Is0 = omega arith
six-once a0 a1 a2 b0 b1 b2 Is0 Is1 = omega arith
six-once a0 a1 a2 b0 b1 b2 Is0 Is2 = omega arith
six-once a0 a1 a2 b0 b1 b2 Is0 None3 = omega arith
six-once a0 a1 a2 b0 b1 b2 Is1 Is0 = omega arith
six-once a0 a1 a2 b0 b1 b2 Is1 Is1 = omega arith
six-once a0 a1 a2 b0 b1 b2 Is1 Is2 = omega arith
six-once a0 a1 a2 b0 b1 b2 Is1 None3 = omega arith
six-once a0 a1 a2 b0 b1 b2 Is2 Is0 = omega arith
six-once a0 a1 a2 b0 b1 b2 Is2 Is1 = omega arith
six-once a0 a1 a2 b0 b1 b2 Is2 Is2 = omega arith
six-once a0 a1 a2 b0 b1 b2 Is2 None3 = omega arith
six-once a0 a1 a2 b0 b1 b2 None3 t = omega arith

six-even : (a0 a1 a2 b0 b1 b2 : Bool) → Tests a0 a1 a2 → Tests b0 b1 b2 → six a0 a1 a2 b0 b1 b2 ≡ six b0 b1 b2 a0 a1 a2
six-even a0 a1 a2 b0 b1 b2 Is0 Is0 = refl
six-even a0 a1 a2 b0 b1 b2 Is0 Is1 = refl
six-even a0 a1 a2 b0 b1 b2 Is0 Is2 = refl
six-even a0 a1 a2 b0 b1 b2 Is0 None3 = refl
six-even a0 a1 a2 b0 b1 b2 Is1 Is0 = refl
six-even a0 a1 a2 b0 b1 b2 Is1 Is1 = refl
six-even a0 a1 a2 b0 b1 b2 Is1 Is2 = refl
six-even a0 a1 a2 b0 b1 b2 Is1 None3 = refl
six-even a0 a1 a2 b0 b1 b2 Is2 Is0 = refl
six-even a0 a1 a2 b0 b1 b2 Is2 Is1 = refl
six-even a0 a1 a2 b0 b1 b2 Is2 Is2 = refl
six-even a0 a1 a2 b0 b1 b2 Is2 None3 = refl
six-even a0 a1 a2 b0 b1 b2 None3 Is0 = refl
six-even a0 a1 a2 b0 b1 b2 None3 Is1 = refl
six-even a0 a1 a2 b0 b1 b2 None3 Is2 = refl
six-even a0 a1 a2 b0 b1 b2 None3 None3 = refl

first_sheet : IsSheet first_net
first_sheet = record {
  places = All-nil IsPlace;
  over = refl;
  turned = turns;
  once = λ x. six-once (is_same_corner x.0 (Far 0)) (is_same_corner x.0 (Far 1)) (is_same_corner x.0 (Far 2)) (is_same_corner x.1 (Far 0)) (is_same_corner x.1 (Far 1)) (is_same_corner x.1 (Far 2)) (tests x.0) (tests x.1);
  matched = λ x. six-even (is_same_corner x.0 (Far 0)) (is_same_corner x.0 (Far 1)) (is_same_corner x.0 (Far 2)) (is_same_corner x.1 (Far 0)) (is_same_corner x.1 (Far 1)) (is_same_corner x.1 (Far 2)) (tests x.0) (tests x.1);
  reached = refl;
  apart = refl;
  pieces = λ p q h. absurd (omega (arith, h));
  even = λ p q. refl;
}
  where
    left : (s : ℤ) → pos 0 <ℤ s → (int_lt (pos 0) s && true) ≡ true
    left s h =
        let t : true ≡ int_lt (pos 0) s = omega (arith, ints, h) in
        and_from (int_lt (pos 0) s) true (sym t) refl

    turns : (is_turned far_triangle && true) ≡ true
    turns = left (side f0 f1 f2) far-turned

-- ---- no edge has a triangle on both sides
no_pair : (t : Triangle) (a b c u v w : Corner) → IsTurn t a b c → IsTurn t u v w → (t.a ≡ t.b → ⊥) → (t.b ≡ t.c → ⊥) → (t.c ≡ t.a → ⊥) → u ≡ b → v ≡ a → ⊥
no_pair t a b c u v w Still Still ab bc ca e f = ab e
no_pair t a b c u v w Still Once ab bc ca e f = ca f
no_pair t a b c u v w Still Twice ab bc ca e f = bc (sym e)
no_pair t a b c u v w Once Still ab bc ca e f = ca (sym e)
no_pair t a b c u v w Once Once ab bc ca e f = bc e
no_pair t a b c u v w Once Twice ab bc ca e f = ab f
no_pair t a b c u v w Twice Still ab bc ca e f = bc f
no_pair t a b c u v w Twice Once ab bc ca e f = ab (sym e)
no_pair t a b c u v w Twice Twice ab bc ca e f = ca e

first_local : IsLocallyDelaunay first_net
first_local a b c d at_abc at_bad none =
    absurd (no_pair far_triangle a b c b a d (far-turn a b c at_abc) (far-turn b a d at_bad) (λ e. cc) (λ e. cc) (λ e. cc) refl refl)
  where
    far-turn : (a b c : Corner) → (is_triangle a b c far_triangle || false) ≡ true → IsTurn far_triangle a b c
    far-turn a b c e = by (or_cases (is_triangle a b c far_triangle) false e)
      where
        by : (is_triangle a b c far_triangle ≡ true) ⊎ (false ≡ true) → IsTurn far_triangle a b c
        by (inl h) = turn-of a b c far_triangle h
        by (inr h) = cc

pub first_law : FirstLaw
first_law = (first_sheet, first_local)
