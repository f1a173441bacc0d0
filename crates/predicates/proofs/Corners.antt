-- The tie rule where the fourth place is a corner: it is not inside, so the rule needs no distinct places.
use Rattle.std.proofs.Common.{◌≡◌, refl, sym, ap, ◌∙◌, arith, Bool, true, false, cond, ◌&&◌, ◌||◌}
use Rattle.std.specs.Prelude.{ℤ, pos, int_lt, IsTrue}
use Rattle.std.specs.declared.cmp.Ordering.{Ordering}
use Rattle.std.specs.declared.cmp.Ordering.TheVariants.{Less, Equal, Greater}
use Rattle.std.specs.Ordering.{is_lt, is_gt, int_cmp, ordering_then}
use Rattle.std.proofs.lemmas.Int.{ints}
use Rattle.std.proofs.lemmas.Bool.{and_left, and_right}
use Rattle.std.proofs.lemmas.Bool.Decides.{Decides-int_eq}
use Rattle.ground_model.specs.Place.{Coords, ArePlaces, is_before, is_same}
use Rattle.ground_model.specs.Side.{side, orientation, is_left, is_right}
use Rattle.ground_model.specs.Height.{in_circle_sum, is_inside, is_inside_at_tie, is_first}
use Rattle.ground_model.proofs.Circle.{side-turned, side-same}
use Rattle.ground_model.proofs.Ties.{tie, turns_of_left, same_of_is_same, inside_corner}

-- ---- no place is before itself, and no turn has two corners alike
irreflexive : (p : Coords) → is_before p p ≡ false
irreflexive p = neither (int_lt p.e p.e) (int_lt p.n p.n) (not_below p.e) (not_below p.n)
  where
    not_below : (x : ℤ) → int_lt x x ≡ false
    not_below x =
        let t : false ≡ int_lt x x = omega (arith, ints) in
        sym t

    neither : (x y : Bool) → x ≡ false → y ≡ false → is_lt (ordering_then (cond x Less (cond x Greater Equal)) (cond y Less (cond y Greater Equal))) ≡ false
    neither true y e h = cc
    neither false true e h = cc
    neither false false e h = refl

flat : (a b c : Coords) → side a b c ≡ pos 0 → is_right a b c ≡ false
flat a b c e = ap (λ k. is_lt (int_cmp k (pos 0))) e

not_right : (a b c : Coords) → IsTrue (is_left a b c) → is_right a b c ≡ false
not_right a b c h = not_both (orientation a b c) h
  where
    not_both : (o : Ordering) → IsTrue (is_gt o) → is_lt o ≡ false
    not_both Less h = cc
    not_both Equal h = refl
    not_both Greater h = refl

first_two : (p q : Coords) → is_right p p q ≡ false
first_two p q = flat p p q (side-same p q)

last_two : (p q : Coords) → is_right q p p ≡ false
last_two p q = flat q p p (side-turned q p p ∙ side-same p q)

ends : (p q : Coords) → is_right p q p ≡ false
ends p q = flat p q p (side-turned p q p ∙ side-turned q p p ∙ side-same p q)

-- ---- at a corner
-- no branch of the rule gives true
none : (s t u x y z : Bool) → s ≡ false → (t && x) ≡ false → (u && y) ≡ false → z ≡ false → cond s true (cond t x (cond u y z)) ≡ false
none true t u x y z e f g h = cc
none false true u x y z e f g h = f
none false false true x y z e f g h = g
none false false false x y z e f g h = h

first_of : (x y z : Bool) → x ≡ false → (x && y && z) ≡ false
first_of true y z e = cc
first_of false y z e = refl

second_of : (x y z : Bool) → y ≡ false → (x && y && z) ≡ false
second_of true true z e = cc
second_of true false z e = refl
second_of false y z e = refl

last_of : (x y z : Bool) → z ≡ false → (x && y && z) ≡ false
last_of true true z e = e
last_of true false z e = refl
last_of false y z e = refl

at_a : (a b c : Coords) → is_inside_at_tie a b c a ≡ false
at_a a b c = none (is_first a a b c) (is_first a b c a) (is_first b c a a) (is_right b c a) (is_right c a a) (is_right a b a)
    (first_of (is_before a a) (is_before a b) (is_before a c) (irreflexive a))
    (and_left (is_first a b c a) (is_right b c a) (last_of (is_before a b) (is_before a c) (is_before a a) (irreflexive a)))
    (and_right (is_first b c a a) (is_right c a a) (last_two a c))
    (ends a b)

at_b : (a b c : Coords) → is_inside_at_tie a b c b ≡ false
at_b a b c = none (is_first b a b c) (is_first a b c b) (is_first b c a b) (is_right b c b) (is_right c a b) (is_right a b b)
    (second_of (is_before b a) (is_before b b) (is_before b c) (irreflexive b))
    (and_right (is_first a b c b) (is_right b c b) (ends b c))
    (and_left (is_first b c a b) (is_right c a b) (last_of (is_before b c) (is_before b a) (is_before b b) (irreflexive b)))
    (last_two b a)

at_c : (a b c : Coords) → is_right a b c ≡ false → is_inside_at_tie a b c c ≡ false
at_c a b c h = none (is_first c a b c) (is_first a b c c) (is_first b c a c) (is_right b c c) (is_right c a c) (is_right a b c)
    (last_of (is_before c a) (is_before c b) (is_before c c) (irreflexive c))
    (and_right (is_first a b c c) (is_right b c c) (last_two c b))
    (and_right (is_first b c a c) (is_right c a c) (ends c a))
    h

-- ---- anywhere
is_same-refl : (p : Coords) → is_same p p ≡ true
is_same-refl p =
    let e = (Decides-int_eq p.e p.e).1 refl in
    let n = (Decides-int_eq p.n p.n).1 refl in
    (λ i. e i && n i)

differ : (p q : Coords) → is_same p q ≡ false → ¬ (p ≡ q)
differ p q h e =
    let same : is_same p q ≡ true = ap (λ k. is_same k q) e ∙ is_same-refl q in
    cc

pub tie_anywhere : (a b c d : Coords) → ArePlaces a b c d → IsTrue (is_left a b c) → in_circle_sum a b c d ≡ pos 0 → is_inside a b c d ≡ is_inside_at_tie a b c d
tie_anywhere a b c d p left e = by (is_same d a) (is_same d b) (is_same d c) refl refl refl
  where
    by : (x y z : Bool) → is_same d a ≡ x → is_same d b ≡ y → is_same d c ≡ z → is_inside a b c d ≡ is_inside_at_tie a b c d
    by true y z ea eb ec = inside_corner a b c d (λ i. ea i || is_same d b || is_same d c) ∙ sym (ap (is_inside_at_tie a b c) (same_of_is_same d a ea) ∙ at_a a b c)
    by false true z ea eb ec = inside_corner a b c d (λ i. ea i || eb i || is_same d c) ∙ sym (ap (is_inside_at_tie a b c) (same_of_is_same d b eb) ∙ at_b a b c)
    by false false true ea eb ec = inside_corner a b c d (λ i. ea i || eb i || ec i) ∙ sym (ap (is_inside_at_tie a b c) (same_of_is_same d c ec) ∙ at_c a b c (not_right a b c left))
    by false false false ea eb ec = tie a b c d p (turns_of_left a b c left) e (differ d a ea) (differ d b eb) (differ d c ec)
