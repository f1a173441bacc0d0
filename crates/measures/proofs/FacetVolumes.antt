-- The cases of a facet's volume.
use Rattle.std.proofs.Common.{◌≡◌, ◌+◌, refl, sym, ◌∙◌, arith, [], ◌∷◌, true, false, cond, nat_eq}
use Rattle.std.specs.Prelude.{ℤ, pos, neg_ℤ, ◌+ℤ◌, ◌-ℤ◌, ◌*ℤ◌, ◌<ℤ◌, ◌≤ℤ◌, Bool, not, ◌||◌, count_by, int_lt}
use Rattle.std.specs.List.{list_any}
use Rattle.std.proofs.lemmas.Int.{ints, by_lt_z}
use Rattle.ground_model.specs.Contour.{Post}
use Rattle.ground_model.specs.Volume.{is_above, is_below, turned_over, part_above, facet_volume}

pick : {X : Type 0} (b : Bool) (x y : X) → b ≡ true → cond b x y ≡ x
pick true x y h = refl
pick false x y h = cc

skip : {X : Type 0} (b : Bool) (x y : X) → b ≡ false → cond b x y ≡ y
skip true x y h = cc
skip false x y h = refl

-- ---- turned over, what is below is above
above_turned : (x : Post) → is_above (turned_over x) ≡ is_below x
above_turned x = by_lt_z x.level (pos 0) (below x.level) (not_below x.level)
  where
    below : (z : ℤ) → z <ℤ pos 0 → int_lt (pos 0) (neg_ℤ z) ≡ int_lt z (pos 0)
    below z h =
        let left : true ≡ int_lt (pos 0) (neg_ℤ z) = omega (arith, ints, h) in
        let right : true ≡ int_lt z (pos 0) = omega (arith, ints, h) in
        sym left ∙ right

    not_below : (z : ℤ) → pos 0 ≤ℤ z → int_lt (pos 0) (neg_ℤ z) ≡ int_lt z (pos 0)
    not_below z h =
        let left : false ≡ int_lt (pos 0) (neg_ℤ z) = omega (arith, ints, h) in
        let right : false ≡ int_lt z (pos 0) = omega (arith, ints, h) in
        sym left ∙ right

-- no corner is above and below
either : (x : Post) → is_above x ≡ true → is_below x ≡ true → ⊥
either x h k =
    let above : true ≡ int_lt (pos 0) x.level = sym h in
    let below : true ≡ int_lt x.level (pos 0) = sym k in
    omega (arith, ints, above, below)

-- where corners lie on both sides, and not just one is above, just one is below
one_below : (a1 a2 a3 b1 b2 b3 : Bool) → (a1 ≡ true → b1 ≡ true → ⊥) → (a2 ≡ true → b2 ≡ true → ⊥) → (a3 ≡ true → b3 ≡ true → ⊥)
    → not (b1 || (b2 || (b3 || false))) ≡ false → not (a1 || (a2 || (a3 || false))) ≡ false
    → nat_eq (0 + cond a1 1 0 + cond a2 1 0 + cond a3 1 0) 1 ≡ false → nat_eq (0 + cond b1 1 0 + cond b2 1 0 + cond b3 1 0) 1 ≡ true
one_below true a2 a3 true b2 b3 x y z some_b some_a more = absurd (x refl refl)
one_below a1 true a3 b1 true b3 x y z some_b some_a more = absurd (y refl refl)
one_below a1 a2 true b1 b2 true x y z some_b some_a more = absurd (z refl refl)
one_below false false false b1 b2 b3 x y z some_b some_a more = cc
one_below a1 a2 a3 false false false x y z some_b some_a more = cc
one_below true false false b1 b2 b3 x y z some_b some_a more = cc
one_below false true false b1 b2 b3 x y z some_b some_a more = cc
one_below false false true b1 b2 b3 x y z some_b some_a more = cc
one_below a1 a2 a3 true false false x y z some_b some_a more = refl
one_below a1 a2 a3 false true false x y z some_b some_a more = refl
one_below a1 a2 a3 false false true x y z some_b some_a more = refl

pub one_below_turned : (x y z : Post) → not (list_any is_below (x ∷ y ∷ z ∷ [])) ≡ false → not (list_any is_above (x ∷ y ∷ z ∷ [])) ≡ false → nat_eq (count_by is_above (x ∷ y ∷ z ∷ [])) 1 ≡ false
    → nat_eq (count_by is_above (turned_over x ∷ turned_over y ∷ turned_over z ∷ [])) 1 ≡ true
one_below_turned x y z some_below some_above more =
    (λ i. nat_eq (0 + cond (above_turned x i) 1 0 + cond (above_turned y i) 1 0 + cond (above_turned z i) 1 0) 1)
    ∙ one_below (is_above x) (is_above y) (is_above z) (is_below x) (is_below y) (is_below z) (either x) (either y) (either z) some_below some_above more

-- ---- the cases, as the code computes them
pub none_above : (area : ℤ) (x y z : Post) (net : ℤ) → not (list_any is_below (x ∷ y ∷ z ∷ [])) ≡ false → not (list_any is_above (x ∷ y ∷ z ∷ [])) ≡ true
    → net ≡ area *ℤ (x.level +ℤ y.level +ℤ z.level) → record { cut = pos 0; fill = neg_ℤ net; net = net } ≡ facet_volume area x y z
unfolding facet_volume
none_above area x y z net some_below no_above is =
    (λ i. record { cut = pos 0; fill = neg_ℤ (is i); net = is i })
    ∙ sym (skip (not (list_any is_below (x ∷ y ∷ z ∷ []))) _ _ some_below ∙ pick (not (list_any is_above (x ∷ y ∷ z ∷ []))) _ _ no_above)

pub one_above : (area : ℤ) (x y z : Post) (net cut : ℤ) → not (list_any is_below (x ∷ y ∷ z ∷ [])) ≡ false → not (list_any is_above (x ∷ y ∷ z ∷ [])) ≡ false → nat_eq (count_by is_above (x ∷ y ∷ z ∷ [])) 1 ≡ true
    → net ≡ area *ℤ (x.level +ℤ y.level +ℤ z.level) → cut ≡ part_above area x y z → record { cut = cut; fill = cut -ℤ net; net = net } ≡ facet_volume area x y z
unfolding facet_volume
one_above area x y z net cut some_below some_above one is part =
    (λ i. record { cut = part i; fill = part i -ℤ is i; net = is i })
    ∙ sym (skip (not (list_any is_below (x ∷ y ∷ z ∷ []))) _ _ some_below ∙ skip (not (list_any is_above (x ∷ y ∷ z ∷ []))) _ _ some_above ∙ pick (nat_eq (count_by is_above (x ∷ y ∷ z ∷ [])) 1) _ _ one)

pub two_above : (area : ℤ) (x y z : Post) (net fill : ℤ) → not (list_any is_below (x ∷ y ∷ z ∷ [])) ≡ false → not (list_any is_above (x ∷ y ∷ z ∷ [])) ≡ false → nat_eq (count_by is_above (x ∷ y ∷ z ∷ [])) 1 ≡ false
    → net ≡ area *ℤ (x.level +ℤ y.level +ℤ z.level) → fill ≡ part_above area (turned_over x) (turned_over y) (turned_over z) → record { cut = fill +ℤ net; fill = fill; net = net } ≡ facet_volume area x y z
unfolding facet_volume
two_above area x y z net fill some_below some_above more is part =
    (λ i. record { cut = part i +ℤ is i; fill = part i; net = is i })
    ∙ sym (skip (not (list_any is_below (x ∷ y ∷ z ∷ []))) _ _ some_below ∙ skip (not (list_any is_above (x ∷ y ∷ z ∷ []))) _ _ some_above ∙ skip (nat_eq (count_by is_above (x ∷ y ∷ z ∷ [])) 1) _ _ more)
