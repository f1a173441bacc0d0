-- A flip of an edge at a corner takes one triangle from it.
use Rattle.std.proofs.Common.{◌≡◌, ◌⊎◌, ℕ, suc, zero, ◌<◌, ◌≤◌, ◌+◌, Bool, true, false, Option, Some, None, List, [], ◌∷◌, length, get_or, refl, sym, ap, subst, ◌∙◌, inl, inr, arith}
use Rattle.std.specs.Prelude.{◌||◌, if◌then◌else◌}
use Rattle.std.proofs.lemmas.Bool.{cases_eq, or_cases, or_left, or_right}
use Rattle.ground_model.specs.declared.corner.Corner.{Corner}
use Rattle.ground_model.specs.declared.corner.Corner.TheVariants.{Far}
use Rattle.ground_model.specs.Corner.{is_same_corner}
use Rattle.predicates.proofs.Edges.{corner-equal, corner-self}
use Rattle.tri_pages.specs.declared.tri_slot.TriSlot.{TriSlot}
use Rattle.tri_pages.specs.Slots.{State, triangle_at}
use Rattle.mesh.specs.Acrosses.{apex}
use Rattle.mesh.specs.Corners.{Distinct}
use Rattle.mesh.specs.Flips.{IsFlipped, flip_face_two}
use Rattle.mesh.specs.Meshes.{IsMesh}
use Rattle.mesh.specs.Net.{Side, first, second, third, after, place, corner_at}
use Rattle.mesh.proofs.Contents.{made_face}
use Rattle.mesh.proofs.Corners.{distinct_from}
use Rattle.mesh.proofs.Legality.{kept_face}
use Rattle.mesh.proofs.SheetLaw.{standing}
use Rattle.mesh.proofs.Slots.{live_within, is_some}
use Rattle.mesh.proofs.TurnedSlots.{by_side}
use Rattle.point_edit.specs.Degrees.{has_corner, one_at, sum_below, degree}
use Rattle.point_edit.proofs.Blocked.{lt_or_eq}

-- ---- sums
sum_le : (f g : ℕ → ℕ) (n : ℕ) → ((i : ℕ) → g i ≤ f i) → sum_below g n ≤ sum_below f n
sum_le f g zero h = omega arith
sum_le f g (suc n) h =
    let here = h n in
    let rest = sum_le f g n h in
    omega (arith, here, rest)

sum_less : (f g : ℕ → ℕ) (n s : ℕ) → s < n → g s < f s → ((i : ℕ) → g i ≤ f i) → sum_below g n < sum_below f n
sum_less f g zero s lt less h = absurd (omega (arith, lt))
sum_less f g (suc n) s lt less h = elim (lt_or_eq s n (omega (arith, lt))) as (λ _. sum_below g (suc n) < sum_below f (suc n)) [
  | inl before ↦
      let here = h n in
      let rest = sum_less f g n s before less h in
      omega (arith, here, rest)
  | inr e ↦
      let here = subst (λ k. g k < f k) e less in
      let rest = sum_le f g n h in
      omega (arith, here, rest)
]

-- what is 0 from n on adds nothing
sum_more : (f : ℕ → ℕ) (n k : ℕ) → ((i : ℕ) → n ≤ i → f i ≡ 0) → sum_below f (k + n) ≡ sum_below f n
sum_more f n zero h =
    let none : 0 + n ≡ n = omega arith in
    ap (sum_below f) none
sum_more f n (suc k) h =
    let on : suc k + n ≡ suc (k + n) = omega arith in
    let none = h (k + n) (omega arith) in
    let rest = sum_more f n k h in
    ap (sum_below f) on ∙ sum (f (k + n)) (sum_below f (k + n)) (sum_below f n) none rest
  where
    sum : (a b c : ℕ) → a ≡ 0 → b ≡ c → a + b ≡ c
    sum a b c e g = omega (arith, e, g)

-- ---- a triangle's corners
by_test : (b : Bool) → b ≡ true → ◌≡◌ {A = ℕ} (if b then 1 else 0) 1
by_test true e = refl
by_test false e = cc

test_of : (b : Bool) → 0 < (if b then 1 else 0) → b ≡ true
test_of true h = refl
test_of false h = absurd (omega (arith, h))

at_most_one : (c : Corner) (o : Option TriSlot) → one_at c o ≤ 1
at_most_one c None = omega arith
at_most_one c (Some t) = by (has_corner t c)
  where
    by : (b : Bool) → (if b then 1 else 0) ≤ 1
    by true = omega arith
    by false = omega arith

one_yes : (c : Corner) (o : Option TriSlot) (t : TriSlot) (k : Side) → o ≡ Some t → corner_at t k ≡ c → one_at c o ≡ 1
one_yes c o t k there is = ap (one_at c) there ∙ by_test (has_corner t c) (test k is)
  where
    same : (j : Side) → corner_at t j ≡ c → is_same_corner (corner_at t j) c ≡ true
    same j e = ap (λ (x : Corner). is_same_corner (corner_at t j) x) (sym e) ∙ corner-self (corner_at t j)

    test : (j : Side) → corner_at t j ≡ c → has_corner t c ≡ true
    test first e = or_left _ _ (or_left _ _ (same first e))
    test second e = or_left _ _ (or_right _ _ (same second e))
    test third e = or_right _ _ (same third e)

record HasIt (c : Corner) (o : Option TriSlot) : Type 0 where
  tri : TriSlot
  side : Side
  there : o ≡ Some tri
  is : corner_at tri side ≡ c

one_some : (c : Corner) (o : Option TriSlot) → 0 < one_at c o → HasIt c o
one_some c None h = absurd (omega (arith, h))
one_some c (Some t) h = elim (or_cases (is_same_corner (corner_at t first) c || is_same_corner (corner_at t second) c) (is_same_corner (corner_at t third) c) (test_of (has_corner t c) h)) as (λ _. HasIt c (Some t)) [
  | inl e ↦ elim (or_cases (is_same_corner (corner_at t first) c) (is_same_corner (corner_at t second) c) e) as (λ _. HasIt c (Some t)) [
    | inl x ↦ record { tri = t; side = first; there = refl; is = corner-equal (corner_at t first) c x }
    | inr x ↦ record { tri = t; side = second; there = refl; is = corner-equal (corner_at t second) c x }
  ]
  | inr x ↦ record { tri = t; side = third; there = refl; is = corner-equal (corner_at t third) c x }
]

some_or_none : (k : ℕ) → (0 < k) ⊎ (k ≡ 0)
some_or_none zero = inr refl
some_or_none (suc k) = inl (omega arith)

-- ---- the flip
module _ (c : Corner) (old new : List State) (s : ℕ) (k : Side) (n : ℕ) (m : IsMesh old) (m' : IsMesh new) (is : IsFlipped old new s k n) (at : corner_at is.tri k ≡ c) where
  abbrev f : ℕ → ℕ
  f i = one_at c (triangle_at old i)

  abbrev g : ℕ → ℕ
  g i = one_at c (triangle_at new i)

  here_distinct : Distinct (corner_at is.tri k ∷ corner_at is.tri (after k) ∷ apex is.tri k ∷ [])
  here_distinct = distinct_from is.tri k (m.distinct s is.tri (standing old m s is.tri is.here))

  -- the triangle in n has it no more
  gone : (t : TriSlot) (j : Side) → triangle_at new n ≡ Some t → corner_at t j ≡ c → ⊥
  gone t j there has =
      let made = made_face new n t (flip_face_two is.tri k is.beyond is.back) m' is.in_n there in
      by_side (λ y. corner_at t y ≡ c → ⊥)
      (λ e. beyond_other (sym (ap (λ x. get_or x.corners 0 (Far 0)) made) ∙ e))
      (λ e. here_distinct.0.0 (at ∙ sym (sym (ap (λ x. get_or x.corners 1 (Far 0)) made) ∙ e)))
      (λ e. here_distinct.0.1.0 (at ∙ sym (sym (ap (λ x. get_or x.corners 2 (Far 0)) made) ∙ e)))
      j has
    where
      beyond_other : apex is.beyond is.back ≡ c → ⊥
      beyond_other e =
          let b = distinct_from is.beyond is.back (m.distinct n is.beyond (standing old m n is.beyond is.across.there)) in
          b.1.0.0 (is.across.ends ∙ at ∙ sym e)

  kept : (i : ℕ) → (i ≡ s → ⊥) → (i ≡ n → ⊥) → g i ≤ f i
  kept i not_s not_n = elim (some_or_none (g i)) as (λ _. g i ≤ f i) [
    | inl more ↦
        let x = one_some c (triangle_at new i) more in
        let w = kept_face old new i x.tri m' (is.rest i not_s not_n) x.there in
        let one = one_yes c (triangle_at old i) w.tri x.side w.is (ap (λ y. get_or y.corners (place x.side) (Far 0)) w.same ∙ x.is) in
        let most = at_most_one c (triangle_at new i) in
        omega (arith, one, most)
    | inr none ↦ omega (arith, none)
  ]

  at_n : g n < f n
  at_n =
      let one = one_yes c (triangle_at old n) is.beyond (after is.back) is.across.there (is.across.ends ∙ at) in
      elim (some_or_none (g n)) as (λ _. g n < f n) [
        | inl more ↦ let x = one_some c (triangle_at new n) more in absurd (gone x.tri x.side x.there x.is)
        | inr none ↦ omega (arith, none, one)
      ]

  each : (i : ℕ) → g i ≤ f i
  each i = elim (cases_eq i s) as (λ _. g i ≤ f i) [
    | inl e ↦
        let one = ap f e ∙ one_yes c (triangle_at old s) is.tri k is.here at in
        let most = at_most_one c (triangle_at new i) in
        omega (arith, one, most)
    | inr not_s ↦ elim (cases_eq i n) as (λ _. g i ≤ f i) [
      | inl e ↦
          let less = subst (λ j. g j < f j) (sym e) at_n in
          omega (arith, less)
      | inr not_n ↦ kept i not_s not_n
    ]
  ]

  beyond_end : (slots : List State) (i : ℕ) → length slots ≤ i → one_at c (triangle_at slots i) ≡ 0
  beyond_end slots i le = elim (some_or_none (one_at c (triangle_at slots i))) as (λ _. one_at c (triangle_at slots i) ≡ 0) [
    | inl more ↦
        let x = one_some c (triangle_at slots i) more in
        let lt = live_within slots i (is_some (triangle_at slots i) x.tri x.there) in
        absurd (omega (arith, lt, le))
    | inr none ↦ none
  ]

  pub degree_falls : degree new c < degree old c
  degree_falls =
      let within = live_within old n (is_some (triangle_at old n) is.beyond is.across.there) in
      let less = sum_less f g (length new + length old) n (omega (arith, within)) at_n each in
      let was = sum_more f (length old) (length new) (beyond_end old) in
      let turned : length old + length new ≡ length new + length old = omega arith in
      let now = sym (ap (sum_below g) turned) ∙ sum_more g (length new) (length old) (beyond_end new) in
      omega (arith, less, was, now)
