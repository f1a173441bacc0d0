-- Three strictly convex corners of a star.
use Rattle.std.proofs.Common.{◌≡◌, ◌⊎◌, ℕ, suc, zero, ◌<◌, ◌≤◌, ◌+◌, List, [], ◌∷◌, Bool, true, refl, sym, ap, subst, ◌∙◌, inl, inr, arith}
use Rattle.std.specs.Prelude.{ℤ, pos, ◌-ℤ◌, ◌<ℤ◌, ◌≤ℤ◌, int_lt, ◌&&◌, ◌||◌}
use Rattle.std.specs.Ordering.{int_eq}
use Rattle.std.specs.List.{list_any}
use Rattle.std.proofs.lemmas.Int.{ints, by_lt_z}
use Rattle.std.proofs.lemmas.Bool.Decides.{Decides-int_eq}
use Rattle.std.proofs.lemmas.Bool.{and_parts, and_from, or_cases, or_left, or_right}
use Rattle.ground_model.specs.Place.{Coords}
use Rattle.ground_model.specs.Side.{side, is_left}
use Rattle.ground_model.proofs.Elements.{In}
use Rattle.predicates.proofs.NoFourInPlane.{is_left-from}
use Rattle.cdt_law.proofs.NearestPoint.{last}
use Rattle.cdt_law.proofs.RingAround.{no-half-plane}
use Rattle.point_edit.proofs.Blocked.{lt_or_eq}
use Rattle.point_edit.specs.Stars.{IsStar}
use Rattle.point_edit.proofs.Forms.{along, convex, not_flat, norm_more}

one_less : (n : ℕ) → 0 < n → (m : ℕ) × (n ≡ suc m)
one_less zero h = absurd (omega (arith, h))
one_less (suc n) h = (n, refl)

pub lt_or_more : (j n : ℕ) → (j < n) ⊎ ((m : ℕ) × (j ≡ m + n))
lt_or_more j zero = inr (j, omega arith)
lt_or_more zero (suc n) = inl (omega arith)
lt_or_more (suc j) (suc n) = elim (lt_or_more j n) as (λ _. (suc j < suc n) ⊎ ((m : ℕ) × (suc j ≡ m + suc n))) [
  | inl lt ↦ inl (omega (arith, lt))
  | inr e ↦ let f = e.1 in inr (e.0, omega (arith, f))
]

-- ---- an order: by how far a place is to the left of uv, then by how far it is along it
module _ (u v : Coords) where
  comes_before : Coords → Coords → Bool
  comes_before x y = int_lt (side u v x) (side u v y) || (int_eq (side u v x) (side u v y) && int_lt (along u v x) (along u v y))

  lt_true : (x y : ℤ) → x <ℤ y → int_lt x y ≡ true
  lt_true x y h = let e : true ≡ int_lt x y = omega (arith, ints, h) in sym e

  lt_of : (x y : ℤ) → int_lt x y ≡ true → x <ℤ y
  lt_of x y e = omega (arith, ints, sym e)

  eq_of : (x y : ℤ) → int_eq x y ≡ true → x ≡ y
  eq_of x y e = (Decides-int_eq x y).0 e

  eq_true : (x y : ℤ) → x ≡ y → int_eq x y ≡ true
  eq_true x y e = (Decides-int_eq x y).1 e

  Comes : Coords → Coords → Type 0
  Comes x y = (side u v x <ℤ side u v y) ⊎ ((side u v x ≡ side u v y) × (along u v x <ℤ along u v y))

  comes_of : (x y : Coords) → comes_before x y ≡ true → Comes x y
  unfolding comes_before Comes
  comes_of x y e = elim (or_cases (int_lt (side u v x) (side u v y)) (int_eq (side u v x) (side u v y) && int_lt (along u v x) (along u v y)) e) as (λ _. (side u v x <ℤ side u v y) ⊎ ((side u v x ≡ side u v y) × (along u v x <ℤ along u v y))) [
    | inl h ↦ inl (lt_of (side u v x) (side u v y) h)
    | inr h ↦ let parts = and_parts (int_eq (side u v x) (side u v y)) (int_lt (along u v x) (along u v y)) h in inr (eq_of (side u v x) (side u v y) parts.0, lt_of (along u v x) (along u v y) parts.1)
  ]

  comes_from : (x y : Coords) → Comes x y → comes_before x y ≡ true
  unfolding comes_before Comes
  comes_from x y (inl h) = or_left (int_lt (side u v x) (side u v y)) (int_eq (side u v x) (side u v y) && int_lt (along u v x) (along u v y)) (lt_true (side u v x) (side u v y) h)
  comes_from x y (inr h) = or_right (int_lt (side u v x) (side u v y)) (int_eq (side u v x) (side u v y) && int_lt (along u v x) (along u v y)) (and_from (int_eq (side u v x) (side u v y)) (int_lt (along u v x) (along u v y)) (eq_true (side u v x) (side u v y) h.0) (lt_true (along u v x) (along u v y) h.1))

  never_less : (x : ℤ) → x <ℤ x → ⊥
  never_less x h = omega (arith, ints, h)

  itself : (x : Coords) → comes_before x x ≡ true → ⊥
  unfolding Comes
  itself x e = by (comes_of x x e)
    where
      by : (side u v x <ℤ side u v x) ⊎ ((side u v x ≡ side u v x) × (along u v x <ℤ along u v x)) → ⊥
      by (inl h) = never_less (side u v x) h
      by (inr h) = never_less (along u v x) h.1

  both_less : (f g h i j k : ℤ) → (f <ℤ g) ⊎ ((f ≡ g) × (i <ℤ j)) → (g <ℤ h) ⊎ ((g ≡ h) × (j <ℤ k)) → (f <ℤ h) ⊎ ((f ≡ h) × (i <ℤ k))
  both_less f g h i j k (inl a) (inl b) = inl (omega (arith, ints, a, b))
  both_less f g h i j k (inl a) (inr b) = let e = b.0 in inl (omega (arith, ints, a, e))
  both_less f g h i j k (inr a) (inl b) = let e = a.0 in inl (omega (arith, ints, e, b))
  both_less f g h i j k (inr a) (inr b) =
      let x = a.1 in
      let y = b.1 in
      inr (a.0 ∙ b.0, omega (arith, ints, x, y))

  further : (x y z : Coords) → comes_before x y ≡ true → comes_before y z ≡ true → comes_before x z ≡ true
  unfolding Comes
  further x y z e f = comes_from x z (both_less (side u v x) (side u v y) (side u v z) (along u v x) (along u v y) (along u v z) (comes_of x y e) (comes_of y z f))

  -- what is not before another is not nearer, and of equally far ones not earlier
  pub record IsTop (y x : Coords) : Type 0 where
    pub above : pos 0 ≤ℤ (side u v y -ℤ side u v x)
    pub tied : side u v y -ℤ side u v x ≡ pos 0 → pos 0 ≤ℤ (along u v y -ℤ along u v x)

  top_of : (y x : Coords) → (comes_before y x ≡ true → ⊥) → IsTop y x
  unfolding Comes
  top_of y x none = record {
    above = by_lt_z (side u v y) (side u v x) (λ lt. absurd (none (comes_from y x (inl lt)))) (λ le. more (side u v y) (side u v x) le);
    tied = λ e. by_lt_z (along u v y) (along u v x) (λ lt. absurd (none (comes_from y x (inr (same (side u v y) (side u v x) e, lt))))) (λ le. more (along u v y) (along u v x) le);
  }
    where
      more : (s t : ℤ) → t ≤ℤ s → pos 0 ≤ℤ (s -ℤ t)
      more s t h = omega (arith, ints, h)

      same : (s t : ℤ) → s -ℤ t ≡ pos 0 → s ≡ t
      same s t e = omega (arith, ints, e)

-- ---- the neighbours as a list
module _ (p : Coords) (w : ℕ → Coords) (n : ℕ) (s : IsStar p w n) where
  first_few : ℕ → List Coords
  first_few zero = []
  first_few (suc k) = w (suc k) ∷ first_few k

  record IsAtOne (k : ℕ) (x : Coords) : Type 0 where
    index : ℕ
    within : index < k
    is : x ≡ w (suc index)

  of_few : (k : ℕ) (x : Coords) → In x (first_few k) → IsAtOne k x
  unfolding first_few
  of_few zero x i = absurd i
  of_few (suc k) x (inl e) = record { index = k; within = omega arith; is = e }
  of_few (suc k) x (inr i) =
      let o = of_few k x i in
      let lt = o.within in
      record { index = o.index; within = omega (arith, lt); is = o.is }

  in_few : (k j : ℕ) → j < k → In (w (suc j)) (first_few k)
  unfolding first_few
  in_few zero j h = absurd (omega (arith, h))
  in_few (suc k) j h = elim (lt_or_eq j k (omega (arith, h))) as (λ _. In (w (suc j)) (w (suc k) ∷ first_few k)) [
    | inl lt ↦ inr (in_few k j lt)
    | inr e ↦ inl (ap (λ i. w (suc i)) e)
  ]

  in_ring : (fuel j : ℕ) → j ≤ fuel → In (w (suc j)) (first_few n)
  in_ring zero j le = elim (lt_or_more j n) as (λ _. In (w (suc j)) (first_few n)) [
    | inl lt ↦ in_few n j lt
    | inr e ↦
        let f = e.1 in
        let some = s.some in
        absurd (omega (arith, f, some, le))
  ]
  in_ring (suc fuel) j le = elim (lt_or_more j n) as (λ _. In (w (suc j)) (first_few n)) [
    | inl lt ↦ in_few n j lt
    | inr e ↦
        let f = e.1 in
        let some = s.some in
        let size : suc j ≡ n + suc e.0 = omega (arith, f) in
        subst (λ x. In x (first_few n)) (sym (ap w size ∙ s.round (suc e.0))) (in_ring fuel e.0 (omega (arith, f, some, le)))
  ]

  in_all : (i : ℕ) → In (w i) (first_few n)
  in_all (suc j) = in_ring j j (omega arith)
  in_all zero =
      let m = one_less n s.some in
      let e = m.1 in
      let size : n + 0 ≡ suc m.0 = omega (arith, e) in
      subst (λ x. In x (first_few n)) (sym (ap w size) ∙ s.round 0) (in_ring m.0 m.0 (omega arith))

  -- a neighbour that is farthest to the left of uv, of equally far ones the last
  module _ (u v : Coords) where
    pub record Top : Type 0 where
      pub k : ℕ
      pub within : k < n
      pub top : (i : ℕ) → IsTop u v (w (suc k)) (w i)
      pub high : pos 0 ≤ℤ (side u v (w (suc k)) -ℤ side u v p)

    any : list_any (λ x. true) (first_few n) ≡ true
    unfolding first_few
    any = by n s.some
      where
        by : (k : ℕ) → 0 < k → list_any (λ x. true) (first_few k) ≡ true
        by zero h = absurd (omega (arith, h))
        by (suc k) h = refl

    pub top : Top
    top =
        let l = last (λ x. true) (comes_before u v) (itself u v) (further u v) (first_few n) any in
        let o = of_few n l.item l.of in
        let each : (i : ℕ) → IsTop u v (w (suc o.index)) (w i) = λ i. subst (λ y. IsTop u v y (w i)) o.is (top_of u v l.item (w i) (λ e. l.none (w i) (in_all i) refl e)) in record {
          k = o.index;
          within = o.within;
          top = each;
          high = by_lt_z (side u v (w (suc o.index))) (side u v p) (λ lt. absurd (never (w (suc o.index)) (λ i. (each i).above) lt)) (λ le. more (side u v (w (suc o.index))) (side u v p) le);
        }
      where
        more : (s t : ℤ) → t ≤ℤ s → pos 0 ≤ℤ (s -ℤ t)
        more s t h = omega (arith, ints, h)

        below : (x y z : ℤ) → pos 0 ≤ℤ (y -ℤ x) → y <ℤ z → x <ℤ z
        below x y z h lt = omega (arith, ints, h, lt)

        never : (y : Coords) → ((i : ℕ) → pos 0 ≤ℤ (side u v y -ℤ side u v (w i))) → side u v y <ℤ side u v p → ⊥
        never y above lt = no-half-plane u v p (first_few n) (λ x. true)
            (λ x i passes. let o = of_few n x i in subst (λ z. side u v z <ℤ side u v p) (sym o.is) (below (side u v (w (suc o.index))) (side u v y) (side u v p) (above (suc o.index)) lt))
            (λ x i passes. let o = of_few n x i in (w (suc (suc o.index)), (in_all (suc (suc o.index)), (refl, subst (λ z. is_left p z (w (suc (suc o.index))) ≡ true) (sym o.is) (is_left-from p (w (suc o.index)) (w (suc (suc o.index))) (s.turned (suc o.index)))))))
            any

    -- it is a strictly convex corner
    pub convex_at : (u ≡ v → ⊥) → (t : Top) → pos 0 <ℤ side (w t.k) (w (suc t.k)) (w (suc (suc t.k)))
    convex_at differ t = convex u v p (w t.k) (w (suc t.k)) (w (suc (suc t.k))) (norm_more u v differ) (s.turned t.k) (s.turned (suc t.k)) t.high (t.top t.k).above (t.top (suc (suc t.k))).above (t.top t.k).tied

    -- not all neighbours are on one line with p
    pub some_off : (u ≡ v → ⊥) → ((i : ℕ) → side u v (w i) ≡ side u v p) → ⊥
    some_off differ all = not_flat u v p (w 0) (w 1) (norm_more u v differ) (s.turned 0) (all 0) (all 1)
