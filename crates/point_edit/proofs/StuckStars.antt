-- A star at which nothing can be flipped has three neighbours, or four with the point straight between two.
use Rattle.std.proofs.Common.{◌≡◌, ◌⊎◌, ℕ, suc, zero, ◌<◌, ◌≤◌, ◌+◌, refl, sym, ap, subst, ◌∙◌, inl, inr, arith}
use Rattle.std.specs.Prelude.{ℤ, pos, neg_ℤ, ◌<ℤ◌, ◌≤ℤ◌}
use Rattle.std.proofs.lemmas.Int.{ints}
use Rattle.ground_model.specs.Place.{Coords}
use Rattle.ground_model.specs.Side.{side}
use Rattle.ground_model.proofs.Circle.{side-turned}
use Rattle.predicates.proofs.FlatSides.{flat_bc, side-back}
use Rattle.predicates.proofs.Signs.{never-level, weaken}
use Rattle.point_edit.specs.Stars.{IsStar, IsFlippableAfter}
use Rattle.point_edit.proofs.Blocked.{lt_or_eq}
use Rattle.point_edit.proofs.Progress.{progress_law}
use Rattle.point_edit.proofs.Straight.{split_gap, straight_law}
use Rattle.point_edit.proofs.Tops.{lt_or_more}

level_up : (y : ℤ) → y ≡ pos 0 → pos 0 ≤ℤ y
level_up y e = omega (arith, ints, e)

-- less than n apart the neighbours are two
pub two_apart : (p : Coords) (w : ℕ → Coords) (n : ℕ) → IsStar p w n → (i d : ℕ) → 0 < d → d < n → w (i + d) ≡ w i → ⊥
two_apart p w n s i zero some less e = omega (arith, some)
two_apart p w n s i (suc zero) some less e =
    let on : i + 1 ≡ suc i = omega arith in
    never-level (side p (w i) (w (suc i))) (s.turned i) (flat_bc p (w i) (w (suc i)) (sym e ∙ ap w on))
two_apart p w n s i (suc (suc d)) some less e =
    s.apart i (suc (suc d)) (omega arith) less (record {
      from_u = level_up (side p (w i) (w (i + suc (suc d)))) (flat_bc p (w i) (w (i + suc (suc d))) (sym e));
      to_v = subst (λ k. pos 0 ≤ℤ side p k (w (suc i))) (sym e) (weaken (side p (w i) (w (suc i))) (s.turned i));
    })

-- the star from another neighbour on
pub shifted : (p : Coords) (w : ℕ → Coords) (n : ℕ) → IsStar p w n → (b : ℕ) → IsStar p (λ i. w (b + i)) n
shifted p w n s b = record {
  some = s.some;
  round = λ i. let e : b + (n + i) ≡ n + (b + i) = omega arith in ap w e ∙ s.round (b + i);
  turned = λ i. let e : suc (b + i) ≡ b + suc i = omega arith in subst (λ k. pos 0 <ℤ side p (w (b + i)) (w k)) e (s.turned (b + i));
  apart = λ i d more less h.
      let e : b + suc i ≡ suc (b + i) = omega arith in
      let f : b + (i + d) ≡ b + i + d = omega arith in
      s.apart (b + i) d more less (record {
        from_u = subst (λ k. pos 0 ≤ℤ side p (w (b + i)) (w k)) f h.from_u;
        to_v = subst (λ z. z) (λ k. pos 0 ≤ℤ side p (w (f k)) (w (e k))) h.to_v;
      });
}

-- the further end of a piece that goes on
pub record IsOn (w : ℕ → Coords) (p : Coords) (count : ℕ → ℕ) (n i : ℕ) : Type 0 where
  pub j : ℕ
  pub within : j < n
  pub apart : w j ≡ w i → ⊥
  pub straight : side (w i) p (w j) ≡ pos 0
  pub same_count : count j ≡ count i

-- no edge without a count can be flipped; what has one goes straight on, and no more than two have one
pub record IsStuck (p : Coords) (w : ℕ → Coords) (n : ℕ) (count : ℕ → ℕ) : Type 0 where
  pub star : IsStar p w n
  pub round : (i : ℕ) → count (n + i) ≡ count i
  pub stuck : (i : ℕ) → count (suc i) ≡ 0 → IsFlippableAfter p w i → ⊥
  pub on : (i : ℕ) → 0 < count i → IsOn w p count n i
  pub two : (i j k : ℕ) → 0 < count i → 0 < count j → 0 < count k → (w i ≡ w j → ⊥) → (w k ≡ w i) ⊎ (w k ≡ w j)

-- of four neighbours i and the next but one are on a line with p and have one count, the two others have none
pub record IsLineFrom (p : Coords) (w : ℕ → Coords) (count : ℕ → ℕ) (i : ℕ) : Type 0 where
  pub straight : side (w i) p (w (suc (suc i))) ≡ pos 0
  pub same_count : count (suc (suc i)) ≡ count i
  pub next_free : count (suc i) ≡ 0
  pub last_free : count (suc (suc (suc i))) ≡ 0

some_or_none : (k : ℕ) → (0 < k) ⊎ (k ≡ 0)
some_or_none zero = inr refl
some_or_none (suc k) = inl (omega arith)

none_by : (k : ℕ) → (0 < k → ⊥) → k ≡ 0
none_by k h = elim (some_or_none k) as (λ _. k ≡ 0) [ inl more ↦ absurd (h more) | inr e ↦ e ]

not_one : 1 < 1 → ⊥
not_one h = omega (arith, h)

negated_none : (a b : ℤ) → b ≡ neg_ℤ a → a ≡ pos 0 → b ≡ pos 0
negated_none a b e h = omega (arith, ints, e, h)

-- a, p, b on one line, seen from p
pub flat_from : (a p b : Coords) → side a p b ≡ pos 0 → side p b a ≡ pos 0
flat_from a p b e = sym (side-turned a p b) ∙ e

pub flat_on : (a p b : Coords) → side a p b ≡ pos 0 → side p a b ≡ pos 0
flat_on a p b e = negated_none (side a p b) (side p a b) (side-back a p b) e

flat_of : (a p b : Coords) → side p b a ≡ pos 0 → side a p b ≡ pos 0
flat_of a p b e = side-turned a p b ∙ e

flat_swapped : (a p b : Coords) → side p a b ≡ pos 0 → side a p b ≡ pos 0
flat_swapped a p b e = negated_none (side p a b) (side a p b) (side-back p a b) e

-- how far on around n stands the neighbour j
offset : (n i j : ℕ) → i < n → j < n → (m : ℕ) × ((m < n) × ((i + m ≡ j) ⊎ (i + m ≡ n + j)))
offset n i j i_less j_less = elim (lt_or_more j i) as (λ _. (m : ℕ) × ((m < n) × ((i + m ≡ j) ⊎ (i + m ≡ n + j)))) [
  | inl lt ↦
      let g = split_gap i (n + j) (omega (arith, i_less)) in
      let e = g.1 in
      (g.0, (omega (arith, e, lt), inr e))
  | inr r ↦
      let f = r.1 in
      let e : i + r.0 ≡ j = omega (arith, f) in
      (r.0, (omega (arith, e, j_less), inl e))
]

module _ (p : Coords) (w : ℕ → Coords) (n : ℕ) (count : ℕ → ℕ) (x : IsStuck p w n count) where
  abbrev s : IsStar p w n
  s = x.star

  next_is : (i : ℕ) → w (i + 1) ≡ w (suc i)
  next_is i = let e : i + 1 ≡ suc i = omega arith in ap w e

  -- ---- two counted neighbours on one line with p stand two apart
  between_free : (i m k : ℕ) → 0 < count i → 0 < count (i + m) → m < n → suc k < m → count (suc (i + k)) ≡ 0
  between_free i m k more more' less lt = none_by (count (suc (i + k))) (λ some. elim (x.two i (i + m) (suc (i + k)) more more' some (λ e. two_apart p w n s i m (omega (arith, lt)) less (sym e))) as (λ _. ⊥) [
    | inl e ↦
        let on : i + suc k ≡ suc (i + k) = omega arith in
        two_apart p w n s i (suc k) (omega arith) (omega (arith, lt, less)) (ap w on ∙ e)
    | inr e ↦
        let g = split_gap (suc k) m (omega (arith, lt)) in
        let f = g.1 in
        let on : suc (i + k) + g.0 ≡ i + m = omega (arith, f) in
        two_apart p w n s (suc (i + k)) g.0 (omega (arith, f, lt)) (omega (arith, f, less)) (ap w on ∙ sym e)
  ])

  wide : (i m : ℕ) → 0 < count i → 0 < count (i + m) → m < n → side p (w i) (w (i + m)) ≡ pos 0 → 2 < m → ⊥
  wide i m more more' less flat three =
      let zero_on : i + 0 ≡ i = omega arith in
      let f = straight_law p (λ k. w (i + k)) n (shifted p w n s i) m three less (subst (λ k. side p (w k) (w (i + m)) ≡ pos 0) (sym zero_on) flat) in
      let k = f.0 in
      let on : i + suc k ≡ suc (i + k) = omega arith in
      let then_on : i + suc (suc k) ≡ suc (suc (i + k)) = omega arith in
      x.stuck (i + k) (between_free i m k more more' less f.1.0) (record {
        at_p = subst (λ j. pos 0 <ℤ side p (w (i + k)) (w j)) then_on f.1.1.at_p;
        at_ring = subst (λ z. z) (λ j. pos 0 <ℤ side (w (i + k)) (w (on j)) (w (then_on j))) f.1.1.at_ring;
      })

  pub two_on : (i m : ℕ) → 0 < count i → 0 < count (i + m) → 0 < m → m < n → side p (w i) (w (i + m)) ≡ pos 0 → m ≡ 2
  two_on i zero more more' some less flat = absurd (omega (arith, some))
  two_on i (suc zero) more more' some less flat = absurd (never-level (side p (w i) (w (suc i))) (s.turned i) (ap (λ (y : Coords). side p (w i) y) (sym (next_is i)) ∙ flat))
  two_on i (suc (suc zero)) more more' some less flat = refl
  two_on i (suc (suc (suc m))) more more' some less flat = absurd (wide i (suc (suc (suc m))) more more' less flat (omega arith))

  at_least : 3 ≤ n
  at_least = progress_law.three p w n s

  at_most_two : (i j k : ℕ) → 0 < count i → 0 < count j → (w i ≡ w j → ⊥) → (w k ≡ w i → ⊥) → (w k ≡ w j → ⊥) → count k ≡ 0
  at_most_two i j k more more' differ not_i not_j = none_by (count k) (λ some. elim (x.two i j k more more' some differ) as (λ _. ⊥) [ inl e ↦ not_i e | inr e ↦ not_j e ])

  counted_at : (i m : ℕ) → 0 < count i → count (i + m) ≡ count i → 0 < m → m < n → (w (i + m) ≡ w i → ⊥) → side (w i) p (w (i + m)) ≡ pos 0 → (n ≡ 4) × IsLineFrom p w count i
  counted_at i m more same some less apart straight =
      let more' : 0 < count (i + m) = subst (λ k. 0 < k) (sym same) more in
      let m_two = two_on i m more more' some less (flat_on (w i) p (w (i + m)) straight) in
      let three = at_least in
      let g = split_gap m n (omega (arith, less)) in
      let e = g.1 in
      let round_on : i + m + g.0 ≡ n + i = omega (arith, e) in
      let home = ap w round_on ∙ s.round i in
      let g_two = two_on (i + m) g.0 more' (subst (λ k. 0 < k) (sym (ap count round_on ∙ x.round i)) more) (omega (arith, e, less)) (omega (arith, e, some))
      (subst (λ (y : Coords). side p (w (i + m)) y ≡ pos 0) (sym home) (flat_from (w i) p (w (i + m)) straight)) in
      let four : n ≡ 4 = omega (arith, e, m_two, g_two) in
      let on : i + m ≡ suc (suc i) = omega (arith, m_two) in
      let differ = λ (h : w i ≡ w (i + m)). apart (sym h) in
      let one_on : i + 1 ≡ suc i = omega arith in
      let then_on : suc i + 1 ≡ i + m = omega (arith, m_two) in
      let three_on : i + 3 ≡ suc (suc (suc i)) = omega arith in
      let last_on : i + m + 1 ≡ suc (suc (suc i)) = omega (arith, m_two) in (
        four,
        record {
          straight = subst (λ k. side (w i) p (w k) ≡ pos 0) on straight;
          same_count = ap count (sym on) ∙ same;
          next_free = at_most_two i (i + m) (suc i) more more' differ
              (λ h. two_apart p w n s i 1 (omega arith) (omega (arith, four)) (ap w one_on ∙ h))
              (λ h. two_apart p w n s (suc i) 1 (omega arith) (omega (arith, four)) (ap w then_on ∙ sym h));
          last_free = at_most_two i (i + m) (suc (suc (suc i))) more more' differ
              (λ h. two_apart p w n s i 3 (omega arith) (omega (arith, four)) (ap w three_on ∙ h))
              (λ h. two_apart p w n s (i + m) 1 (omega arith) (omega (arith, four)) (ap w last_on ∙ h));
        },
      )

  pub counted_line : (i : ℕ) → i < n → 0 < count i → (n ≡ 4) × IsLineFrom p w count i
  counted_line i within more =
      let o = x.on i more in
      let m = offset n i o.j within o.within in
      let there : (w (i + m.0) ≡ w o.j) × (count (i + m.0) ≡ count o.j) = elim m.1.1 as (λ _. (w (i + m.0) ≡ w o.j) × (count (i + m.0) ≡ count o.j)) [
        | inl e ↦ (ap w e, ap count e)
        | inr e ↦ (ap w e ∙ s.round o.j, ap count e ∙ x.round o.j)
      ] in
      let apart = λ (h : w (i + m.0) ≡ w i). o.apart (sym there.0 ∙ h) in
      counted_at i m.0 more (there.1 ∙ o.same_count) (positive i m.0 apart) m.1.0 apart (subst (λ (y : Coords). side (w i) p y ≡ pos 0) (sym there.0) o.straight)
    where
      positive : (i m : ℕ) → (w (i + m) ≡ w i → ⊥) → 0 < m
      positive i zero apart = let e : i + 0 ≡ i = omega arith in absurd (apart (ap w e))
      positive i (suc m) apart = omega arith

  -- ---- three or four
  any_counted : (k : ℕ) → ((i : ℕ) × ((i < k) × (0 < count i))) ⊎ ((i : ℕ) → i < k → count i ≡ 0)
  any_counted zero = inr (λ i h. absurd (omega (arith, h)))
  any_counted (suc k) = elim (some_or_none (count k)) as (λ _. ((i : ℕ) × ((i < suc k) × (0 < count i))) ⊎ ((i : ℕ) → i < suc k → count i ≡ 0)) [
    | inl more ↦ inl (k, (omega arith, more))
    | inr e ↦ elim (any_counted k) as (λ _. ((i : ℕ) × ((i < suc k) × (0 < count i))) ⊎ ((i : ℕ) → i < suc k → count i ≡ 0)) [
      | inl r ↦ let lt = r.1.0 in inl (r.0, (omega (arith, lt), r.1.1))
      | inr none ↦ inr (λ i h. elim (lt_or_eq i k (omega (arith, h))) as (λ _. count i ≡ 0) [
        | inl lt ↦ none i lt
        | inr same ↦ ap count same ∙ e
      ])
    ]
  ]

  free_next : ((i : ℕ) → i < n → count i ≡ 0) → (k : ℕ) → k < n → count (suc k) ≡ 0
  free_next none k lt = elim (lt_or_eq (suc k) n (omega (arith, lt))) as (λ _. count (suc k) ≡ 0) [
    | inl less ↦ none (suc k) less
    | inr e ↦
        let on : suc k ≡ n + 0 = omega (arith, e) in
        ap count on ∙ x.round 0 ∙ none 0 s.some
  ]

  pub three_or_four : ((n ≡ 3) × ((i : ℕ) → i < n → count i ≡ 0)) ⊎ (n ≡ 4)
  three_or_four = elim (any_counted n) as (λ _. ((n ≡ 3) × ((i : ℕ) → i < n → count i ≡ 0)) ⊎ (n ≡ 4)) [
    | inl r ↦ inr (counted_line r.0 r.1.0 r.1.1).0
    | inr none ↦ elim (lt_or_more 4 n) as (λ _. ((n ≡ 3) × ((i : ℕ) → i < n → count i ≡ 0)) ⊎ (n ≡ 4)) [
      | inl more ↦ let f = progress_law.more p w n s more in absurd (x.stuck f.0 (free_next none f.0 f.1.0) f.1.1)
      | inr r ↦
          let e = r.1 in
          let three = at_least in
          elim (lt_or_eq n 4 (omega (arith, e))) as (λ _. ((n ≡ 3) × ((i : ℕ) → i < n → count i ≡ 0)) ⊎ (n ≡ 4)) [
            | inl lt ↦ inl (omega (arith, lt, three), none)
            | inr four ↦ inr four
          ]
    ]
  ]

  -- ---- of four, the line
  module _ (four : n ≡ 4) where
    home : (i : ℕ) → count (4 + i) ≡ count i
    home i = ap (λ k. count (k + i)) (sym four) ∙ x.round i

    home_at : (i : ℕ) → w (4 + i) ≡ w i
    home_at i = ap (λ k. w (k + i)) (sym four) ∙ s.round i

    line_of : (i : ℕ) → i < 4 → 0 < count i → IsLineFrom p w count i
    line_of i lt more = (counted_line i (omega (arith, lt, four)) more).1

    free_second : count 0 ≡ 0 → count 2 ≡ 0
    free_second free = none_by (count 2) (λ more. never_less (count 2) (sym (line_of 2 (omega arith) more).same_count ∙ home 0 ∙ free) more)
      where
        never_less : (k : ℕ) → k ≡ 0 → 0 < k → ⊥
        never_less k e h = omega (arith, e, h)

    flat_back : side (w 3) p (w 1) ≡ pos 0 → side (w 1) p (w 3) ≡ pos 0
    flat_back e = flat_of (w 1) p (w 3) (flat_on (w 3) p (w 1) e)

    pub through : side (w 1) p (w 3) ≡ pos 0 → count 0 ≡ 0 → IsLineFrom p w count 1
    through flat free = elim (some_or_none (count 1)) as (λ _. IsLineFrom p w count 1) [
      | inl more ↦ line_of 1 (omega arith) more
      | inr none ↦ record {
        straight = flat;
        same_count = none_by (count 3) (λ more. none_less (count 3) (sym (line_of 3 (omega arith) more).same_count ∙ home 1 ∙ none) more) ∙ sym none;
        next_free = free_second free;
        last_free = home 0 ∙ free;
      }
    ]
      where
        none_less : (k : ℕ) → k ≡ 0 → 0 < k → ⊥
        none_less k e h = omega (arith, e, h)

    pub not_through : (side (w 1) p (w 3) ≡ pos 0 → count 0 ≡ 0 → ⊥) → IsLineFrom p w count 0
    not_through other = elim (some_or_none (count 0)) as (λ _. IsLineFrom p w count 0) [
      | inl more ↦ line_of 0 (omega arith) more
      | inr free ↦
          let first_free = none_by (count 1) (λ more. other (line_of 1 (omega arith) more).straight free) in
          let third_free = none_by (count 3) (λ more. other (flat_back (ap (λ (y : Coords). side (w 3) p y) (sym (home_at 1)) ∙ (line_of 3 (omega arith) more).straight)) free) in
          record { straight = flat_first free first_free (free_second free) third_free; same_count = free_second free ∙ sym free; next_free = first_free; last_free = third_free }
    ]
      where
        all_free : count 0 ≡ 0 → count 1 ≡ 0 → count 2 ≡ 0 → count 3 ≡ 0 → (k : ℕ) → k < 4 → count (suc k) ≡ 0
        all_free a b c d zero lt = b
        all_free a b c d (suc zero) lt = c
        all_free a b c d (suc (suc zero)) lt = d
        all_free a b c d (suc (suc (suc zero))) lt = home 0 ∙ a
        all_free a b c d (suc (suc (suc (suc k)))) lt = absurd (omega (arith, lt))

        of_straight : count 0 ≡ 0 → (k : ℕ) → k < 4 → side p (w k) (w (suc (suc k))) ≡ pos 0 → side (w 0) p (w 2) ≡ pos 0
        of_straight free zero lt flat = flat_swapped (w 0) p (w 2) flat
        of_straight free (suc zero) lt flat = absurd (other (flat_swapped (w 1) p (w 3) flat) free)
        of_straight free (suc (suc zero)) lt flat = flat_of (w 0) p (w 2) (ap (λ (y : Coords). side p (w 2) y) (sym (home_at 0)) ∙ flat)
        of_straight free (suc (suc (suc zero))) lt flat = absurd (other (flat_of (w 1) p (w 3) (ap (λ (y : Coords). side p (w 3) y) (sym (home_at 1)) ∙ flat)) free)
        of_straight free (suc (suc (suc (suc k)))) lt flat = absurd (omega (arith, lt))

        flat_first : count 0 ≡ 0 → count 1 ≡ 0 → count 2 ≡ 0 → count 3 ≡ 0 → side (w 0) p (w 2) ≡ pos 0
        flat_first a b c d = elim (progress_law.four p w n s four) as (λ _. side (w 0) p (w 2) ≡ pos 0) [
          | inl f ↦ let lt = f.1.0 in absurd (x.stuck f.0 (all_free a b c d f.0 (omega (arith, lt, four))) f.1.1)
          | inr f ↦ let lt = f.1.0 in of_straight a f.0 (omega (arith, lt, four)) f.1.1
        ]
