-- Of the edges of a maximal run, the one to the farthest end can be flipped.
use Rattle.std.proofs.Common.{◌≡◌, ◌⊎◌, ℕ, suc, zero, ◌<◌, ◌≤◌, ◌+◌, [], ◌∷◌, refl, sym, ap, subst, inl, inr, arith}
use Rattle.std.specs.Prelude.{ℤ, pos, ◌+ℤ◌, ◌-ℤ◌, ◌*ℤ◌, ◌<ℤ◌, ◌≤ℤ◌}
use Rattle.std.proofs.lemmas.Int.{ints, by_lt_z}
use Rattle.ground_model.specs.Place.{Coords}
use Rattle.ground_model.specs.Side.{side}
use Rattle.ground_model.proofs.Circle.{env, sideE, side-turned}
use Rattle.ground_model.proofs.Ring.{num, ◌⊕◌, ◌⊖◌, ◌⊗◌, ring}
use Rattle.predicates.proofs.Signs.{mul-nonneg, mul-mixed, weaken}
use Rattle.crossing_law.specs.Runs.{IsRun, IsPeak, IsFlippableIn, RunLaw}
use Rattle.crossing_law.proofs.Numbers.{positive_by, negative_by, mul-low}

-- ---- identities: p, q, w, x, y, z have numbers 0 to 5
over : (p q w x y z : Coords) → side w x z *ℤ (side p q y -ℤ side p q w) ≡ side w y z *ℤ (side p q x -ℤ side p q w) +ℤ side w x y *ℤ (side p q z -ℤ side p q w)
unfolding side
over p q w x y z = ring (env (p ∷ q ∷ w ∷ x ∷ y ∷ z ∷ [])) (sideE 2 3 5 ⊗ (sideE 0 1 4 ⊖ sideE 0 1 2)) (sideE 2 4 5 ⊗ (sideE 0 1 3 ⊖ sideE 0 1 2) ⊕ sideE 2 3 4 ⊗ (sideE 0 1 5 ⊖ sideE 0 1 2)) refl

within : (p q w x y z : Coords) → side x z y *ℤ side p q w ≡ side w x z *ℤ side p q y -ℤ (side w y z *ℤ side p q x +ℤ side w x y *ℤ side p q z)
unfolding side
within p q w x y z = ring (env (p ∷ q ∷ w ∷ x ∷ y ∷ z ∷ [])) (sideE 3 5 4 ⊗ sideE 0 1 2) (sideE 2 3 5 ⊗ sideE 0 1 4 ⊖ (sideE 2 4 5 ⊗ sideE 0 1 3 ⊕ sideE 2 3 4 ⊗ sideE 0 1 5)) refl

-- u, v, o, x, y, z have numbers 0 to 5
corner : (u v o x y z : Coords) → side x y z *ℤ (side u v y -ℤ side u v o) ≡ side o y z *ℤ (side u v y -ℤ side u v x) +ℤ side o x y *ℤ (side u v y -ℤ side u v z)
unfolding side
corner u v o x y z = ring (env (u ∷ v ∷ o ∷ x ∷ y ∷ z ∷ [])) (sideE 3 4 5 ⊗ (sideE 0 1 4 ⊖ sideE 0 1 2)) (sideE 2 4 5 ⊗ (sideE 0 1 4 ⊖ sideE 0 1 3) ⊕ sideE 2 3 4 ⊗ (sideE 0 1 4 ⊖ sideE 0 1 5)) refl

at_first : (u v : Coords) → side u v u ≡ pos 0
unfolding side
at_first u v = ring (env (u ∷ v ∷ [])) (sideE 0 1 0) (num (pos 0)) refl

at_last : (u v : Coords) → side u v v ≡ pos 0
unfolding side
at_last u v = ring (env (u ∷ v ∷ [])) (sideE 0 1 1) (num (pos 0)) refl

-- ---- numbers
lt_or_eq : (j n : ℕ) → j ≤ n → (j < n) ⊎ (j ≡ n)
lt_or_eq zero zero h = inr refl
lt_or_eq zero (suc n) h = inl (omega arith)
lt_or_eq (suc j) zero h = absurd (omega (arith, h))
lt_or_eq (suc j) (suc n) h = elim (lt_or_eq j n (omega (arith, h))) as (λ _. (suc j < suc n) ⊎ (suc j ≡ suc n)) [
  | inl lt ↦ inl (omega (arith, lt))
  | inr e ↦ inr (ap suc e)
]

module _ (p q w : Coords) (v : ℕ → Coords) (k : ℕ) (r : IsRun p q w v k) where
  -- how far a place is to the left of the line, less what w is
  abbrev gap : ℕ → ℤ
  gap j = side p q (v j) -ℤ side p q w

  below : (x y : ℤ) → x ≤ℤ y → (x -ℤ y) ≤ℤ pos 0
  below x y h = omega (arith, ints, h)

  far_below : (x y : ℤ) → x <ℤ pos 0 → pos 0 <ℤ y → (x -ℤ y) <ℤ pos 0
  far_below x y h l = omega (arith, ints, h, l)

  inner : (j : ℕ) → j < k → gap (suc j) <ℤ pos 0
  inner j h = far_below (side p q (v (suc j))) (side p q w) (r.crossed j h) r.left

  first_gap : gap 0 ≤ℤ pos 0
  first_gap = below (side p q (v 0)) (side p q w) r.first_near

  last_gap : gap (suc k) ≤ℤ pos 0
  last_gap = below (side p q (v (suc k))) (side p q w) r.last_near

  -- ---- each later end lies to the left of each earlier one, seen from w
  less : (a b s t : ℤ) → pos 0 <ℤ a → pos 0 <ℤ b → s ≤ℤ pos 0 → t ≤ℤ pos 0 → (s ≡ pos 0 → t ≡ pos 0 → ⊥) → (a *ℤ s +ℤ b *ℤ t) <ℤ pos 0
  less a b s t h l low_s low_t not_both = by_lt_z s (pos 0) (λ lt. first_low (a *ℤ s) (b *ℤ t) (mul-low a s h lt) (mul-mixed b t (weaken b l) low_t))
      (λ le. by_lt_z t (pos 0) (λ lt. last_low (a *ℤ s) (b *ℤ t) (mul-mixed a s (weaken a h) low_s) (mul-low b t l lt)) (λ le'. absurd (not_both (zero s low_s le) (zero t low_t le'))))
    where
      first_low : (x y : ℤ) → x <ℤ pos 0 → y ≤ℤ pos 0 → (x +ℤ y) <ℤ pos 0
      first_low x y h l = omega (arith, ints, h, l)

      last_low : (x y : ℤ) → x ≤ℤ pos 0 → y <ℤ pos 0 → (x +ℤ y) <ℤ pos 0
      last_low x y h l = omega (arith, ints, h, l)

      zero : (x : ℤ) → x ≤ℤ pos 0 → pos 0 ≤ℤ x → x ≡ pos 0
      zero x h l = omega (arith, ints, h, l)

  outer_or_low : (j : ℕ) → j ≤ k → gap j ≤ℤ pos 0
  outer_or_low zero h = first_gap
  outer_or_low (suc j) h = low (gap (suc j)) (inner j (omega (arith, h)))
    where
      low : (x : ℤ) → x <ℤ pos 0 → x ≤ℤ pos 0
      low x h = omega (arith, ints, h)

  any_low : (j : ℕ) → j ≤ suc k → gap j ≤ℤ pos 0
  any_low j h = elim (lt_or_eq j (suc k) h) as (λ _. gap j ≤ℤ pos 0) [
    | inl lt ↦ outer_or_low j (omega (arith, lt))
    | inr e ↦ subst (λ i. gap i ≤ℤ pos 0) (sym e) last_gap
  ]

  level : (x y : ℤ) → x -ℤ y ≡ pos 0 → x ≡ y
  level x y e = omega (arith, ints, e)

  never : (x : ℤ) → x <ℤ pos 0 → x ≡ pos 0 → ⊥
  never x h e = omega (arith, ints, h, e)

  not_both : (i j : ℕ) → i < j → j ≤ suc k → gap i ≡ pos 0 → gap j ≡ pos 0 → ⊥
  not_both (suc i) j lt le e f = never (gap (suc i)) (inner i (omega (arith, lt, le))) e
  not_both zero j lt le e f = elim (lt_or_eq j (suc k) le) as (λ _. ⊥) [
    | inl l ↦ middle j lt l f
    | inr g ↦ r.one_nearer (level (side p q (v 0)) (side p q w) e) (level (side p q (v (suc k))) (side p q w) (subst (λ i. gap i ≡ pos 0) g f))
  ]
    where
      middle : (j : ℕ) → 0 < j → j < suc k → gap j ≡ pos 0 → ⊥
      middle zero lt l f = absurd (omega (arith, lt))
      middle (suc j) lt l f = never (gap (suc j)) (inner j (omega (arith, l))) f

  -- the end after i by d and one more
  later : (d i j : ℕ) → j ≡ i + d → j ≤ k → pos 0 <ℤ side w (v i) (v (suc j))
  later zero i j e h =
      let same : j ≡ i = omega (arith, e) in
      subst (λ n. pos 0 <ℤ side w (v n) (v (suc j))) same (r.fan j h)
  later (suc d) i zero e h = absurd (omega (arith, e))
  later (suc d) i (suc j) e h =
      positive_by (side w (v i) (v (suc (suc j)))) (gap (suc j)) _ (over p q w (v i) (v (suc j)) (v (suc (suc j)))) (inner j (omega (arith, h)))
      (less (side w (v (suc j)) (v (suc (suc j)))) (side w (v i) (v (suc j))) (gap i) (gap (suc (suc j))) (r.fan (suc j) h) (later d i j (omega (arith, e)) (omega (arith, h)))
      (any_low i (omega (arith, e, h))) (any_low (suc (suc j)) (omega (arith, h))) (not_both i (suc (suc j)) (omega (arith, e)) (omega (arith, h))))

  pub ordered : (i j : ℕ) → i ≤ j → j ≤ k → pos 0 <ℤ side w (v i) (v (suc j))
  ordered i j le h = let g = part i j le in later g.0 i j g.1 h
    where
      part : (i j : ℕ) → i ≤ j → (d : ℕ) × (j ≡ i + d)
      part zero j le = (j, omega arith)
      part (suc i) zero le = absurd (omega (arith, le))
      part (suc i) (suc j) le = let g = part i j (omega (arith, le)) in let e = g.1 in (g.0, omega (arith, e))

  -- ---- each end between lies beyond the line through the outer ones
  abbrev depth_at : ℕ → ℤ
  depth_at j = side (v 0) (v (suc k)) (v j)

  deep : (j : ℕ) → j < k → depth_at (suc j) <ℤ pos 0
  deep j h =
      negative_by (depth_at (suc j)) (side p q w) _ (within p q w (v 0) (v (suc j)) (v (suc k))) r.left
      (down (side w (v 0) (v (suc k)) *ℤ side p q (v (suc j))) (side w (v (suc j)) (v (suc k)) *ℤ side p q (v 0)) (side w (v 0) (v (suc j)) *ℤ side p q (v (suc k)))
      (mul-low (side w (v 0) (v (suc k))) (side p q (v (suc j))) (ordered 0 k (omega arith) (omega arith)) (r.crossed j h))
      (mul-nonneg (side w (v (suc j)) (v (suc k))) (side p q (v 0)) (weaken (side w (v (suc j)) (v (suc k))) (ordered (suc j) k (omega (arith, h)) (omega arith))) r.first)
      (mul-nonneg (side w (v 0) (v (suc j))) (side p q (v (suc k))) (weaken (side w (v 0) (v (suc j))) (ordered 0 j (omega arith) (omega (arith, h)))) r.last))
    where
      down : (s t u : ℤ) → s <ℤ pos 0 → pos 0 ≤ℤ t → pos 0 ≤ℤ u → (s -ℤ (t +ℤ u)) <ℤ pos 0
      down s t u h l m = omega (arith, ints, h, l, m)

  -- w lies on the other side
  high : pos 0 <ℤ side (v 0) (v (suc k)) w
  high = subst (λ s. pos 0 <ℤ s) (side-turned w (v 0) (v (suc k))) (ordered 0 k (omega arith) (omega arith))

  -- ---- a peak can be flipped
  module _ (j : ℕ) (top : IsPeak v k j) where
    abbrev x : Coords
    x = v j

    abbrev y : Coords
    y = v (suc j)

    abbrev z : Coords
    z = v (suc (suc j))

    at_w : pos 0 <ℤ side w x z
    at_w = let lt = top.within in ordered j (suc j) (omega arith) (omega (arith, lt))

    at_end : pos 0 <ℤ side x y z
    at_end =
        let lt = top.within in
        positive_by (side x y z) (depth_at (suc j) -ℤ side (v 0) (v (suc k)) w) _ (corner (v 0) (v (suc k)) w x y z) (far_below (depth_at (suc j)) (side (v 0) (v (suc k)) w) (deep j lt) high)
        (low (side w y z *ℤ (depth_at (suc j) -ℤ depth_at j)) (side w x y *ℤ (depth_at (suc j) -ℤ depth_at (suc (suc j))))
        (mul-mixed (side w y z) (depth_at (suc j) -ℤ depth_at j) (weaken (side w y z) (r.fan (suc j) (omega (arith, lt)))) (below (depth_at (suc j)) (depth_at j) top.before))
        (mul-low (side w x y) (depth_at (suc j) -ℤ depth_at (suc (suc j))) (r.fan j (omega (arith, lt))) (fall (depth_at (suc j)) (depth_at (suc (suc j))) top.next)))
      where
        low : (s t : ℤ) → s ≤ℤ pos 0 → t <ℤ pos 0 → (s +ℤ t) <ℤ pos 0
        low s t h l = omega (arith, ints, h, l)

        fall : (s t : ℤ) → s <ℤ t → (s -ℤ t) <ℤ pos 0
        fall s t h = omega (arith, ints, h)

    pub peak_flips : IsFlippableIn w v j
    peak_flips = record { at_w = at_w; at_end = at_end }

  -- ---- there is one: the first end after which the depth falls no more
  rise : (s t : ℤ) → s ≡ pos 0 → t <ℤ pos 0 → t ≤ℤ s
  rise s t e h = omega (arith, ints, e, h)

  none : (s t : ℤ) → s ≡ pos 0 → t <ℤ pos 0 → s ≤ℤ t → ⊥
  none s t e h l = omega (arith, ints, e, h, l)

  climb : (fuel j : ℕ) → j < k → k ≤ j + fuel → depth_at (suc j) ≤ℤ depth_at j → (i : ℕ) × IsPeak v k i
  climb zero j lt size down = absurd (omega (arith, lt, size))
  climb (suc fuel) j lt size down = by_lt_z (depth_at (suc j)) (depth_at (suc (suc j))) (λ h. (j, record { within = lt; before = down; next = h }))
      (λ le. elim (lt_or_eq (suc j) k (omega (arith, lt))) as (λ _. (i : ℕ) × IsPeak v k i) [
        | inl h ↦ climb fuel (suc j) h (omega (arith, size)) le
        | inr e ↦ absurd (none (depth_at (suc k)) (depth_at (suc j)) (at_last (v 0) (v (suc k))) (deep j lt) (subst (λ n. depth_at (suc n) ≤ℤ depth_at (suc j)) e le))
      ])

  pub some_peak : (j : ℕ) × IsPeak v k j
  some_peak = climb k 0 r.some (omega arith) (rise (depth_at 0) (depth_at 1) (at_first (v 0) (v (suc k))) (deep 0 r.some))

pub run_law : RunLaw
run_law = record { peak = λ p q w v k j r top. peak_flips p q w v k r j top; some = λ p q w v k r. some_peak p q w v k r }
