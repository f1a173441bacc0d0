-- A straight way from p to q, and the triangles that it goes through.
use Rattle.std.proofs.Common.{◌≡◌, [], ◌∷◌, refl, sym, subst, ◌∙◌, inl, inr, arith}
use Rattle.std.specs.Prelude.{ℤ, pos, ◌+ℤ◌, ◌-ℤ◌, ◌*ℤ◌, ◌<ℤ◌, ◌≤ℤ◌}
use Rattle.std.proofs.lemmas.Int.{ints, by_lt_z}
use Rattle.ground_model.specs.Place.{Coords}
use Rattle.ground_model.specs.Side.{side}
use Rattle.ground_model.proofs.Circle.{env, sideE}
use Rattle.ground_model.proofs.Ring.{var, num, ◌⊕◌, ◌⊖◌, ◌⊗◌, ring}
use Rattle.ground_model.proofs.ZOrder.{mul-positive, mul-eq-zero}
use Rattle.predicates.proofs.Signs.{mul-nonneg, mul-mixed, weaken}
use Rattle.crossing_law.specs.Runs.{along}
use Rattle.crossing_law.proofs.Numbers.{positive_by, negative_by, mul-low}
use Rattle.crossing_law.proofs.Ties.{norm, alongE, normE, spread, long, long_along}

-- ---- identities: p, q, l, r, d, x have numbers 0 to 5
pencil_r : (p q l r d x : Coords) → side r d x *ℤ (side p q l -ℤ side p q r) ≡ side l r d *ℤ (side p q x -ℤ side p q r) -ℤ side l r x *ℤ (side p q d -ℤ side p q r)
unfolding side
pencil_r p q l r d x = ring (env (p ∷ q ∷ l ∷ r ∷ d ∷ x ∷ [])) (sideE 3 4 5 ⊗ (sideE 0 1 2 ⊖ sideE 0 1 3)) (sideE 2 3 4 ⊗ (sideE 0 1 5 ⊖ sideE 0 1 3) ⊖ sideE 2 3 5 ⊗ (sideE 0 1 4 ⊖ sideE 0 1 3)) refl

pencil_l : (p q l r d x : Coords) → side d l x *ℤ (side p q l -ℤ side p q r) ≡ side l r d *ℤ (side p q l -ℤ side p q x) -ℤ side l r x *ℤ (side p q l -ℤ side p q d)
unfolding side
pencil_l p q l r d x = ring (env (p ∷ q ∷ l ∷ r ∷ d ∷ x ∷ [])) (sideE 4 2 5 ⊗ (sideE 0 1 2 ⊖ sideE 0 1 3)) (sideE 2 3 4 ⊗ (sideE 0 1 2 ⊖ sideE 0 1 5) ⊖ sideE 2 3 5 ⊗ (sideE 0 1 2 ⊖ sideE 0 1 4)) refl

parts : (p q l r d x : Coords) → side l r d *ℤ side p q x ≡ side l r x *ℤ side p q d +ℤ side r d x *ℤ side p q l +ℤ side d l x *ℤ side p q r
unfolding side
parts p q l r d x = ring (env (p ∷ q ∷ l ∷ r ∷ d ∷ x ∷ [])) (sideE 2 3 4 ⊗ sideE 0 1 5) (sideE 2 3 5 ⊗ sideE 0 1 4 ⊕ sideE 3 4 5 ⊗ sideE 0 1 2 ⊕ sideE 4 2 5 ⊗ sideE 0 1 3) refl

-- p, q, l, r, x, y have numbers 0 to 5
onward : (p q l r x y : Coords) → norm p q *ℤ (side l r y -ℤ side l r x) ≡ (along p q y -ℤ along p q x) *ℤ (side p q l -ℤ side p q r) +ℤ (side p q y -ℤ side p q x) *ℤ (along p q r -ℤ along p q l)
unfolding side alongE normE
onward p q l r x y = ring (env (p ∷ q ∷ l ∷ r ∷ x ∷ y ∷ [])) (normE 0 1 ⊗ (sideE 2 3 5 ⊖ sideE 2 3 4)) ((alongE 0 1 5 ⊖ alongE 0 1 4) ⊗ (sideE 0 1 2 ⊖ sideE 0 1 3) ⊕ (sideE 0 1 5 ⊖ sideE 0 1 4) ⊗ (alongE 0 1 3 ⊖ alongE 0 1 2)) refl

-- ---- numbers
pub times_zero : (x y : ℤ) → y ≡ pos 0 → x *ℤ y ≡ pos 0
times_zero x y e = (λ i. x *ℤ e i) ∙ nothing x
  where
    nothing : (x : ℤ) → x *ℤ pos 0 ≡ pos 0
    nothing x = omega (arith, ints)

pub zero_times : (x y : ℤ) → x ≡ pos 0 → x *ℤ y ≡ pos 0
zero_times x y e = (λ i. e i *ℤ y) ∙ nothing y
  where
    nothing : (y : ℤ) → pos 0 *ℤ y ≡ pos 0
    nothing y = omega (arith, ints)

-- what is positive with a positive factor
pub over_by : (x y s : ℤ) → x *ℤ y ≡ s → pos 0 <ℤ y → pos 0 <ℤ s → pos 0 <ℤ x
over_by x y s e more h = by_lt_z (pos 0) x (λ lt. lt) (λ le. absurd (none (x *ℤ y) s e (low x y le more) h))
  where
    turned : (x y : ℤ) → y *ℤ x ≡ x *ℤ y
    turned x y = ring (x ∷ y ∷ []) (var 1 ⊗ var 0) (var 0 ⊗ var 1) refl

    low : (x y : ℤ) → x ≤ℤ pos 0 → pos 0 <ℤ y → (x *ℤ y) ≤ℤ pos 0
    low x y h k = subst (λ z. z ≤ℤ pos 0) (turned x y) (mul-mixed y x (weaken y k) h)

    none : (t s : ℤ) → t ≡ s → t ≤ℤ pos 0 → pos 0 <ℤ s → ⊥
    none t s e h k = omega (arith, ints, e, h, k)

turn : (x y : ℤ) → y *ℤ x ≡ x *ℤ y
turn x y = ring (x ∷ y ∷ []) (var 1 ⊗ var 0) (var 0 ⊗ var 1) refl

-- ---- an edge from r on the right of the way to l on the left
module _ (p q l r : Coords) (left : pos 0 <ℤ side p q l) (right : side p q r <ℤ pos 0) where
  width : pos 0 <ℤ (side p q l -ℤ side p q r)
  width = more (side p q l) (side p q r) left right
    where
      more : (s t : ℤ) → pos 0 <ℤ s → t <ℤ pos 0 → pos 0 <ℤ (s -ℤ t)
      more s t h k = omega (arith, ints, h, k)

  long_way : pos 0 <ℤ norm p q
  long_way = long p q r l (less (side p q l) (side p q r) left right)
    where
      less : (s t : ℤ) → pos 0 <ℤ s → t <ℤ pos 0 → t <ℤ s
      less s t h k = omega (arith, ints, h, k)

  -- of two places on the way, what is farther along it is farther beyond the edge
  step : (x y : Coords) → side p q x ≡ pos 0 → side p q y ≡ pos 0 → norm p q *ℤ (side l r y -ℤ side l r x) ≡ (along p q y -ℤ along p q x) *ℤ (side p q l -ℤ side p q r)
  step x y on_x on_y = onward p q l r x y ∙ rest ((along p q y -ℤ along p q x) *ℤ (side p q l -ℤ side p q r)) ((side p q y -ℤ side p q x) *ℤ (along p q r -ℤ along p q l)) (zero_times (side p q y -ℤ side p q x) (along p q r -ℤ along p q l) (same (side p q x) (side p q y) on_x on_y))
    where
      rest : (s t : ℤ) → t ≡ pos 0 → s +ℤ t ≡ s
      rest s t e = omega (arith, ints, e)

      same : (s t : ℤ) → s ≡ pos 0 → t ≡ pos 0 → t -ℤ s ≡ pos 0
      same s t e f = omega (arith, ints, e, f)

  gap : (s t : ℤ) → s <ℤ t → pos 0 <ℤ (t -ℤ s)
  gap s t h = omega (arith, ints, h)

  no_gap : (s t : ℤ) → pos 0 <ℤ (t -ℤ s) → s <ℤ t
  no_gap s t h = omega (arith, ints, h)

  pub beyond_of : (x y : Coords) → side p q x ≡ pos 0 → side p q y ≡ pos 0 → along p q x <ℤ along p q y → side l r x <ℤ side l r y
  beyond_of x y on_x on_y lt =
      no_gap (side l r x) (side l r y) (over_by (side l r y -ℤ side l r x) (norm p q) _ (turn (norm p q) (side l r y -ℤ side l r x) ∙ step x y on_x on_y) long_way
      (mul-positive (along p q y -ℤ along p q x) (side p q l -ℤ side p q r) (gap (along p q x) (along p q y) lt) width))

  pub along_of : (x y : Coords) → side p q x ≡ pos 0 → side p q y ≡ pos 0 → side l r x <ℤ side l r y → along p q x <ℤ along p q y
  along_of x y on_x on_y lt =
      no_gap (along p q x) (along p q y) (over_by (along p q y -ℤ along p q x) (side p q l -ℤ side p q r) _ (sym (step x y on_x on_y)) width
      (mul-positive (norm p q) (side l r y -ℤ side l r x) long_way (gap (side l r x) (side l r y) lt)))

  -- ---- the triangle lrd beyond it
  module _ (d : Coords) (turned : pos 0 <ℤ side l r d) (x : Coords) (on : side p q x ≡ pos 0) where
    from_r : side r d x *ℤ (side p q l -ℤ side p q r) ≡ side l r d *ℤ (pos 0 -ℤ side p q r) -ℤ side l r x *ℤ (side p q d -ℤ side p q r)
    from_r = pencil_r p q l r d x ∙ (λ i. side l r d *ℤ (on i -ℤ side p q r) -ℤ side l r x *ℤ (side p q d -ℤ side p q r))

    from_l : side d l x *ℤ (side p q l -ℤ side p q r) ≡ side l r d *ℤ (side p q l -ℤ pos 0) -ℤ side l r x *ℤ (side p q l -ℤ side p q d)
    from_l = pencil_l p q l r d x ∙ (λ i. side l r d *ℤ (side p q l -ℤ on i) -ℤ side l r x *ℤ (side p q l -ℤ side p q d))

    none : side l r d *ℤ side p q x ≡ pos 0
    none = times_zero (side l r d) (side p q x) on

    minus : (s : ℤ) → s <ℤ pos 0 → pos 0 <ℤ (pos 0 -ℤ s)
    minus s h = omega (arith, ints, h)

    less_none : (s : ℤ) → pos 0 <ℤ s → pos 0 <ℤ (s -ℤ pos 0)
    less_none s h = omega (arith, ints, h)

    apart : (s t : ℤ) → pos 0 <ℤ s → t ≤ℤ pos 0 → pos 0 <ℤ (s -ℤ t)
    apart s t h k = omega (arith, ints, h, k)

    low : (x y : ℤ) → x ≤ℤ pos 0 → pos 0 <ℤ y → (x *ℤ y) ≤ℤ pos 0
    low x y h k = subst (λ z. z ≤ℤ pos 0) (turn x y) (mul-mixed y x (weaken y k) h)

    -- ---- d to the left: the way goes on over the edge from r to d
    module _ (d_left : pos 0 <ℤ side p q d) where
      -- what is not beyond the first edge is before the next
      pub left_before : side l r x ≤ℤ pos 0 → pos 0 <ℤ side r d x
      left_before le =
          over_by (side r d x) (side p q l -ℤ side p q r) _ from_r width
          (apart (side l r d *ℤ (pos 0 -ℤ side p q r)) (side l r x *ℤ (side p q d -ℤ side p q r)) (mul-positive (side l r d) (pos 0 -ℤ side p q r) turned (minus (side p q r) right))
          (low (side l r x) (side p q d -ℤ side p q r) le (both (side p q d) (side p q r) d_left right)))
        where
          both : (s t : ℤ) → pos 0 <ℤ s → t <ℤ pos 0 → pos 0 <ℤ (s -ℤ t)
          both s t h k = omega (arith, ints, h, k)

      -- what is between the two lies within the triangle
      pub left_within : pos 0 <ℤ side l r x → pos 0 ≤ℤ side r d x → pos 0 <ℤ side d l x
      left_within lt ge =
          positive_by (side d l x) (side p q r) _ (sum (side l r d *ℤ side p q x) (side l r x *ℤ side p q d) (side r d x *ℤ side p q l) (side d l x *ℤ side p q r) (parts p q l r d x) none) right
          (down (side l r x *ℤ side p q d) (side r d x *ℤ side p q l) (mul-positive (side l r x) (side p q d) lt d_left) (mul-nonneg (side r d x) (side p q l) ge (weaken (side p q l) left)))
        where
          sum : (o s t u : ℤ) → o ≡ s +ℤ t +ℤ u → o ≡ pos 0 → u ≡ pos 0 -ℤ (s +ℤ t)
          sum o s t u e f = omega (arith, ints, e, f)

          down : (s t : ℤ) → pos 0 <ℤ s → pos 0 ≤ℤ t → (pos 0 -ℤ (s +ℤ t)) <ℤ pos 0
          down s t h k = omega (arith, ints, h, k)

    -- ---- d to the right: it goes on over the edge from d to l
    module _ (d_right : side p q d <ℤ pos 0) where
      pub right_before : side l r x ≤ℤ pos 0 → pos 0 <ℤ side d l x
      right_before le =
          over_by (side d l x) (side p q l -ℤ side p q r) _ from_l width
          (apart (side l r d *ℤ (side p q l -ℤ pos 0)) (side l r x *ℤ (side p q l -ℤ side p q d)) (mul-positive (side l r d) (side p q l -ℤ pos 0) turned (less_none (side p q l) left))
          (low (side l r x) (side p q l -ℤ side p q d) le (both (side p q l) (side p q d) left d_right)))
        where
          both : (s t : ℤ) → pos 0 <ℤ s → t <ℤ pos 0 → pos 0 <ℤ (s -ℤ t)
          both s t h k = omega (arith, ints, h, k)

      pub right_within : pos 0 <ℤ side l r x → pos 0 ≤ℤ side d l x → pos 0 <ℤ side r d x
      right_within lt ge =
          over_by (side r d x) (side p q l) _ (sum (side l r d *ℤ side p q x) (side l r x *ℤ side p q d) (side r d x *ℤ side p q l) (side d l x *ℤ side p q r) (parts p q l r d x) none) left
          (up (side l r x *ℤ side p q d) (side d l x *ℤ side p q r) (mul-low (side l r x) (side p q d) lt d_right) (mul-mixed (side d l x) (side p q r) ge (below (side p q r) right)))
        where
          sum : (o s t u : ℤ) → o ≡ s +ℤ t +ℤ u → o ≡ pos 0 → t ≡ pos 0 -ℤ (s +ℤ u)
          sum o s t u e f = omega (arith, ints, e, f)

          up : (s t : ℤ) → s <ℤ pos 0 → t ≤ℤ pos 0 → pos 0 <ℤ (pos 0 -ℤ (s +ℤ t))
          up s t h k = omega (arith, ints, h, k)

          below : (s : ℤ) → s <ℤ pos 0 → s ≤ℤ pos 0
          below s h = omega (arith, ints, h)

    -- ---- d on the way: what is beyond the edge and comes before d lies within the triangle
    module _ (d_on : side p q d ≡ pos 0) (before : along p q x <ℤ along p q d) where
      farther : side l r x <ℤ side l r d
      farther = beyond_of x d on d_on before

      pub on_within_r : pos 0 <ℤ side r d x
      on_within_r =
          over_by (side r d x) (side p q l -ℤ side p q r) _ (from_r ∙ (λ i. side l r d *ℤ (pos 0 -ℤ side p q r) -ℤ side l r x *ℤ (d_on i -ℤ side p q r)) ∙ factor (side l r d) (side l r x) (pos 0 -ℤ side p q r)) width
          (mul-positive (side l r d -ℤ side l r x) (pos 0 -ℤ side p q r) (gap (side l r x) (side l r d) farther) (minus (side p q r) right))
        where
          factor : (a b c : ℤ) → a *ℤ c -ℤ b *ℤ c ≡ (a -ℤ b) *ℤ c
          factor a b c = ring (a ∷ b ∷ c ∷ []) (var 0 ⊗ var 2 ⊖ var 1 ⊗ var 2) ((var 0 ⊖ var 1) ⊗ var 2) refl

      pub on_within_l : pos 0 <ℤ side d l x
      on_within_l =
          over_by (side d l x) (side p q l -ℤ side p q r) _ (from_l ∙ (λ i. side l r d *ℤ (side p q l -ℤ pos 0) -ℤ side l r x *ℤ (side p q l -ℤ d_on i)) ∙ factor (side l r d) (side l r x) (side p q l -ℤ pos 0)) width
          (mul-positive (side l r d -ℤ side l r x) (side p q l -ℤ pos 0) (gap (side l r x) (side l r d) farther) (less_none (side p q l) left))
        where
          factor : (a b c : ℤ) → a *ℤ c -ℤ b *ℤ c ≡ (a -ℤ b) *ℤ c
          factor a b c = ring (a ∷ b ∷ c ∷ []) (var 0 ⊗ var 2 ⊖ var 1 ⊗ var 2) ((var 0 ⊖ var 1) ⊗ var 2) refl

-- ---- the triangle vab at a place v on the way, with b to the left of it, and places x ahead on it
module _ (p q v a b x : Coords) (turned : pos 0 <ℤ side v a b) (on_v : side p q v ≡ pos 0) (on_x : side p q x ≡ pos 0) (ahead : along p q v <ℤ along p q x) where
  far_way : pos 0 <ℤ norm p q
  far_way = long_along p q v x ahead

  more_on : (s t : ℤ) → s <ℤ t → pos 0 <ℤ (t -ℤ s)
  more_on s t h = omega (arith, ints, h)

  opposite : (s : ℤ) → s <ℤ pos 0 → pos 0 <ℤ (pos 0 -ℤ s)
  opposite s h = omega (arith, ints, h)

  gap_x : pos 0 <ℤ (along p q x -ℤ along p q v)
  gap_x = more_on (along p q v) (along p q x) ahead

  by_norm : (s t : ℤ) → norm p q *ℤ s ≡ t → pos 0 <ℤ t → pos 0 <ℤ s
  by_norm s t e h = over_by s (norm p q) t (turn (norm p q) s ∙ e) far_way h

  -- how x lies to the edge from v to c, by where c lies to the way
  to_v : (c : Coords) → norm p q *ℤ side v c x ≡ (along p q x -ℤ along p q v) *ℤ (pos 0 -ℤ side p q c)
  to_v c = spread p q v c x ∙ (λ i. (along p q x -ℤ along p q v) *ℤ (on_x i -ℤ side p q c) -ℤ (along p q x -ℤ along p q c) *ℤ (on_x i -ℤ on_v i)) ∙ rest (along p q x -ℤ along p q v) (pos 0 -ℤ side p q c) (along p q x -ℤ along p q c)
    where
      rest : (s z t : ℤ) → s *ℤ z -ℤ t *ℤ (pos 0 -ℤ pos 0) ≡ s *ℤ z
      rest s z t = omega (arith, ints)

  pub c_right : (c : Coords) → pos 0 <ℤ side v c x → side p q c <ℤ pos 0
  c_right c h = below (side p q c) (over_by (pos 0 -ℤ side p q c) (along p q x -ℤ along p q v) (norm p q *ℤ side v c x) (turn (along p q x -ℤ along p q v) (pos 0 -ℤ side p q c) ∙ sym (to_v c)) gap_x (mul-positive (norm p q) (side v c x) far_way h))
    where
      below : (s : ℤ) → pos 0 <ℤ (pos 0 -ℤ s) → s <ℤ pos 0
      below s h = omega (arith, ints, h)

  pub c_left : (c : Coords) → side v c x <ℤ pos 0 → pos 0 <ℤ side p q c
  c_left c h = above (side p q c) (negative_by (pos 0 -ℤ side p q c) (along p q x -ℤ along p q v) (norm p q *ℤ side v c x) (turn (along p q x -ℤ along p q v) (pos 0 -ℤ side p q c) ∙ sym (to_v c)) gap_x (mul-low (norm p q) (side v c x) far_way h))
    where
      above : (s : ℤ) → (pos 0 -ℤ s) <ℤ pos 0 → pos 0 <ℤ s
      above s h = omega (arith, ints, h)

  pub c_on : (c : Coords) → side v c x ≡ pos 0 → side p q c ≡ pos 0
  c_on c e = elim (mul-eq-zero (along p q x -ℤ along p q v) (pos 0 -ℤ side p q c) (sym (to_v c) ∙ times_zero (norm p q) (side v c x) e)) as (λ _. side p q c ≡ pos 0) [
    | inl f ↦ absurd (clash (along p q x -ℤ along p q v) gap_x f)
    | inr f ↦ level (side p q c) f
  ]
    where
      clash : (s : ℤ) → pos 0 <ℤ s → s ≡ pos 0 → ⊥
      clash s h e = omega (arith, ints, h, e)

      level : (s : ℤ) → pos 0 -ℤ s ≡ pos 0 → s ≡ pos 0
      level s e = omega (arith, ints, e)

  pub in_va : side p q a <ℤ pos 0 → pos 0 <ℤ side v a x
  in_va h = by_norm (side v a x) ((along p q x -ℤ along p q v) *ℤ (pos 0 -ℤ side p q a)) (to_v a) (mul-positive (along p q x -ℤ along p q v) (pos 0 -ℤ side p q a) gap_x (opposite (side p q a) h))

  module _ (b_left : pos 0 <ℤ side p q b) where
    pub in_bv : pos 0 <ℤ side b v x
    in_bv = by_norm (side b v x) ((along p q x -ℤ along p q v) *ℤ side p q b)
        (spread p q b v x ∙ (λ i. (along p q x -ℤ along p q b) *ℤ (on_x i -ℤ on_v i) -ℤ (along p q x -ℤ along p q v) *ℤ (on_x i -ℤ side p q b)) ∙ rest (along p q x -ℤ along p q b) (along p q x -ℤ along p q v) (side p q b))
        (mul-positive (along p q x -ℤ along p q v) (side p q b) gap_x b_left)
      where
        rest : (t s z : ℤ) → t *ℤ (pos 0 -ℤ pos 0) -ℤ s *ℤ (pos 0 -ℤ z) ≡ s *ℤ z
        rest t s z = ring (t ∷ s ∷ z ∷ []) (var 0 ⊗ (num (pos 0) ⊖ num (pos 0)) ⊖ var 1 ⊗ (num (pos 0) ⊖ var 2)) (var 1 ⊗ var 2) refl

    -- ---- a on the way
    module _ (a_on : side p q a ≡ pos 0) where
      flat_va : side v a x ≡ pos 0
      flat_va = elim (mul-eq-zero (norm p q) (side v a x) (to_v a ∙ times_zero (along p q x -ℤ along p q v) (pos 0 -ℤ side p q a) (zero (side p q a) a_on))) as (λ _. side v a x ≡ pos 0) [
        | inl e ↦ absurd (clash (norm p q) far_way e)
        | inr e ↦ e
      ]
        where
          zero : (s : ℤ) → s ≡ pos 0 → pos 0 -ℤ s ≡ pos 0
          zero s e = omega (arith, ints, e)

          clash : (s : ℤ) → pos 0 <ℤ s → s ≡ pos 0 → ⊥
          clash s h e = omega (arith, ints, h, e)

      pub on_va : pos 0 ≤ℤ side v a x
      on_va = low (side v a x) flat_va
        where
          low : (s : ℤ) → s ≡ pos 0 → pos 0 ≤ℤ s
          low s e = omega (arith, ints, e)

      pub a_ahead : along p q v <ℤ along p q a
      a_ahead = no_more (along p q v) (along p q a) (over_by (along p q a -ℤ along p q v) (side p q b) (norm p q *ℤ side v a b) (sym whole) b_left (mul-positive (norm p q) (side v a b) far_way turned))
        where
          no_more : (s t : ℤ) → pos 0 <ℤ (t -ℤ s) → s <ℤ t
          no_more s t h = omega (arith, ints, h)

          rest : (bb av aa z : ℤ) → (bb -ℤ av) *ℤ (z -ℤ pos 0) -ℤ (bb -ℤ aa) *ℤ (z -ℤ pos 0) ≡ (aa -ℤ av) *ℤ z
          rest bb av aa z = ring (bb ∷ av ∷ aa ∷ z ∷ []) ((var 0 ⊖ var 1) ⊗ (var 3 ⊖ num (pos 0)) ⊖ (var 0 ⊖ var 2) ⊗ (var 3 ⊖ num (pos 0))) ((var 2 ⊖ var 1) ⊗ var 3) refl

          whole : norm p q *ℤ side v a b ≡ (along p q a -ℤ along p q v) *ℤ side p q b
          whole = spread p q v a b ∙ (λ i. (along p q b -ℤ along p q v) *ℤ (side p q b -ℤ a_on i) -ℤ (along p q b -ℤ along p q a) *ℤ (side p q b -ℤ on_v i)) ∙ rest (along p q b) (along p q v) (along p q a) (side p q b)

      pub in_ab : along p q x <ℤ along p q a → pos 0 <ℤ side a b x
      in_ab lt = by_norm (side a b x) ((along p q a -ℤ along p q x) *ℤ side p q b)
          (spread p q a b x ∙ (λ i. (along p q x -ℤ along p q a) *ℤ (on_x i -ℤ side p q b) -ℤ (along p q x -ℤ along p q b) *ℤ (on_x i -ℤ a_on i)) ∙ rest (along p q x) (along p q a) (along p q b) (side p q b))
          (mul-positive (along p q a -ℤ along p q x) (side p q b) (more_on (along p q x) (along p q a) lt) b_left)
        where
          rest : (xx aa bb z : ℤ) → (xx -ℤ aa) *ℤ (pos 0 -ℤ z) -ℤ (xx -ℤ bb) *ℤ (pos 0 -ℤ pos 0) ≡ (aa -ℤ xx) *ℤ z
          rest xx aa bb z = ring (xx ∷ aa ∷ bb ∷ z ∷ []) ((var 0 ⊖ var 1) ⊗ (num (pos 0) ⊖ var 3) ⊖ (var 0 ⊖ var 2) ⊗ (num (pos 0) ⊖ num (pos 0))) ((var 1 ⊖ var 0) ⊗ var 3) refl
