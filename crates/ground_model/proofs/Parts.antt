-- Parts of a link: which cross a segment, and where.
use Rattle.std.proofs.Common.{◌≡◌, ◌+◌, refl, sym, ap, ◌∙◌, subst, arith, true, [], ◌∷◌, ⊎_elim}
use Rattle.std.specs.Prelude.{ℤ, pos, ◌+ℤ◌, ◌-ℤ◌, ◌*ℤ◌, ◌<ℤ◌, ◌&&◌}
use Rattle.std.proofs.lemmas.Int.{ints}
use Rattle.std.proofs.lemmas.Bool.{and_from, true_from_ne_false}
use Rattle.ground_model.specs.Place.{Coords, is_before}
use Rattle.ground_model.specs.Side.{side, is_on_segment}
use Rattle.ground_model.proofs.Ring.{Expr, var, ◌⊕◌, ◌⊖◌, ◌⊗◌, ring}
use Rattle.ground_model.proofs.ZLaws.{zero-mul}
use Rattle.ground_model.proofs.ZOrder.{mul-eq-zero, mul-positive}
use Rattle.ground_model.proofs.Circle.{env, sideE}
use Rattle.ground_model.proofs.Along.{not_zero_left, negative_factor, times_negative, square_positive, square_nonneg, not_square, outer, UpTo, up_to, not_before, same_place, Mean, mean_by, mean_of_on, collinear_of_on}
use Rattle.ground_model.proofs.Segments.{not_after, mean_order, side_of_mean, factor, side_of_means, Crossed, on_crossed}

-- ---- a part of a link crosses where the link does
-- multiples that agree pair by pair have products that agree
products : (k f x y z w : ℤ) → k *ℤ x ≡ f *ℤ z → k *ℤ y ≡ f *ℤ w → (k *ℤ k) *ℤ (x *ℤ y) ≡ (f *ℤ f) *ℤ (z *ℤ w)
products k f x y z w e e' =
    ring (k ∷ x ∷ y ∷ []) ((var 0 ⊗ var 0) ⊗ (var 1 ⊗ var 2)) ((var 0 ⊗ var 1) ⊗ (var 0 ⊗ var 2)) refl
    ∙ (λ i. e i *ℤ e' i)
    ∙ ring (f ∷ z ∷ w ∷ []) ((var 0 ⊗ var 1) ⊗ (var 0 ⊗ var 2)) ((var 0 ⊗ var 0) ⊗ (var 1 ⊗ var 2)) refl

-- one difference of sides, taken from either segment
sides_differ : (s t p q : Coords) → side p q t -ℤ side p q s ≡ side s t p -ℤ side s t q
unfolding side
sides_differ s t p q = ring (env (s ∷ t ∷ p ∷ q ∷ [])) (sideE 2 3 1 ⊖ sideE 2 3 0) (sideE 0 1 2 ⊖ sideE 0 1 3) refl

times_none : (x : ℤ) → x *ℤ pos 0 ≡ pos 0
times_none x = omega (arith, ints)

-- means of means, by the products of their weights
weightE : Expr → Expr → Expr → Expr → Expr → Expr → Expr
weightE l m k k' i j = l ⊗ (k' ⊗ i) ⊕ m ⊗ (k ⊗ j)

weights : (l m i j i' j' : ℤ) → (l *ℤ ((i' +ℤ j') *ℤ i) +ℤ m *ℤ ((i +ℤ j) *ℤ i')) +ℤ (l *ℤ ((i' +ℤ j') *ℤ j) +ℤ m *ℤ ((i +ℤ j) *ℤ j')) ≡ (l +ℤ m) *ℤ ((i +ℤ j) *ℤ (i' +ℤ j'))
unfolding weightE
weights l m i j i' j' = ring (l ∷ m ∷ i ∷ j ∷ i' ∷ j' ∷ [])
    (weightE (var 0) (var 1) (var 2 ⊕ var 3) (var 4 ⊕ var 5) (var 2) (var 4) ⊕ weightE (var 0) (var 1) (var 2 ⊕ var 3) (var 4 ⊕ var 5) (var 3) (var 5))
    ((var 0 ⊕ var 1) ⊗ ((var 2 ⊕ var 3) ⊗ (var 4 ⊕ var 5))) refl

composed : (l m i j i' j' r x y a b : ℤ) → (l +ℤ m) *ℤ r ≡ l *ℤ x +ℤ m *ℤ y → (i +ℤ j) *ℤ x ≡ i *ℤ a +ℤ j *ℤ b → (i' +ℤ j') *ℤ y ≡ i' *ℤ a +ℤ j' *ℤ b
    → ((l *ℤ ((i' +ℤ j') *ℤ i) +ℤ m *ℤ ((i +ℤ j) *ℤ i')) +ℤ (l *ℤ ((i' +ℤ j') *ℤ j) +ℤ m *ℤ ((i +ℤ j) *ℤ j'))) *ℤ r ≡ (l *ℤ ((i' +ℤ j') *ℤ i) +ℤ m *ℤ ((i +ℤ j) *ℤ i')) *ℤ a +ℤ (l *ℤ ((i' +ℤ j') *ℤ j) +ℤ m *ℤ ((i +ℤ j) *ℤ j')) *ℤ b
unfolding weightE
composed l m i j i' j' r x y a b e f g =
    ap (λ k. k *ℤ r) (weights l m i j i' j')
    ∙ ring ((l +ℤ m) ∷ (i +ℤ j) ∷ (i' +ℤ j') ∷ r ∷ []) ((var 0 ⊗ (var 1 ⊗ var 2)) ⊗ var 3) ((var 1 ⊗ var 2) ⊗ (var 0 ⊗ var 3)) refl
    ∙ ap (λ k. ((i +ℤ j) *ℤ (i' +ℤ j')) *ℤ k) e
    ∙ ring (l ∷ m ∷ (i +ℤ j) ∷ (i' +ℤ j') ∷ x ∷ y ∷ []) ((var 2 ⊗ var 3) ⊗ (var 0 ⊗ var 4 ⊕ var 1 ⊗ var 5)) ((var 0 ⊗ var 3) ⊗ (var 2 ⊗ var 4) ⊕ (var 1 ⊗ var 2) ⊗ (var 3 ⊗ var 5)) refl
    ∙ (λ t. (l *ℤ (i' +ℤ j')) *ℤ f t +ℤ (m *ℤ (i +ℤ j)) *ℤ g t)
    ∙ ring (l ∷ m ∷ i ∷ j ∷ i' ∷ j' ∷ a ∷ b ∷ [])
    ((var 0 ⊗ (var 4 ⊕ var 5)) ⊗ (var 2 ⊗ var 6 ⊕ var 3 ⊗ var 7) ⊕ (var 1 ⊗ (var 2 ⊕ var 3)) ⊗ (var 4 ⊗ var 6 ⊕ var 5 ⊗ var 7))
    (weightE (var 0) (var 1) (var 2 ⊕ var 3) (var 4 ⊕ var 5) (var 2) (var 4) ⊗ var 6 ⊕ weightE (var 0) (var 1) (var 2 ⊕ var 3) (var 4 ⊕ var 5) (var 3) (var 5) ⊗ var 7) refl

-- p and q are places of the link uv
module _ (u v p q : Coords) (a : Mean u v p) (b : Mean u v q) where
  weight : ℤ
  weight = pos (a.l + a.m) *ℤ pos (b.l + b.m)

  weight_some : pos 0 <ℤ weight
  unfolding weight
  weight_some = mul-positive (pos (a.l + a.m)) (pos (b.l + b.m)) (omega (arith, ints, a.some)) (omega (arith, ints, b.some))

  weighs : (y : Coords) → weight *ℤ side p q y ≡ factor a b *ℤ side u v y
  unfolding weight
  weighs = side_of_means u v p q a b

  -- what crosses the part crosses the link
  pub crossed_outer : (s t : Coords) → Crossed s t p q → Crossed s t u v
  crossed_outer s t h = record {
    first = outer a.l a.m b.l b.m (side s t u) (side s t v) (side s t p) (side s t q) a.some b.some (side_of_mean u v p a s t) (side_of_mean u v q b s t) h.first;
    second = negative_factor (factor a b *ℤ factor a b) (side u v s *ℤ side u v t) (square_nonneg (factor a b))
        (subst (λ k. k <ℤ pos 0) (products weight (factor a b) (side p q s) (side p q t) (side u v s) (side u v t) (weighs s) (weighs t))
        (times_negative (weight *ℤ weight) (side p q s *ℤ side p q t) (mul-positive weight weight weight_some weight_some) h.second));
  }

  collinear_by_factor : (x : Coords) → factor a b *ℤ side u v x ≡ pos 0 → side p q x ≡ pos 0
  collinear_by_factor x e = ⊎_elim (λ f. absurd (positive weight weight_some f)) (λ f. f) (mul-eq-zero weight (side p q x) (weighs x ∙ e))
    where
      positive : (z : ℤ) → pos 0 <ℤ z → z ≡ pos 0 → ⊥
      positive z h f = omega (arith, ints, f)

  pub collinear_between : (x : Coords) → side u v x ≡ pos 0 → side p q x ≡ pos 0
  collinear_between x flat = collinear_by_factor x (ap (λ k. factor a b *ℤ k) flat ∙ times_none (factor a b))

  -- what crosses the link crosses a part whose ends it parts
  pub crossed_inner : (s t : Coords) → Crossed s t u v → (side s t p *ℤ side s t q) <ℤ pos 0 → Crossed s t p q
  crossed_inner s t h lt = record {
    first = lt;
    second = negative_factor (weight *ℤ weight) (side p q s *ℤ side p q t) (square_nonneg weight)
        (subst (λ k. k <ℤ pos 0) (sym (products weight (factor a b) (side p q s) (side p q t) (side u v s) (side u v t) (weighs s) (weighs t)))
        (times_negative (factor a b *ℤ factor a b) (side u v s *ℤ side u v t) (square_positive (factor a b) some) h.second));
  }
    where
      flat : factor a b ≡ pos 0 → (y : Coords) → side p q y ≡ pos 0
      flat none y = collinear_by_factor y (ap (λ k. k *ℤ side u v y) none ∙ zero-mul (side u v y))

      alike : (x y z w : ℤ) → x -ℤ y ≡ z -ℤ w → x ≡ pos 0 → y ≡ pos 0 → w ≡ z
      alike x y z w e f g = omega (arith, ints, e, f, g)

      some : ¬ (factor a b ≡ pos 0)
      some none = not_square (side s t p) (subst (λ k. (side s t p *ℤ k) <ℤ pos 0) (alike (side p q t) (side p q s) (side s t p) (side s t q) (sides_differ s t p q) (flat none t) (flat none s)) lt)

  -- a place at which the link is crossed lies strictly between the ends of the part that is crossed
  pub crossing_between : (s t x : Coords) → Crossed s t p q → is_before p q ≡ true → is_on_segment s t x ≡ true → is_on_segment u v x ≡ true → (is_on_segment p q x && is_before p x && is_before x q) ≡ true
  crossing_between s t x h lt on on' = and_from (is_on_segment p q x && is_before p x) (is_before x q) (and_from (is_on_segment p q x) (is_before p x) between after) before
    where
      between : is_on_segment p q x ≡ true
      between = on_crossed p q s t x (collinear_between x (collinear_of_on u v x on')) (collinear_of_on s t x on) h.first

      order : UpTo p x × UpTo x q
      order = mean_order p q x (mean_of_on p q x between) (up_to p q (not_after p q lt))

      not_first : ¬ (p ≡ x)
      not_first e = not_zero_left (side s t p) (side s t q) (ap (side s t) e ∙ collinear_of_on s t x on) h.first

      not_last : ¬ (x ≡ q)
      not_last e = not_zero_left (side s t q) (side s t p) (ap (side s t) (sym e) ∙ collinear_of_on s t x on) (turned (side s t p) (side s t q) h.first)
        where
          turned : (y z : ℤ) → (y *ℤ z) <ℤ pos 0 → (z *ℤ y) <ℤ pos 0
          turned y z h = omega (arith, ints, h)

      after : is_before p x ≡ true
      after = true_from_ne_false (is_before p x) (λ e. not_first (same_place p x e (not_before p x order.0)))

      before : is_before x q ≡ true
      before = true_from_ne_false (is_before x q) (λ e. not_last (same_place x q e (not_before x q order.1)))

  -- a place between two places of a link is one of the link
  pub mean_inside : (r : Coords) → Mean p q r → Mean u v r
  mean_inside r c = mean_by u v r
      (pos c.l *ℤ (pos (b.l + b.m) *ℤ pos a.l) +ℤ pos c.m *ℤ (pos (a.l + a.m) *ℤ pos b.l))
      (pos c.l *ℤ (pos (b.l + b.m) *ℤ pos a.m) +ℤ pos c.m *ℤ (pos (a.l + a.m) *ℤ pos b.m))
      (omega (arith, ints)) (omega (arith, ints))
      (subst (λ k. pos 0 <ℤ k) (sym (weights (pos c.l) (pos c.m) (pos a.l) (pos a.m) (pos b.l) (pos b.m)))
      (mul-positive (pos (c.l + c.m)) (pos (a.l + a.m) *ℤ pos (b.l + b.m)) (omega (arith, ints, c.some)) (mul-positive (pos (a.l + a.m)) (pos (b.l + b.m)) (omega (arith, ints, a.some)) (omega (arith, ints, b.some)))))
      (composed (pos c.l) (pos c.m) (pos a.l) (pos a.m) (pos b.l) (pos b.m) r.e p.e q.e u.e v.e c.e_is a.e_is b.e_is)
      (composed (pos c.l) (pos c.m) (pos a.l) (pos a.m) (pos b.l) (pos b.m) r.n p.n q.n u.n v.n c.n_is a.n_is b.n_is)
