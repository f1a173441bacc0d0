-- Of two places as far from a line, which comes first along it.
use Rattle.std.proofs.Common.{◌≡◌, ℕ, ◌+◌, [], ◌∷◌, refl, sym, subst, ◌∙◌, inl, inr, arith}
use Rattle.std.specs.Prelude.{ℤ, pos, ◌+ℤ◌, ◌-ℤ◌, ◌*ℤ◌, ◌<ℤ◌, ◌≤ℤ◌}
use Rattle.std.proofs.lemmas.Int.{ints, by_lt_z}
use Rattle.ground_model.specs.Place.{Coords}
use Rattle.ground_model.specs.Side.{side}
use Rattle.ground_model.proofs.Circle.{env, sideE}
use Rattle.ground_model.proofs.Ring.{Expr, var, ◌⊕◌, ◌⊖◌, ◌⊗◌, ring}
use Rattle.ground_model.proofs.ZOrder.{mul-positive, mul-eq-zero}
use Rattle.predicates.proofs.Signs.{mul-nonneg, mul-nonpos, mul-mixed, weaken}
use Rattle.crossing_law.specs.Runs.{along, TieLaw}

-- the square of the length of the way from p to q
abbrev pub norm : Coords → Coords → ℤ
norm p q = (q.e -ℤ p.e) *ℤ (q.e -ℤ p.e) +ℤ (q.n -ℤ p.n) *ℤ (q.n -ℤ p.n)

unfoldable pub alongE : ℕ → ℕ → ℕ → Expr
alongE a b c = (var (b + b) ⊖ var (a + a)) ⊗ (var (c + c) ⊖ var (a + a)) ⊕ (var (b + b + 1) ⊖ var (a + a + 1)) ⊗ (var (c + c + 1) ⊖ var (a + a + 1))

unfoldable pub normE : ℕ → ℕ → Expr
normE a b = (var (b + b) ⊖ var (a + a)) ⊗ (var (b + b) ⊖ var (a + a)) ⊕ (var (b + b + 1) ⊖ var (a + a + 1)) ⊗ (var (b + b + 1) ⊖ var (a + a + 1))

-- p, q, w, x, y have numbers 0 to 4
pub spread : (p q w x y : Coords) → norm p q *ℤ side w x y ≡ (along p q y -ℤ along p q w) *ℤ (side p q y -ℤ side p q x) -ℤ (along p q y -ℤ along p q x) *ℤ (side p q y -ℤ side p q w)
unfolding side alongE normE
spread p q w x y = ring (env (p ∷ q ∷ w ∷ x ∷ y ∷ [])) (normE 0 1 ⊗ sideE 2 3 4) ((alongE 0 1 4 ⊖ alongE 0 1 2) ⊗ (sideE 0 1 4 ⊖ sideE 0 1 3) ⊖ (alongE 0 1 4 ⊖ alongE 0 1 3) ⊗ (sideE 0 1 4 ⊖ sideE 0 1 2)) refl

spread_back : (p q w x y : Coords) → norm p q *ℤ side w x y ≡ (along p q w -ℤ along p q x) *ℤ (side p q w -ℤ side p q y) -ℤ (along p q w -ℤ along p q y) *ℤ (side p q w -ℤ side p q x)
unfolding side alongE normE
spread_back p q w x y = ring (env (p ∷ q ∷ w ∷ x ∷ y ∷ [])) (normE 0 1 ⊗ sideE 2 3 4) ((alongE 0 1 2 ⊖ alongE 0 1 3) ⊗ (sideE 0 1 2 ⊖ sideE 0 1 4) ⊖ (alongE 0 1 2 ⊖ alongE 0 1 4) ⊗ (sideE 0 1 2 ⊖ sideE 0 1 3)) refl

apart : (p q x w : Coords) → side p q x -ℤ side p q w ≡ (q.e -ℤ p.e) *ℤ (x.n -ℤ w.n) -ℤ (q.n -ℤ p.n) *ℤ (x.e -ℤ w.e)
unfolding side
apart p q x w = ring (env (p ∷ q ∷ x ∷ w ∷ [])) (sideE 0 1 2 ⊖ sideE 0 1 3) ((var 2 ⊖ var 0) ⊗ (var 5 ⊖ var 7) ⊖ (var 3 ⊖ var 1) ⊗ (var 4 ⊖ var 6)) refl

-- ---- how long the way is
square : (x : ℤ) → pos 0 ≤ℤ (x *ℤ x)
square x = by_lt_z (pos 0) x (λ lt. mul-nonneg x x (weaken x lt) (weaken x lt)) (λ le. mul-nonpos x x le le)

-- a way is long unless it goes neither east nor north
pub long_unless : (p q : Coords) → (q.e -ℤ p.e ≡ pos 0 → q.n -ℤ p.n ≡ pos 0 → ⊥) → pos 0 <ℤ norm p q
long_unless p q some = by_lt_z (pos 0) (norm p q) (λ h. h) (λ le. absurd (some
    (root (q.e -ℤ p.e) (first_none ((q.e -ℤ p.e) *ℤ (q.e -ℤ p.e)) ((q.n -ℤ p.n) *ℤ (q.n -ℤ p.n)) (square (q.e -ℤ p.e)) (square (q.n -ℤ p.n)) le))
    (root (q.n -ℤ p.n) (last_none ((q.e -ℤ p.e) *ℤ (q.e -ℤ p.e)) ((q.n -ℤ p.n) *ℤ (q.n -ℤ p.n)) (square (q.e -ℤ p.e)) (square (q.n -ℤ p.n)) le))))
  where
    first_none : (s t : ℤ) → pos 0 ≤ℤ s → pos 0 ≤ℤ t → (s +ℤ t) ≤ℤ pos 0 → s ≡ pos 0
    first_none s t h k le = omega (arith, ints, h, k, le)

    last_none : (s t : ℤ) → pos 0 ≤ℤ s → pos 0 ≤ℤ t → (s +ℤ t) ≤ℤ pos 0 → t ≡ pos 0
    last_none s t h k le = omega (arith, ints, h, k, le)

    root : (x : ℤ) → x *ℤ x ≡ pos 0 → x ≡ pos 0
    root x e = elim (mul-eq-zero x x e) as (λ _. x ≡ pos 0) [ inl f ↦ f | inr f ↦ f ]

none_times : (x y : ℤ) → x ≡ pos 0 → x *ℤ y ≡ pos 0
none_times x y e = (λ i. e i *ℤ y) ∙ nothing y
  where
    nothing : (y : ℤ) → pos 0 *ℤ y ≡ pos 0
    nothing y = omega (arith, ints)

-- where two places lie at two distances from its line
pub long : (p q x w : Coords) → side p q x <ℤ side p q w → pos 0 <ℤ norm p q
long p q x w lt = long_unless p q (λ e f. flat (side p q x) (side p q w) ((q.e -ℤ p.e) *ℤ (x.n -ℤ w.n)) ((q.n -ℤ p.n) *ℤ (x.e -ℤ w.e)) lt (apart p q x w) (none_times (q.e -ℤ p.e) (x.n -ℤ w.n) e) (none_times (q.n -ℤ p.n) (x.e -ℤ w.e) f))
  where
    flat : (s t a b : ℤ) → s <ℤ t → s -ℤ t ≡ a -ℤ b → a ≡ pos 0 → b ≡ pos 0 → ⊥
    flat s t a b lt e f g = omega (arith, ints, lt, e, f, g)

-- where one place is farther along it than another
pub long_along : (p q x w : Coords) → along p q x <ℤ along p q w → pos 0 <ℤ norm p q
long_along p q x w lt = long_unless p q (λ e f. flat ((q.e -ℤ p.e) *ℤ (x.e -ℤ p.e)) ((q.n -ℤ p.n) *ℤ (x.n -ℤ p.n)) ((q.e -ℤ p.e) *ℤ (w.e -ℤ p.e)) ((q.n -ℤ p.n) *ℤ (w.n -ℤ p.n)) lt
    (none_times (q.e -ℤ p.e) (x.e -ℤ p.e) e) (none_times (q.n -ℤ p.n) (x.n -ℤ p.n) f) (none_times (q.e -ℤ p.e) (w.e -ℤ p.e) e) (none_times (q.n -ℤ p.n) (w.n -ℤ p.n) f))
  where
    flat : (a b c d : ℤ) → (a +ℤ b) <ℤ (c +ℤ d) → a ≡ pos 0 → b ≡ pos 0 → c ≡ pos 0 → d ≡ pos 0 → ⊥
    flat a b c d lt e f g h = omega (arith, ints, lt, e, f, g, h)

-- ---- a product that is more than 0 with a factor that is
more_by : (n a b c s t : ℤ) → n ≡ (a -ℤ b) *ℤ s -ℤ c *ℤ t → pos 0 <ℤ n → t ≡ pos 0 → pos 0 <ℤ s → b <ℤ a
more_by n a b c s t e some none high = by_lt_z b a (λ lt. lt) (λ le. absurd (clash n ((a -ℤ b) *ℤ s) (c *ℤ t) e some ((λ i. c *ℤ none i) ∙ nothing c) (low (a -ℤ b) s (below a b le) high)))
  where
    nothing : (c : ℤ) → c *ℤ pos 0 ≡ pos 0
    nothing c = omega (arith, ints)

    below : (a b : ℤ) → a ≤ℤ b → (a -ℤ b) ≤ℤ pos 0
    below a b h = omega (arith, ints, h)

    turned : (x y : ℤ) → y *ℤ x ≡ x *ℤ y
    turned x y = ring (x ∷ y ∷ []) (var 1 ⊗ var 0) (var 0 ⊗ var 1) refl

    low : (x y : ℤ) → x ≤ℤ pos 0 → pos 0 <ℤ y → (x *ℤ y) ≤ℤ pos 0
    low x y h k = subst (λ z. z ≤ℤ pos 0) (turned x y) (mul-mixed y x (weaken y k) h)

    clash : (n s t : ℤ) → n ≡ s -ℤ t → pos 0 <ℤ n → t ≡ pos 0 → s ≤ℤ pos 0 → ⊥
    clash n s t e some none low = omega (arith, ints, e, some, none, low)

zero_gap : (s t : ℤ) → s ≡ t → s -ℤ t ≡ pos 0
zero_gap s t e = omega (arith, ints, e)

some_gap : (s t : ℤ) → s <ℤ t → pos 0 <ℤ (t -ℤ s)
some_gap s t h = omega (arith, ints, h)

pub tie_law : TieLaw
tie_law = record {
  last = λ p q w x y turned near same.
      more_by (norm p q *ℤ side w x y) (along p q y) (along p q w) (along p q y -ℤ along p q x) (side p q y -ℤ side p q x) (side p q y -ℤ side p q w) (spread p q w x y)
      (mul-positive (norm p q) (side w x y) (long p q x w near) turned) (zero_gap (side p q y) (side p q w) same) (subst (λ s. pos 0 <ℤ (s -ℤ side p q x)) (sym same) (some_gap (side p q x) (side p q w) near));
  first = λ p q w x y turned near same.
      more_by (norm p q *ℤ side w x y) (along p q w) (along p q x) (along p q w -ℤ along p q y) (side p q w -ℤ side p q y) (side p q w -ℤ side p q x) (spread_back p q w x y)
      (mul-positive (norm p q) (side w x y) (long p q y w near) turned) (zero_gap (side p q w) (side p q x) (sym same)) (some_gap (side p q y) (side p q w) near);
}
