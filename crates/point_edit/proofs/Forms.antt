-- Linear forms on places, and where three neighbours make a strictly convex corner.
use Rattle.std.proofs.Common.{◌≡◌, [], ◌∷◌, refl, sym, subst, ◌∙◌, inl, inr, arith}
use Rattle.std.specs.Prelude.{ℕ, ℤ, pos, ◌+ℤ◌, ◌-ℤ◌, ◌*ℤ◌, ◌<ℤ◌, ◌≤ℤ◌, ◌+◌}
use Rattle.std.proofs.lemmas.Int.{ints, by_lt_z}
use Rattle.ground_model.specs.Place.{Coords}
use Rattle.ground_model.specs.Side.{side}
use Rattle.ground_model.proofs.Circle.{env, sideE}
use Rattle.ground_model.proofs.Ring.{Expr, var, ◌⊕◌, ◌⊖◌, ◌⊗◌, ring}
use Rattle.ground_model.proofs.ZOrder.{mul-eq-zero, mul-positive}
use Rattle.predicates.proofs.Signs.{mul-nonneg, mul-nonpos, mul-mixed, weaken}

-- how far a place is along the way from u to v
pub along : Coords → Coords → Coords → ℤ
along u v x = (v.e -ℤ u.e) *ℤ (x.e -ℤ u.e) +ℤ (v.n -ℤ u.n) *ℤ (x.n -ℤ u.n)

-- the square of its length
pub norm : Coords → Coords → ℤ
norm u v = (v.e -ℤ u.e) *ℤ (v.e -ℤ u.e) +ℤ (v.n -ℤ u.n) *ℤ (v.n -ℤ u.n)

alongE : ℕ → ℕ → ℕ → Expr
alongE a b c = (var (b + b) ⊖ var (a + a)) ⊗ (var (c + c) ⊖ var (a + a)) ⊕ (var (b + b + 1) ⊖ var (a + a + 1)) ⊗ (var (c + c + 1) ⊖ var (a + a + 1))

normE : ℕ → ℕ → Expr
normE a b = (var (b + b) ⊖ var (a + a)) ⊗ (var (b + b) ⊖ var (a + a)) ⊕ (var (b + b + 1) ⊖ var (a + a + 1)) ⊗ (var (b + b + 1) ⊖ var (a + a + 1))

-- u, v, o, x, y, z have numbers 0 to 5
pub corner : (u v o x y z : Coords) → side x y z *ℤ (side u v y -ℤ side u v o) ≡ side o y z *ℤ (side u v y -ℤ side u v x) +ℤ side o x y *ℤ (side u v y -ℤ side u v z)
unfolding side
corner u v o x y z = ring (env (u ∷ v ∷ o ∷ x ∷ y ∷ z ∷ [])) (sideE 3 4 5 ⊗ (sideE 0 1 4 ⊖ sideE 0 1 2)) (sideE 2 4 5 ⊗ (sideE 0 1 4 ⊖ sideE 0 1 3) ⊕ sideE 2 3 4 ⊗ (sideE 0 1 4 ⊖ sideE 0 1 5)) refl

spread : (u v o x y : Coords) → norm u v *ℤ side o x y ≡ (along u v y -ℤ along u v o) *ℤ (side u v y -ℤ side u v x) -ℤ (along u v y -ℤ along u v x) *ℤ (side u v y -ℤ side u v o)
unfolding side norm along alongE normE
spread u v o x y = ring (env (u ∷ v ∷ o ∷ x ∷ y ∷ [])) (normE 0 1 ⊗ sideE 2 3 4) ((alongE 0 1 4 ⊖ alongE 0 1 2) ⊗ (sideE 0 1 4 ⊖ sideE 0 1 3) ⊖ (alongE 0 1 4 ⊖ alongE 0 1 3) ⊗ (sideE 0 1 4 ⊖ sideE 0 1 2)) refl

-- ---- numbers
pub zero_part : (b x s t : ℤ) → pos 0 <ℤ b → s ≡ b *ℤ x +ℤ t → s ≤ℤ pos 0 → pos 0 ≤ℤ (b *ℤ x) → pos 0 ≤ℤ t → x ≡ pos 0
zero_part b x s t more e low first_part rest = elim (mul-eq-zero b x (none (b *ℤ x) s t e low first_part rest)) as (λ _. x ≡ pos 0) [
  | inl f ↦ absurd (never b more f)
  | inr f ↦ f
]
  where
    none : (y s t : ℤ) → s ≡ y +ℤ t → s ≤ℤ pos 0 → pos 0 ≤ℤ y → pos 0 ≤ℤ t → y ≡ pos 0
    none y s t e low first_part rest = omega (arith, ints, e, low, first_part, rest)

    never : (b : ℤ) → pos 0 <ℤ b → b ≡ pos 0 → ⊥
    never b h e = omega (arith, ints, h, e)

clash_by : (na f g h k : ℤ) → na ≡ f *ℤ g -ℤ h *ℤ k → g ≡ pos 0 → pos 0 ≤ℤ (h *ℤ k) → pos 0 <ℤ na → ⊥
clash_by na f g h k e zero more some = none na (f *ℤ g) (h *ℤ k) e ((λ i. f *ℤ zero i) ∙ nothing f) more some
  where
    nothing : (f : ℤ) → f *ℤ pos 0 ≡ pos 0
    nothing f = omega (arith, ints)

    none : (na s t : ℤ) → na ≡ s -ℤ t → s ≡ pos 0 → pos 0 ≤ℤ t → pos 0 <ℤ na → ⊥
    none na s t e zero more some = omega (arith, ints, e, zero, more, some)

-- of three neighbours the middle one is a strictly convex corner where it is farthest to the left of uv, of equally far ones the last along uv, and not nearer than o
pub convex : (u v o x y z : Coords) → pos 0 <ℤ norm u v → pos 0 <ℤ side o x y → pos 0 <ℤ side o y z → pos 0 ≤ℤ (side u v y -ℤ side u v o) → pos 0 ≤ℤ (side u v y -ℤ side u v x) → pos 0 ≤ℤ (side u v y -ℤ side u v z)
    → (side u v y -ℤ side u v x ≡ pos 0 → pos 0 ≤ℤ (along u v y -ℤ along u v x)) → pos 0 <ℤ side x y z
convex u v o x y z long first_left last_left high above_x above_z tied = by_lt_z (pos 0) (side x y z) (λ lt. lt) (λ le. absurd (never le))
  where
    never : side x y z ≤ℤ pos 0 → ⊥
    never le =
        let level : side u v y -ℤ side u v x ≡ pos 0 = zero_part (side o y z) (side u v y -ℤ side u v x) (side x y z *ℤ (side u v y -ℤ side u v o)) (side o x y *ℤ (side u v y -ℤ side u v z)) last_left (corner u v o x y z)
        (low (side x y z) (side u v y -ℤ side u v o) le high) (mul-nonneg (side o y z) (side u v y -ℤ side u v x) (weaken (side o y z) last_left) above_x) (mul-nonneg (side o x y) (side u v y -ℤ side u v z) (weaken (side o x y) first_left) above_z) in
        clash_by (norm u v *ℤ side o x y) (along u v y -ℤ along u v o) (side u v y -ℤ side u v x) (along u v y -ℤ along u v x) (side u v y -ℤ side u v o) (spread u v o x y) level
        (mul-nonneg (along u v y -ℤ along u v x) (side u v y -ℤ side u v o) (tied level) high) (mul-positive (norm u v) (side o x y) long first_left)
      where
        turned : (x y : ℤ) → x *ℤ y ≡ y *ℤ x
        turned x y = ring (x ∷ y ∷ []) (var 0 ⊗ var 1) (var 1 ⊗ var 0) refl

        low : (x y : ℤ) → x ≤ℤ pos 0 → pos 0 ≤ℤ y → (x *ℤ y) ≤ℤ pos 0
        low x y h k = subst (λ s. s ≤ℤ pos 0) (turned y x) (mul-mixed y x k h)

-- no triangle at o has all its corners on one line
pub not_flat : (u v o x y : Coords) → pos 0 <ℤ norm u v → pos 0 <ℤ side o x y → side u v x ≡ side u v o → side u v y ≡ side u v o → ⊥
not_flat u v o x y long left flat_x flat_y =
    clash_by (norm u v *ℤ side o x y) (along u v y -ℤ along u v o) (side u v y -ℤ side u v x) (along u v y -ℤ along u v x) (side u v y -ℤ side u v o) (spread u v o x y)
    (level (side u v y) (side u v x) (side u v o) flat_x flat_y) (none (along u v y -ℤ along u v x) (side u v y -ℤ side u v o) (zero (side u v y) (side u v o) flat_y)) (mul-positive (norm u v) (side o x y) long left)
  where
    level : (s t r : ℤ) → t ≡ r → s ≡ r → s -ℤ t ≡ pos 0
    level s t r e f = omega (arith, ints, e, f)

    zero : (s r : ℤ) → s ≡ r → s -ℤ r ≡ pos 0
    zero s r e = omega (arith, ints, e)

    none : (s t : ℤ) → t ≡ pos 0 → pos 0 ≤ℤ (s *ℤ t)
    none s t e = subst (λ k. pos 0 ≤ℤ (s *ℤ k)) (sym e) (nothing s)
      where
        nothing : (s : ℤ) → pos 0 ≤ℤ (s *ℤ pos 0)
        nothing s = omega (arith, ints)

square : (x : ℤ) → pos 0 ≤ℤ (x *ℤ x)
square x = by_lt_z (pos 0) x (λ lt. mul-nonneg x x (weaken x lt) (weaken x lt)) (λ le. mul-nonpos x x le le)

-- two places are apart
pub norm_more : (u v : Coords) → (u ≡ v → ⊥) → pos 0 <ℤ norm u v
unfolding norm
norm_more u v differ = by_lt_z (pos 0) (norm u v) (λ lt. lt) (λ le. absurd (differ (λ i. record { e = same u.e v.e (root (v.e -ℤ u.e) (first_none ((v.e -ℤ u.e) *ℤ (v.e -ℤ u.e)) ((v.n -ℤ u.n) *ℤ (v.n -ℤ u.n)) (square (v.e -ℤ u.e)) (square (v.n -ℤ u.n)) le)) i; n = same u.n v.n (root (v.n -ℤ u.n) (last_none ((v.e -ℤ u.e) *ℤ (v.e -ℤ u.e)) ((v.n -ℤ u.n) *ℤ (v.n -ℤ u.n)) (square (v.e -ℤ u.e)) (square (v.n -ℤ u.n)) le)) i })))
  where
    first_none : (s t : ℤ) → pos 0 ≤ℤ s → pos 0 ≤ℤ t → (s +ℤ t) ≤ℤ pos 0 → s ≡ pos 0
    first_none s t h k le = omega (arith, ints, h, k, le)

    last_none : (s t : ℤ) → pos 0 ≤ℤ s → pos 0 ≤ℤ t → (s +ℤ t) ≤ℤ pos 0 → t ≡ pos 0
    last_none s t h k le = omega (arith, ints, h, k, le)

    root : (x : ℤ) → x *ℤ x ≡ pos 0 → x ≡ pos 0
    root x e = elim (mul-eq-zero x x e) as (λ _. x ≡ pos 0) [ inl f ↦ f | inr f ↦ f ]

    same : (x y : ℤ) → y -ℤ x ≡ pos 0 → x ≡ y
    same x y e = omega (arith, ints, e)
