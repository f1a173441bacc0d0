-- Each edge that a march crosses does so farther along the way than the one before.
use Rattle.std.proofs.Common.{◌≡◌, [], ◌∷◌, refl, arith}
use Rattle.std.specs.Prelude.{ℤ, pos, ◌+ℤ◌, ◌-ℤ◌, ◌*ℤ◌, ◌<ℤ◌}
use Rattle.std.proofs.lemmas.Int.{ints}
use Rattle.ground_model.specs.Place.{Coords}
use Rattle.ground_model.specs.Side.{side}
use Rattle.ground_model.proofs.Circle.{env, sideE}
use Rattle.ground_model.proofs.Ring.{var, num, ◌⊕◌, ◌⊖◌, ◌⊗◌, ring}
use Rattle.ground_model.proofs.ZOrder.{mul-positive}
use Rattle.line_edit.specs.Ways.{width, crossing, ComesBefore}
use Rattle.crossing_law.proofs.Ties.{norm, alongE, normE, long}
use Rattle.line_edit.proofs.Ways.{over_by}

-- p, q, l, r, d have numbers 0 to 4
to_left : (p q l r d : Coords) → crossing p q r d *ℤ width p q r l -ℤ crossing p q r l *ℤ width p q r d ≡ (pos 0 -ℤ side p q r) *ℤ (norm p q *ℤ side l r d)
unfolding side alongE normE
to_left p q l r d = ring (env (p ∷ q ∷ l ∷ r ∷ d ∷ []))
    ((sideE 0 1 4 ⊗ alongE 0 1 3 ⊖ sideE 0 1 3 ⊗ alongE 0 1 4) ⊗ (sideE 0 1 2 ⊖ sideE 0 1 3) ⊖ (sideE 0 1 2 ⊗ alongE 0 1 3 ⊖ sideE 0 1 3 ⊗ alongE 0 1 2) ⊗ (sideE 0 1 4 ⊖ sideE 0 1 3))
    ((num (pos 0) ⊖ sideE 0 1 3) ⊗ (normE 0 1 ⊗ sideE 2 3 4)) refl

to_right : (p q l r d : Coords) → crossing p q d l *ℤ width p q r l -ℤ crossing p q r l *ℤ width p q d l ≡ side p q l *ℤ (norm p q *ℤ side l r d)
unfolding side alongE normE
to_right p q l r d = ring (env (p ∷ q ∷ l ∷ r ∷ d ∷ []))
    ((sideE 0 1 2 ⊗ alongE 0 1 4 ⊖ sideE 0 1 4 ⊗ alongE 0 1 2) ⊗ (sideE 0 1 2 ⊖ sideE 0 1 3) ⊖ (sideE 0 1 2 ⊗ alongE 0 1 3 ⊖ sideE 0 1 3 ⊗ alongE 0 1 2) ⊗ (sideE 0 1 2 ⊖ sideE 0 1 4))
    (sideE 0 1 2 ⊗ (normE 0 1 ⊗ sideE 2 3 4)) refl

less_by : (s t d : ℤ) → t -ℤ s ≡ d → pos 0 <ℤ d → s <ℤ t
less_by s t d e h = omega (arith, ints, e, h)

minus : (s : ℤ) → s <ℤ pos 0 → pos 0 <ℤ (pos 0 -ℤ s)
minus s h = omega (arith, ints, h)

apart : (s t : ℤ) → pos 0 <ℤ s → t <ℤ pos 0 → t <ℤ s
apart s t h k = omega (arith, ints, h, k)

module _ (p q l r d : Coords) (left : pos 0 <ℤ side p q l) (right : side p q r <ℤ pos 0) (turned : pos 0 <ℤ side l r d) where
  long_way : pos 0 <ℤ norm p q
  long_way = long p q r l (apart (side p q l) (side p q r) left right)

  pub left_later : ComesBefore p q r l r d
  left_later =
      less_by (crossing p q r l *ℤ width p q r d) (crossing p q r d *ℤ width p q r l) ((pos 0 -ℤ side p q r) *ℤ (norm p q *ℤ side l r d)) (to_left p q l r d)
      (mul-positive (pos 0 -ℤ side p q r) (norm p q *ℤ side l r d) (minus (side p q r) right) (mul-positive (norm p q) (side l r d) long_way turned))

  pub right_later : ComesBefore p q r l d l
  right_later =
      less_by (crossing p q r l *ℤ width p q d l) (crossing p q d l *ℤ width p q r l) (side p q l *ℤ (norm p q *ℤ side l r d)) (to_right p q l r d)
      (mul-positive (side p q l) (norm p q *ℤ side l r d) left (mul-positive (norm p q) (side l r d) long_way turned))

-- of three quotients the first is less than the last where each is less than the next
pub quotients : (a b c x y z : ℤ) → pos 0 <ℤ x → pos 0 <ℤ y → pos 0 <ℤ z → (a *ℤ y) <ℤ (b *ℤ x) → (b *ℤ z) <ℤ (c *ℤ y) → (a *ℤ z) <ℤ (c *ℤ x)
quotients a b c x y z some_x some_y some_z ab bc =
    less_by (a *ℤ z) (c *ℤ x) (c *ℤ x -ℤ a *ℤ z) refl
    (over_by (c *ℤ x -ℤ a *ℤ z) y ((b *ℤ x -ℤ a *ℤ y) *ℤ z +ℤ (c *ℤ y -ℤ b *ℤ z) *ℤ x) (whole a b c x y z) some_y
    (sum ((b *ℤ x -ℤ a *ℤ y) *ℤ z) ((c *ℤ y -ℤ b *ℤ z) *ℤ x) (mul-positive (b *ℤ x -ℤ a *ℤ y) z (gap (a *ℤ y) (b *ℤ x) ab) some_z) (mul-positive (c *ℤ y -ℤ b *ℤ z) x (gap (b *ℤ z) (c *ℤ y) bc) some_x)))
  where
    gap : (s t : ℤ) → s <ℤ t → pos 0 <ℤ (t -ℤ s)
    gap s t h = omega (arith, ints, h)

    sum : (s t : ℤ) → pos 0 <ℤ s → pos 0 <ℤ t → pos 0 <ℤ (s +ℤ t)
    sum s t h k = omega (arith, ints, h, k)

    whole : (a b c x y z : ℤ) → (c *ℤ x -ℤ a *ℤ z) *ℤ y ≡ (b *ℤ x -ℤ a *ℤ y) *ℤ z +ℤ (c *ℤ y -ℤ b *ℤ z) *ℤ x
    whole a b c x y z = ring (a ∷ b ∷ c ∷ x ∷ y ∷ z ∷ []) ((var 2 ⊗ var 3 ⊖ var 0 ⊗ var 5) ⊗ var 4) ((var 1 ⊗ var 3 ⊖ var 0 ⊗ var 4) ⊗ var 5 ⊕ (var 2 ⊗ var 4 ⊖ var 1 ⊗ var 5) ⊗ var 3) refl
