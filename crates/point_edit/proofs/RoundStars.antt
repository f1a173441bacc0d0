-- The triangles round a point of a mesh are a star, and all that the point has.
use Rattle.std.proofs.Common.{◌≡◌, ℕ, suc, zero, ◌<◌, ◌+◌, List, sym, ap, subst, ◌∙◌, arith}
use Rattle.std.specs.Prelude.{ℤ, pos, neg_ℤ, ◌-ℤ◌, ◌*ℤ◌, ◌<ℤ◌, ◌≤ℤ◌}
use Rattle.std.proofs.lemmas.Int.{ints, by_lt_z}
use Rattle.ground_model.specs.declared.corner.Corner.{Corner}
use Rattle.ground_model.specs.declared.corner.Corner.TheVariants.{At}
use Rattle.ground_model.specs.Corner.{corner_at as place_of, corner_side}
use Rattle.ground_model.specs.Place.{Coords}
use Rattle.ground_model.specs.Side.{side}
use Rattle.ground_model.proofs.Circle.{side-turned}
use Rattle.ground_model.proofs.ZOrder.{mul-positive}
use Rattle.predicates.proofs.FlatSides.{flat_ab, side-back}
use Rattle.predicates.proofs.NearCorners.{times-zero, zero-times}
use Rattle.predicates.proofs.Signs.{mul-nonneg, never-level, weaken}
use Rattle.tri_pages.specs.Slots.{State}
use Rattle.mesh.specs.Sheets.{IsSheetMesh, HasCorner}
use Rattle.mesh.proofs.InSheets.{left_at}
use Rattle.locate.proofs.Angles.{one_angle}
use Rattle.point_edit.specs.Stars.{IsInAngle, IsStar}
use Rattle.point_edit.proofs.Covers.{angle_of}
use Rattle.point_edit.proofs.Rounds.{beside, top, IsOne, one_back, one_then, one_beside, at, next_beside, IsPeriod, apart, again, early}
use Rattle.point_edit.proofs.Straight.{swapped}

-- ---- x on the leg v of the angles uv and vw, and not at p: it is to the right of w
on_leg : (p u v w x y : Coords) → pos 0 <ℤ side p u v → pos 0 <ℤ side p v w → pos 0 <ℤ side p x y → pos 0 ≤ℤ side p u x → side p v x ≡ pos 0 → side p w x <ℤ pos 0
on_leg p u v w x y uv vw xy ux vx = by_lt_z (side p w x) (pos 0) (λ lt. lt) (λ le. absurd (nowhere (low le)))
  where
    clash : (y s z : ℤ) → y ≡ s -ℤ z → pos 0 ≤ℤ y → s ≡ pos 0 → pos 0 <ℤ z → ⊥
    clash y s z e h f k = omega (arith, ints, e, h, f, k)

    zero_or : (a wx s ux vw : ℤ) → a *ℤ wx ≡ s -ℤ ux *ℤ vw → pos 0 <ℤ a → pos 0 <ℤ vw → pos 0 ≤ℤ wx → s ≡ pos 0 → ux ≤ℤ pos 0
    zero_or a wx s ux vw e more some high none_s = by_lt_z (pos 0) ux (λ lt. absurd (clash (a *ℤ wx) s (ux *ℤ vw) e (mul-nonneg a wx (weaken a more) high) none_s (mul-positive ux vw lt some))) (λ le. le)

    low : pos 0 ≤ℤ side p w x → side p u x ≤ℤ pos 0
    low le = zero_or (side p u v) (side p w x) (side p u w *ℤ side p v x) (side p u x) (side p v w) (swapped p u v w x) uv vw le (times-zero (side p u w) (side p v x) vx)

    level : (y : ℤ) → pos 0 ≤ℤ y → y ≤ℤ pos 0 → y ≡ pos 0
    level y h k = omega (arith, ints, h, k)

    sum : (y s t : ℤ) → y ≡ s -ℤ t → pos 0 <ℤ y → s ≡ pos 0 → t ≡ pos 0 → ⊥
    sum y s t e h f g = omega (arith, ints, e, h, f, g)

    nowhere : side p u x ≤ℤ pos 0 → ⊥
    nowhere le = sum (side p u v *ℤ side p x y) (side p u x *ℤ side p v y) (side p u y *ℤ side p v x) (swapped p u v x y) (mul-positive (side p u v) (side p x y) uv xy)
        (zero-times (side p u x) (side p v y) (level (side p u x) ux le)) (times-zero (side p u y) (side p v x) vx)

-- from p, x is not to the left of v and not to its right
beside_leg : (p v x : Coords) → pos 0 ≤ℤ side p x v → pos 0 ≤ℤ side p v x → side p v x ≡ pos 0
beside_leg p v x xv vx = both (side p x v) (side p v x) (side-turned p v x ∙ side-back x v p ∙ ap neg_ℤ (sym (side-turned p x v))) xv vx
  where
    both : (a b : ℤ) → b ≡ neg_ℤ a → pos 0 ≤ℤ a → pos 0 ≤ℤ b → b ≡ pos 0
    both a b e h k = omega (arith, ints, e, h, k)

module _ (slots : List State) (m : IsSheetMesh slots) (p : Coords) where
  abbrev pub ring : HasCorner slots (At p) → ℕ → Coords
  ring x i = place_of (beside slots m p (at slots m p x i))

  pub left_of : (x : HasCorner slots (At p)) → pos 0 <ℤ side p (place_of (beside slots m p x)) (place_of (top slots m p x))
  left_of x = subst (λ (c : Corner). pos 0 <ℤ corner_side c (beside slots m p x) (top slots m p x)) x.is (left_at slots m x.slot x.tri x.side x.there)

  -- of two triangles at p the one has the first neighbour of the other in its angle: they are one
  one_in_angle : (x y : HasCorner slots (At p)) → pos 0 ≤ℤ side p (place_of (beside slots m p x)) (place_of (beside slots m p y)) → side p (place_of (top slots m p x)) (place_of (beside slots m p y)) <ℤ pos 0 → IsOne slots m p x y
  one_in_angle x y first other = one_angle slots m p x.slot y.slot x.side y.side x.tri y.tri x.there y.there x.is y.is first other

  module _ (x : HasCorner slots (At p)) (n : ℕ) (q : IsPeriod slots m p x n) where
    pub turned : (i : ℕ) → pos 0 <ℤ side p (ring x i) (ring x (suc i))
    turned i = subst (λ (c : Corner). pos 0 <ℤ side p (ring x i) (place_of c)) (sym (next_beside slots m p x i)) (left_of (at slots m p x i))

    in_angle : (i j : ℕ) → pos 0 ≤ℤ side p (ring x i) (ring x j) → side p (ring x (suc i)) (ring x j) <ℤ pos 0 → IsOne slots m p (at slots m p x i) (at slots m p x j)
    in_angle i j first other = one_in_angle (at slots m p x i) (at slots m p x j) first (subst (λ (c : Corner). side p (place_of c) (ring x j) <ℤ pos 0) (next_beside slots m p x i) other)

    never : (i d : ℕ) → 1 < d → d < n → IsInAngle p (ring x i) (ring x (suc i)) (ring x (i + d)) → ⊥
    never i zero more less h = absurd (omega (arith, more))
    never i (suc d) more less h =
        by_lt_z (side p (ring x (suc i)) (ring x (i + suc d))) (pos 0)
        (λ lt. apart slots m p x n q i (suc d) (omega arith) less (one_back slots m p (at slots m p x i) (at slots m p x (i + suc d)) (in_angle i (i + suc d) h.from_u lt)))
        (λ le.
        let flat = beside_leg p (ring x (suc i)) (ring x (i + suc d)) h.to_v le in
        let e : i + suc d ≡ suc i + d = omega arith in
        let one = in_angle (suc i) (i + suc d) (level_up (side p (ring x (suc i)) (ring x (i + suc d))) flat)
        (on_leg p (ring x i) (ring x (suc i)) (ring x (suc (suc i))) (ring x (i + suc d)) (ring x (suc (i + suc d))) (turned i) (turned (suc i)) (turned (i + suc d)) h.from_u flat) in
        apart slots m p x n q (suc i) d (omega (arith, more)) (omega (arith, less))
        (one_back slots m p (at slots m p x (suc i)) (at slots m p x (suc i + d)) (subst (λ k. IsOne slots m p (at slots m p x (suc i)) (at slots m p x k)) e one)))
      where
        level_up : (y : ℤ) → y ≡ pos 0 → pos 0 ≤ℤ y
        level_up y e = omega (arith, ints, e)

    pub star : IsStar p (ring x) n
    star = record {
      some = q.some;
      round = λ i. ap place_of (one_beside slots m p (at slots m p x (n + i)) (at slots m p x i) (again slots m p x n q i));
      turned = turned;
      apart = never;
    }

    -- each triangle at p is one of them
    pub each : (y : HasCorner slots (At p)) → (i : ℕ) × ((i < n) × IsOne slots m p y (at slots m p x i))
    each y =
        let a = angle_of p (ring x) n star (place_of (beside slots m p y)) (λ e. never-level (side p (place_of (beside slots m p y)) (place_of (top slots m p y))) (left_of y) (flat_ab p (place_of (beside slots m p y)) (place_of (top slots m p y)) e)) in
        let one = one_in_angle (at slots m p x a.i) y a.first_leg (subst (λ (c : Corner). side p (place_of c) (place_of (beside slots m p y)) <ℤ pos 0) (next_beside slots m p x a.i) a.other_leg) in
        let r = early slots m p x n q a.i a.i (omega arith) in
        (r.i, (r.within, one_then slots m p y (at slots m p x a.i) (at slots m p x r.i) (one_back slots m p (at slots m p x a.i) y one) r.one))
