-- No good triangle lies over an edge of a sheet that is illegal: the wall that it would need crosses the sheet's triangle.
use Rattle.std.proofs.Common.{◌≡◌, ℕ, ◌+◌, ◌<◌, ◌⊎◌, inl, inr, refl, sym, ap, ◌∙◌, arith, [], ◌∷◌, true}
use Rattle.std.specs.Prelude.{ℤ, pos, ◌+ℤ◌, ◌-ℤ◌, ◌*ℤ◌, ◌<ℤ◌, ◌≤ℤ◌, unsigned_abs, slice_get, Some, negsuc, List}
use Rattle.std.proofs.lemmas.Int.{ints, by_lt_z}
use Rattle.ground_model.specs.declared.corner.Corner.TheVariants.{At}
use Rattle.ground_model.specs.Place.{Coords}
use Rattle.ground_model.specs.Side.{side}
use Rattle.ground_model.specs.Line.{is_point}
use Rattle.ground_model.specs.Corner.{corner_at}
use Rattle.ground_model.proofs.Ring.{Expr, var, num, ◌⊕◌, ◌⊖◌, ◌⊗◌, ring}
use Rattle.ground_model.proofs.ZLaws.{mul_comm}
use Rattle.ground_model.proofs.ZOrder.{mul-positive}
use Rattle.ground_model.proofs.Circle.{sideE, side-turned}
use Rattle.predicates.specs.Net.{Net, Triangle}
use Rattle.predicates.specs.Sheet.{IsSheet}
use Rattle.predicates.specs.Weighted.{Weighted, weighted_side, once, joined, repeated}
use Rattle.predicates.proofs.Signs.{mul-nonneg, mul-mixed, mul-negative, level-up, level-down, never-level, positive-along, positive-neg, negative-neg, weaken}
use Rattle.predicates.proofs.FlatSides.{flat_bc, flat_ca, side-back}
use Rattle.predicates.proofs.WeightedSides.{pointE, placeE}
use Rattle.predicates.proofs.Nudged.{Inside}
use Rattle.predicates.proofs.CrossedEdges.{Crosses}
use Rattle.predicates.proofs.Owners.{IsTurn, Owner, owner, turn-side, turn-next}
use Rattle.predicates.proofs.Tiling.{left-of}
use Rattle.predicates.proofs.FourApart.{times-zero}
use Rattle.cdt_law.proofs.Walls.{Walls}
use Rattle.cdt_law.proofs.CleanTriangle.{OnlyCorner, Parts, clean}
use Rattle.cdt_law.proofs.GoodTriangle.{IsSite}
use Rattle.cdt_law.proofs.GoodInSheet.{site_of, sheet-site, sheet-free, sheet-only}

-- ---- a point near the edge ab, towards z: k times its middle, and z
abbrev near : ℤ → Coords → Coords → Coords → Weighted
near k a b z = joined (repeated k (joined (once a) (once b))) (once z)

-- a, b, z, u, v have numbers 0 to 4, k the variable 10
abbrev nearE : ℕ → ℕ → Expr
nearE i j = pointE i j (var 10 ⊗ (var 0 ⊕ var 2) ⊕ var 4) (var 10 ⊗ (var 1 ⊕ var 3) ⊕ var 5) (var 10 ⊗ (num (pos 1) ⊕ num (pos 1)) ⊕ num (pos 1))

abbrev env : ℤ → Coords → Coords → Coords → Coords → Coords → List ℤ
env k a b z u v = a.e ∷ a.n ∷ b.e ∷ b.n ∷ z.e ∷ z.n ∷ u.e ∷ u.n ∷ v.e ∷ v.n ∷ k ∷ []

near-zb : (k : ℤ) (a b z : Coords) → weighted_side z b (near k a b z) ≡ k *ℤ side z b a
unfolding weighted_side side
near-zb k a b z = ring (env k a b z a a) (nearE 2 1) (var 10 ⊗ placeE 2 1 0) refl

near-ba : (k : ℤ) (a b z : Coords) → weighted_side b a (near k a b z) ≡ side z b a
unfolding weighted_side side
near-ba k a b z = ring (env k a b z a a) (nearE 1 0) (placeE 2 1 0) refl

near-az : (k : ℤ) (a b z : Coords) → weighted_side a z (near k a b z) ≡ k *ℤ side z b a
unfolding weighted_side side
near-az k a b z = ring (env k a b z a a) (nearE 0 2) (var 10 ⊗ placeE 2 1 0) refl

near-uv : (k : ℤ) (a b z u v : Coords) → weighted_side u v (near k a b z) ≡ k *ℤ (side u v a +ℤ side u v b) +ℤ side u v z
unfolding weighted_side side
near-uv k a b z u v = ring (env k a b z u v) (nearE 3 4) (var 10 ⊗ (placeE 3 4 0 ⊕ placeE 3 4 1) ⊕ placeE 3 4 2) refl

near-uz : (k : ℤ) (a b z u : Coords) → weighted_side u z (near k a b z) ≡ k *ℤ (side z a u +ℤ side z b u)
unfolding weighted_side side
near-uz k a b z u = ring (env k a b z u a) (nearE 3 2) (var 10 ⊗ (placeE 2 0 3 ⊕ placeE 2 1 3)) refl

-- ---- the wall passes beside the edge: it crosses the sheet's triangle
-- more than the wall's side of z
abbrev enough : Coords → Coords → Coords → ℕ
enough u v z = 1 + unsigned_abs (side u v z)

inside : (k : ℕ) (a b z : Coords) → 0 < k → pos 0 <ℤ side z b a → Inside z b a (near (pos k) a b z)
inside k a b z some turned = record {
  ab = positive-along (weighted_side z b (near (pos k) a b z)) (pos k *ℤ side z b a) (near-zb (pos k) a b z) (mul-positive (pos k) (side z b a) (omega (arith, ints, some)) turned);
  bc = positive-along (weighted_side b a (near (pos k) a b z)) (side z b a) (near-ba (pos k) a b z) turned;
  ca = positive-along (weighted_side a z (near (pos k) a b z)) (pos k *ℤ side z b a) (near-az (pos k) a b z) (mul-positive (pos k) (side z b a) (omega (arith, ints, some)) turned);
}

parts : (a b z u v : Coords) → Walls u v a z → Walls u v b z → (side u v a +ℤ side u v b) <ℤ pos 0 → Parts u v z (near (pos (enough u v z)) a b z)
parts a b z u v wa wb low = record {
  left = wa.left;
  right = less (weighted_side u v (near (pos (enough u v z)) a b z)) (pos (enough u v z) *ℤ (side u v a +ℤ side u v b)) (side u v z) (near-uv (pos (enough u v z)) a b z u v) (many (enough u v z) (side u v a +ℤ side u v b) low);
  first = down (weighted_side u z (near (pos (enough u v z)) a b z)) (pos (enough u v z) *ℤ (side z a u +ℤ side z b u)) (near-uz (pos (enough u v z)) a b z u) (mul-mixed (pos (enough u v z)) (side z a u +ℤ side z b u) (omega (arith, ints)) (both-down (side z a u) (side z b u) wa.first wb.first));
  second = up (weighted_side v z (near (pos (enough u v z)) a b z)) (pos (enough u v z) *ℤ (side z a v +ℤ side z b v)) (near-uz (pos (enough u v z)) a b z v) (mul-nonneg (pos (enough u v z)) (side z a v +ℤ side z b v) (omega (arith, ints)) (both-up (side z a v) (side z b v) wa.second wb.second));
}
  where
    many : (k : ℕ) (s : ℤ) → s <ℤ pos 0 → (pos k *ℤ s +ℤ pos k) ≤ℤ pos 0
    many k (pos n) h = absurd (omega (arith, ints, h))
    many k (negsuc n) h = omega (arith, ints)

    less : (x y s : ℤ) → x ≡ y +ℤ s → (y +ℤ pos (1 + unsigned_abs s)) ≤ℤ pos 0 → x <ℤ pos 0
    less x y s e h = omega (arith, ints, e, h)

    down : (x y : ℤ) → x ≡ y → y ≤ℤ pos 0 → x ≤ℤ pos 0
    down x y e h = omega (arith, ints, e, h)

    up : (x y : ℤ) → x ≡ y → pos 0 ≤ℤ y → pos 0 ≤ℤ x
    up x y e h = omega (arith, ints, e, h)

    both-down : (x y : ℤ) → x ≤ℤ pos 0 → y ≤ℤ pos 0 → (x +ℤ y) ≤ℤ pos 0
    both-down x y h k = omega (arith, ints, h, k)

    both-up : (x y : ℤ) → pos 0 ≤ℤ x → pos 0 ≤ℤ y → pos 0 ≤ℤ (x +ℤ y)
    both-up x y h k = omega (arith, ints, h, k)

-- ---- the wall passes over the edge: then the edge is the piece
over_left : (z a u v w : Coords) → side u v z *ℤ side v w a -ℤ side u v a *ℤ side v w z ≡ side z a v *ℤ side v w u -ℤ side z a u *ℤ side v w v
unfolding side
over_left z a u v w =
    ring (z.e ∷ z.n ∷ a.e ∷ a.n ∷ u.e ∷ u.n ∷ v.e ∷ v.n ∷ w.e ∷ w.n ∷ [])
    (sideE 2 3 0 ⊗ sideE 3 4 1 ⊖ sideE 2 3 1 ⊗ sideE 3 4 0) (sideE 0 1 3 ⊗ sideE 3 4 2 ⊖ sideE 0 1 2 ⊗ sideE 3 4 3) refl

over_right : (z a u v w : Coords) → side u v z *ℤ side w u a -ℤ side u v a *ℤ side w u z ≡ side z a v *ℤ side w u u -ℤ side z a u *ℤ side w u v
unfolding side
over_right z a u v w =
    ring (z.e ∷ z.n ∷ a.e ∷ a.n ∷ u.e ∷ u.n ∷ v.e ∷ v.n ∷ w.e ∷ w.n ∷ [])
    (sideE 2 3 0 ⊗ sideE 4 2 1 ⊖ sideE 2 3 1 ⊗ sideE 4 2 0) (sideE 0 1 3 ⊗ sideE 4 2 2 ⊖ sideE 0 1 2 ⊗ sideE 4 2 3) refl

-- a piece to whose line the edge's end belongs has it as its own end
end-of : (net : Net) → IsSheet net → (z a u v : Coords) → is_point net.points a ≡ true → 0 < net.count u v → Walls u v a z → side u v a ≡ pos 0 → (a ≡ u) ⊎ (a ≡ v)
end-of net sheet z a u v at_a piece w flat = by (sheet-only net sheet o.index o.triangle (At u) (At v) o.third o.at o.turn a at_a (level-up (side u v a) flat) left_vw left_wu)
  where
    o : Owner net.triangles (At u) (At v)
    o = owner net (At u) (At v) (sheet.pieces u v piece)

    turned : pos 0 <ℤ side u v (corner_at o.third)
    turned = turn-side o.triangle (At u) (At v) o.third o.turn (left-of net sheet o.index o.triangle o.at)

    factor : (g s t p q : ℤ) (x y : ℤ) → g *ℤ s -ℤ t *ℤ x ≡ p -ℤ q → t ≡ pos 0 → pos 0 ≤ℤ p → q ≤ℤ pos 0 → pos 0 <ℤ g → pos 0 ≤ℤ s
    factor g s t p q x y e z hp hq hg = by_lt_z s (pos 0) (λ lt. absurd (clash (g *ℤ s) (t *ℤ x) p q e (ap (λ k. k *ℤ x) z) hp hq (mul-negative g s hg lt))) (λ ge. ge)
      where
        clash : (gs tx p q : ℤ) → gs -ℤ tx ≡ p -ℤ q → tx ≡ pos 0 *ℤ x → pos 0 ≤ℤ p → q ≤ℤ pos 0 → gs <ℤ pos 0 → ⊥
        clash gs tx p q e z hp hq lt = omega (arith, ints, e, z, hp, hq, lt)

    left_vw : pos 0 ≤ℤ side v (corner_at o.third) a
    left_vw = factor (side u v z) (side v (corner_at o.third) a) (side u v a) (side z a v *ℤ side v (corner_at o.third) u) (side z a u *ℤ side v (corner_at o.third) v) (side v (corner_at o.third) z) (pos 0)
        (over_left z a u v (corner_at o.third)) flat
        (mul-nonneg (side z a v) (side v (corner_at o.third) u) w.second (weaken (side v (corner_at o.third) u) (positive-along (side v (corner_at o.third) u) (side u v (corner_at o.third)) (sym (side-turned u v (corner_at o.third))) turned)))
        (level-down (side z a u *ℤ side v (corner_at o.third) v) (times-zero (side z a u) (side v (corner_at o.third) v) (flat_ca v (corner_at o.third) v refl))) w.left

    left_wu : pos 0 ≤ℤ side (corner_at o.third) u a
    left_wu = factor (side u v z) (side (corner_at o.third) u a) (side u v a) (side z a v *ℤ side (corner_at o.third) u u) (side z a u *ℤ side (corner_at o.third) u v) (side (corner_at o.third) u z) (pos 0)
        (over_right z a u v (corner_at o.third)) flat
        (level-up (side z a v *ℤ side (corner_at o.third) u u) (times-zero (side z a v) (side (corner_at o.third) u u) (flat_bc (corner_at o.third) u u refl)))
        (negative (side z a u) (side (corner_at o.third) u v) w.first (positive-along (side (corner_at o.third) u v) (side u v (corner_at o.third)) (side-turned (corner_at o.third) u v) turned)) w.left
      where
        negative : (x y : ℤ) → x ≤ℤ pos 0 → pos 0 <ℤ y → (x *ℤ y) ≤ℤ pos 0
        negative x y h k = swapped (x *ℤ y) (y *ℤ x) (mul_comm x y) (mul-mixed y x (weaken y k) h)
          where
            swapped : (p q : ℤ) → p ≡ q → q ≤ℤ pos 0 → p ≤ℤ pos 0
            swapped p q e h = omega (arith, ints, e, h)

    by : (At a ≡ At u) ⊎ ((At a ≡ At v) ⊎ (At a ≡ o.third)) → (a ≡ u) ⊎ (a ≡ v)
    by (inl e) = inl (ap corner_at e)
    by (inr (inl e)) = inr (ap corner_at e)
    by (inr (inr e)) = absurd (never-level (side u v (corner_at o.third)) turned (sym (ap (side u v) (ap corner_at e)) ∙ flat))

-- the edge ba of a triangle whose third corner is z
pub record IsOver (net : Net) (a b z : Coords) : Type 0 where
  pub index : ℕ
  pub triangle : Triangle
  pub at : slice_get net.triangles index ≡ Some triangle
  pub turn : IsTurn triangle (At z) (At b) (At a)

-- no piece walls z from the edge, unless the edge is a piece
pub no_wall : (net : Net) → IsSheet net → (a b z u v : Coords) → IsOver net a b z → is_point net.points a ≡ true → is_point net.points b ≡ true → net.count a b ≡ 0
    → 0 < net.count u v → Walls u v a z → Walls u v b z → ⊥
no_wall net sheet a b z u v o at_a at_b free piece wa wb = by_lt_z (side u v a +ℤ side u v b) (pos 0) beside (λ ge. over (zero_first (side u v a) (side u v b) wa.across wb.across ge) (zero_first (side u v b) (side u v a) wb.across wa.across (swapped (side u v a) (side u v b) ge)))
  where
    turned : pos 0 <ℤ side z b a
    turned = turn-side o.triangle (At z) (At b) (At a) o.turn (left-of net sheet o.index o.triangle o.at)

    back : 0 < net.count v u
    back = along (net.count v u) (net.count u v) (sheet.even v u) piece
      where
        along : (m n : ℕ) → m ≡ n → 0 < n → 0 < m
        along m n e h = omega (arith, e, h)

    only : (y : Coords) → is_point net.points y ≡ true → OnlyCorner z b a y
    only y at_y = record { corner = λ zb ba az. by (sheet-only net sheet o.index o.triangle (At z) (At b) (At a) o.at o.turn y at_y zb ba az) }
      where
        by : (At y ≡ At z) ⊎ ((At y ≡ At b) ⊎ (At y ≡ At a)) → (y ≡ z) ⊎ ((y ≡ b) ⊎ (y ≡ a))
        by (inl e) = inl (ap corner_at e)
        by (inr (inl e)) = inr (inl (ap corner_at e))
        by (inr (inr e)) = inr (inr (ap corner_at e))

    turn_az : IsTurn o.triangle (At a) (At z) (At b)
    turn_az = turn-next o.triangle (At b) (At a) (At z) (turn-next o.triangle (At z) (At b) (At a) o.turn)

    no_za : Crosses z a u v → ⊥
    no_za k = sheet-free net sheet o.index o.triangle (At a) (At z) (At b) o.at turn_az v u back (record {
      v_left = positive-neg (side z a u) (side a z u) (side-back z a u) k.u_right;
      u_right = negative-neg (side z a v) (side a z v) (side-back z a v) k.v_left;
      a_left = positive-neg (side u v a) (side v u a) (side-back u v a) k.b_right;
      b_right = negative-neg (side u v z) (side v u z) (side-back u v z) k.a_left;
    })

    site : IsSite (site_of net)
    site = sheet-site net sheet

    beside : (side u v a +ℤ side u v b) <ℤ pos 0 → ⊥
    beside low =
        clean z b a u v (near (pos (enough u v z)) a b z) turned (inside (enough u v z) a b z (omega arith) turned)
        (only u (site.ends u v piece)) (only v (site.ends v u back))
        (sheet-free net sheet o.index o.triangle (At z) (At b) (At a) o.at o.turn u v piece) no_za (parts a b z u v wa wb low)

    zero_first : (x y : ℤ) → x ≤ℤ pos 0 → y ≤ℤ pos 0 → pos 0 ≤ℤ (x +ℤ y) → x ≡ pos 0
    zero_first x y h k ge = omega (arith, ints, h, k, ge)

    swapped : (x y : ℤ) → pos 0 ≤ℤ (x +ℤ y) → pos 0 ≤ℤ (y +ℤ x)
    swapped x y h = omega (arith, ints, h)

    not_ab : a ≡ b → ⊥
    not_ab e = never-level (side z b a) turned (flat_bc z b a (sym e))

    no_piece : (x y : Coords) → a ≡ x → b ≡ y → 0 < net.count x y → ⊥
    no_piece x y e f h = none (net.count a b) (net.count x y) free (λ i. net.count (e i) (f i)) h
      where
        none : (m n : ℕ) → m ≡ 0 → m ≡ n → 0 < n → ⊥
        none m n z e h = omega (arith, z, e, h)

    over : side u v a ≡ pos 0 → side u v b ≡ pos 0 → ⊥
    over flat_a flat_b = by (end-of net sheet z a u v at_a piece wa flat_a) (end-of net sheet z b u v at_b piece wb flat_b)
      where
        by : (a ≡ u) ⊎ (a ≡ v) → (b ≡ u) ⊎ (b ≡ v) → ⊥
        by (inl e) (inl f) = not_ab (e ∙ sym f)
        by (inl e) (inr f) = no_piece u v e f piece
        by (inr e) (inl f) = no_piece v u e f back
        by (inr e) (inr f) = not_ab (e ∙ sym f)
