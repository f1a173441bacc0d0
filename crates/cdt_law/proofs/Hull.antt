-- No point of a locally Delaunay sheet lies beyond the edge across from a triangle's far corner.
use Rattle.std.proofs.Common.{◌≡◌, ℕ, ◌<◌, ◌≤◌, ◌⊎◌, inl, inr, refl, sym, ap, subst, ◌∙◌, arith, List, [], ◌∷◌, true, false}
use Rattle.std.specs.Prelude.{ℤ, pos, ◌-ℤ◌, ◌*ℤ◌, ◌<ℤ◌, ◌≤ℤ◌, Some, slice_get}
use Rattle.std.specs.Ordering.{is_gt}
use Rattle.std.proofs.lemmas.Int.{ints, by_lt_z}
use Rattle.std.proofs.lemmas.Bool.{or_cases, or_left, or_right, ltb-true}
use Rattle.ground_model.specs.declared.corner.Corner.{Corner}
use Rattle.ground_model.specs.declared.corner.Corner.TheVariants.{At, Far}
use Rattle.ground_model.specs.Place.{Coords, IsPlace, is_same}
use Rattle.ground_model.specs.Side.{side, is_left}
use Rattle.ground_model.specs.Line.{is_point}
use Rattle.ground_model.specs.Corner.{corner_at, corner_side, is_corner_inside}
use Rattle.ground_model.proofs.Ring.{◌⊖◌, ◌⊗◌, ring}
use Rattle.ground_model.proofs.Circle.{env, sideE}
use Rattle.ground_model.proofs.Ties.{same_of_is_same}
use Rattle.ground_model.proofs.LinePieces.{is_same_itself}
use Rattle.ground_model.proofs.ZOrder.{mul-positive}
use Rattle.predicates.specs.Far.{IsKnown, rank, is_between, is_inside_beside}
use Rattle.predicates.specs.Net.{Net, Triangle, has}
use Rattle.predicates.specs.Sheet.{IsSheet, IsLocallyDelaunay}
use Rattle.predicates.proofs.Compared.{by_sign, cmp_less, cmp_equal, cmp_greater}
use Rattle.predicates.proofs.Signs.{mul-mixed, mul-nonpos, never-level, never-low, positive-along, weaken}
use Rattle.predicates.proofs.Heights.{lift, deep}
use Rattle.predicates.proofs.HigherPlanes.{depth-turned}
use Rattle.predicates.proofs.InsideDepths.{inside-deep}
use Rattle.predicates.proofs.FarInside.{first-decides}
use Rattle.predicates.proofs.NoFourInPlane.{is_left-from}
use Rattle.predicates.proofs.FlatSides.{flat_bc, flat_ca}
use Rattle.predicates.proofs.Tiling.{left-of}
use Rattle.predicates.proofs.Valid.{IsValid, Place, Far0, Far1, Far2}
use Rattle.predicates.proofs.FarTriangle.{AreValid, sheet-valid, listed-place}
use Rattle.predicates.proofs.Owners.{IsTurn, turn-side, turn-next}
use Rattle.predicates.proofs.HasTriangles.{has-owner}
use Rattle.cdt_law.specs.Hull.{HullLaw, is_lower}
use Rattle.cdt_law.proofs.FarLarger.{far-larger}
use Rattle.cdt_law.proofs.Walls.{Walls}
use Rattle.cdt_law.proofs.Walk.{turn-valid}
use Rattle.cdt_law.proofs.WalkSteps.{walled}
use Rattle.cdt_law.proofs.LocalLaw.{around}
use Rattle.cdt_law.proofs.GoodInSheet.{sheet-only, sheet-site}

-- ---- the point of a list with the greatest number
pub record Greatest (f : Coords → ℤ) (ps : List Coords) : Type 0 where
  pub item : Coords
  pub is_one : is_point ps item ≡ true
  pub most : (q : Coords) → is_point ps q ≡ true → f q ≤ℤ f item

most-with : (f : Coords → ℤ) (p : Coords) (ps : List Coords) (x : ℤ) → f p ≤ℤ x → ((q : Coords) → is_point ps q ≡ true → f q ≤ℤ x) → (q : Coords) → is_point (p ∷ ps) q ≡ true → f q ≤ℤ x
most-with f p ps x le most q e = by (or_cases (is_same q p) (is_point ps q) e)
  where
    along : (y z : ℤ) → y ≡ z → z ≤ℤ x → y ≤ℤ x
    along y z e h = omega (arith, ints, e, h)

    by : (is_same q p ≡ true) ⊎ (is_point ps q ≡ true) → f q ≤ℤ x
    by (inl e) = along (f q) (f p) (ap f (same_of_is_same q p e)) le
    by (inr e) = most q e

first-greatest : (f : Coords → ℤ) (p : Coords) (ps : List Coords) → ((q : Coords) → is_point ps q ≡ true → f q ≤ℤ f p) → Greatest f (p ∷ ps)
first-greatest f p ps most = record { item = p; is_one = or_left (is_same p p) (is_point ps p) (is_same_itself p); most = most-with f p ps (f p) itself most }
  where
    itself : f p ≤ℤ f p
    itself = omega (arith, ints)

greater-of : (f : Coords → ℤ) (p : Coords) (ps : List Coords) → Greatest f ps → Greatest f (p ∷ ps)
greater-of f p ps g = by_lt_z (f g.item) (f p)
    (λ lt. first-greatest f p ps (λ q e. over (f q) (f g.item) (f p) (g.most q e) lt))
    (λ le. record { item = g.item; is_one = or_right (is_same g.item p) (is_point ps g.item) g.is_one; most = most-with f p ps (f g.item) le g.most })
  where
    over : (x y z : ℤ) → x ≤ℤ y → y <ℤ z → x ≤ℤ z
    over x y z h k = omega (arith, ints, h, k)

pub greatest : (f : Coords → ℤ) (p : Coords) (ps : List Coords) → Greatest f (p ∷ ps)
greatest f p [] = first-greatest f p [] (λ q e. cc)
greatest f p (r ∷ rs) = greater-of f p (r ∷ rs) (greatest f r rs)

-- ---- a wall that parts a point from c has an end that lies farther to the left of ab
-- places a, b, c, v, u, w have numbers 0 to 5
ends-apart : (a b c v u w : Coords) → side v c w *ℤ (side a b u -ℤ side a b v) -ℤ side v c u *ℤ (side a b w -ℤ side a b v) ≡ side u w v *ℤ (side a b c -ℤ side a b v)
unfolding side
ends-apart a b c v u w = ring (env (a ∷ b ∷ c ∷ v ∷ u ∷ w ∷ []))
    (sideE 3 2 5 ⊗ (sideE 0 1 4 ⊖ sideE 0 1 3) ⊖ sideE 3 2 4 ⊗ (sideE 0 1 5 ⊖ sideE 0 1 3)) (sideE 4 5 3 ⊗ (sideE 0 1 2 ⊖ sideE 0 1 3)) refl

no-wall : (a b c v u w : Coords) → Walls u w c v → side a b u ≤ℤ side a b v → side a b w ≤ℤ side a b v → side a b v <ℤ side a b c → ⊥
no-wall a b c v u w wall le_u le_w lt =
    clash (side v c w *ℤ (side a b u -ℤ side a b v)) (side v c u *ℤ (side a b w -ℤ side a b v)) (side u w v *ℤ (side a b c -ℤ side a b v)) (ends-apart a b c v u w)
    (mul-mixed (side v c w) (side a b u -ℤ side a b v) wall.second (down (side a b u) (side a b v) le_u))
    (mul-nonpos (side v c u) (side a b w -ℤ side a b v) wall.first (down (side a b w) (side a b v) le_w))
    (mul-positive (side u w v) (side a b c -ℤ side a b v) wall.left (up (side a b c) (side a b v) lt))
  where
    down : (x y : ℤ) → x ≤ℤ y → (x -ℤ y) ≤ℤ pos 0
    down x y h = omega (arith, ints, h)

    up : (x y : ℤ) → y <ℤ x → pos 0 <ℤ (x -ℤ y)
    up x y h = omega (arith, ints, h)

    clash : (x y z : ℤ) → x -ℤ y ≡ z → x ≤ℤ pos 0 → pos 0 ≤ℤ y → pos 0 <ℤ z → ⊥
    clash x y z e h k l = omega (arith, ints, e, h, k, l)

-- ---- no point lies to the left of the edge across from a far corner that is the highest
known : (z : Corner) → IsValid z → IsKnown z
known z (Place p h) = h
known z Far0 = omega arith
known z Far1 = omega arith
known z Far2 = omega arith

lower-rank : (a : Corner) (k : ℕ) → k < 3 → is_lower a k ≡ true → k < rank a
lower-rank (At p) k lt e = lt
lower-rank (Far j) k lt e = ltb-true k j e

-- the triangle a, b, Far k at its index
record Reach (net : Net) (a b : Corner) (k : ℕ) : Type 0 where
  index : ℕ
  triangle : Triangle
  at : slice_get net.triangles index ≡ Some triangle
  turn : IsTurn triangle a b (Far k)

reach : (net : Net) (a b : Corner) (k : ℕ) → has net a b (Far k) ≡ true → Reach net a b k
reach net a b k e =
    let one = has-owner net a b (Far k) e in
    record { index = one.owner.index; triangle = one.owner.triangle; at = one.owner.at; turn = subst (λ (z : Corner). IsTurn one.owner.triangle a b z) one.third one.owner.turn }

-- of a wall between v and the far corner one end lies farther to the left
never-walled : (net : Net) → IsSheet net → (a b : Corner) (k : ℕ) (v u w : Coords) → 0 < net.count u w → Walls u w (corner_at (Far k)) v
    → ((q : Coords) → is_point net.points q ≡ true → side (corner_at a) (corner_at b) q ≤ℤ side (corner_at a) (corner_at b) v) → side (corner_at a) (corner_at b) v <ℤ corner_side a b (Far k) → ⊥
never-walled net sheet a b k v u w piece wall most lt =
    no-wall (corner_at a) (corner_at b) (corner_at (Far k)) v u w wall
    (most u ((sheet-site net sheet).ends u w piece))
    (most w ((sheet-site net sheet).ends w u (subst (λ (n : ℕ). 0 < n) (sheet.even u w) piece))) lt

never-leftmost : (net : Net) → IsSheet net → IsLocallyDelaunay net → (a b : Corner) (k : ℕ) → Reach net a b k → is_lower a k ≡ true → is_lower b k ≡ true → (v : Coords) → is_point net.points v ≡ true
    → ((q : Coords) → is_point net.points q ≡ true → side (corner_at a) (corner_at b) q ≤ℤ side (corner_at a) (corner_at b) v) → pos 0 <ℤ side (corner_at a) (corner_at b) v → ⊥
never-leftmost net sheet local a b k r la lb v at_v most left =
    by_lt_z (side (corner_at b) (corner_at (Far k)) v) (pos 0) beyond_bc (λ bc. by_lt_z (side (corner_at (Far k)) (corner_at a) v) (pos 0) beyond_ca (λ ca. corner (sheet-only net sheet r.index r.triangle a b (Far k) r.at r.turn v at_v (weaken (side (corner_at a) (corner_at b) v) left) bc ca)))
  where
    turned : pos 0 <ℤ corner_side a b (Far k)
    turned = turn-side r.triangle a b (Far k) r.turn (left-of net sheet r.index r.triangle r.at)

    valid : AreValid r.triangle
    valid = sheet-valid net sheet r.index r.triangle r.at

    known_a : IsKnown a
    known_a = known a (turn-valid r.triangle a b (Far k) r.turn valid).a_in

    turn_b : IsTurn r.triangle b (Far k) a
    turn_b = turn-next r.triangle a b (Far k) r.turn

    known_b : IsKnown b
    known_b = known b (turn-valid r.triangle a b (Far k) r.turn valid).b_in

    turn_c : IsTurn r.triangle (Far k) a b
    turn_c = turn-next r.triangle b (Far k) a turn_b

    known_c : k < 3
    known_c = known (Far k) (turn-valid r.triangle a b (Far k) r.turn valid).c_in

    over_a : k < rank a
    over_a = lower-rank a k known_c la

    over_b : k < rank b
    over_b = lower-rank b k known_c lb

    place : IsPlace v
    place = listed-place net.points sheet.places v at_v

    less : side (corner_at a) (corner_at b) v <ℤ corner_side a b (Far k)
    less = far-larger a b k v known_a known_b known_c over_a over_b place turned

    inside : is_corner_inside (Far k) a b (At v) ≡ true
    inside =
        first-decides (Far k) a b (At v) known_c known_a known_b place (is_left-from (corner_at (Far k)) (corner_at a) (corner_at b) (turn-side r.triangle (Far k) a b turn_c (left-of net sheet r.index r.triangle r.at))) known_c (weak k (rank a) over_a) (weak k (rank b) over_b)
        ∙ ap (λ o. is_inside_beside o (is_between a b (At v))) (cmp_greater (corner_side a b (At v)) left)
      where
        weak : (m n : ℕ) → m < n → m ≤ n
        weak m n h = omega (arith, h)

    deep_c : pos 0 <ℤ deep (Far k) a b (At v)
    deep_c = inside-deep (Far k) a b (At v) inside

    beyond_bc : side (corner_at b) (corner_at (Far k)) v <ℤ pos 0 → ⊥
    beyond_bc lt =
        let w = walled (around net sheet local v at_v) b (Far k) (record { index = r.index; triangle = r.triangle; third = a; at = r.at; turn = turn_b })
        (positive-along (deep b (Far k) a (At v)) (deep (Far k) a b (At v)) (depth-turned (lift b) (lift (Far k)) (lift a) (lift (At v))) deep_c) lt in
        never-walled net sheet a b k v w.u w.v w.piece w.at_b most less

    beyond_ca : side (corner_at (Far k)) (corner_at a) v <ℤ pos 0 → ⊥
    beyond_ca lt =
        let w = walled (around net sheet local v at_v) (Far k) a (record { index = r.index; triangle = r.triangle; third = b; at = r.at; turn = turn_c }) deep_c lt in
        never-walled net sheet a b k v w.u w.v w.piece w.at_a most less

    corner : (At v ≡ a) ⊎ ((At v ≡ b) ⊎ (At v ≡ Far k)) → ⊥
    corner (inl e) = never-level (side (corner_at a) (corner_at b) v) left (flat_ca (corner_at a) (corner_at b) v (ap corner_at e))
    corner (inr (inl e)) = never-level (side (corner_at a) (corner_at b) v) left (flat_bc (corner_at a) (corner_at b) v (sym (ap corner_at e)))
    corner (inr (inr e)) = cc

-- ---- the law
some-greatest : (f : Coords → ℤ) (ps : List Coords) (p : Coords) → is_point ps p ≡ true → Greatest f ps
some-greatest f [] p e = cc
some-greatest f (q ∷ qs) p e = greatest f q qs

pub not_left : (a b p : Coords) → side a b p ≤ℤ pos 0 → is_left a b p ≡ false
not_left a b p le = by_sign (side a b p)
    (λ lt. ap is_gt (cmp_less (side a b p) lt))
    (λ gt. absurd (never-low (side a b p) gt le))
    (λ e. ap is_gt (cmp_equal (side a b p) e))

pub hull_law : HullLaw
hull_law net sheet local a b k at la lb p at_p = by_lt_z (pos 0) (side (corner_at a) (corner_at b) p) found (not_left (corner_at a) (corner_at b) p)
  where
    found : pos 0 <ℤ side (corner_at a) (corner_at b) p → is_left (corner_at a) (corner_at b) p ≡ false
    found lt =
        let g = some-greatest (side (corner_at a) (corner_at b)) net.points p at_p in
        absurd (never-leftmost net sheet local a b k (reach net a b k at) la lb g.item g.is_one g.most (above (side (corner_at a) (corner_at b) p) (side (corner_at a) (corner_at b) g.item) lt (g.most p at_p)))
      where
        above : (x y : ℤ) → pos 0 <ℤ x → x ≤ℤ y → pos 0 <ℤ y
        above x y h k = omega (arith, ints, h, k)
