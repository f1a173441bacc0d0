-- No two edges of a sheet cross.
use Rattle.std.proofs.Common.{◌≡◌, ◌⊎◌, inl, inr, refl, sym, ap, subst, ◌∙◌, arith, [], ◌∷◌, Bool, true, false}
use Rattle.std.specs.Prelude.{ℤ, pos, ◌-ℤ◌, ◌<ℤ◌, ◌&&◌, Some, slice_get}
use Rattle.std.specs.declared.cmp.Ordering.{Ordering}
use Rattle.std.specs.declared.cmp.Ordering.TheVariants.{Less, Equal, Greater}
use Rattle.std.specs.Ordering.{MatchOrdering, is_lt, is_gt}
use Rattle.std.proofs.lemmas.Int.{ints}
use Rattle.std.proofs.lemmas.Bool.{and_parts, or_cases}
use Rattle.std.proofs.lemmas.Cmp.{int_ranked}
use Rattle.ground_model.specs.declared.corner.Corner.{Corner}
use Rattle.ground_model.specs.Place.{Coords}
use Rattle.ground_model.specs.Side.{side, orientation, oppose, crosses}
use Rattle.ground_model.specs.Corner.{corner_at}
use Rattle.ground_model.proofs.Ring.{◌⊖◌, ring}
use Rattle.predicates.specs.Net.{Net, Triangle}
use Rattle.predicates.specs.Sheet.{IsSheet}
use Rattle.predicates.specs.Tiling.{NeverCross}
use Rattle.predicates.proofs.WeightedSides.{placeE}
use Rattle.predicates.proofs.Tiling.{left-of}
use Rattle.predicates.proofs.FarTriangle.{packed}
use Rattle.predicates.proofs.CrossedEdges.{Crosses, crossed}
use Rattle.predicates.proofs.Owners.{IsTurn, Owner, owner, turn-side, turn-inside, turns-meet}
use Rattle.predicates.proofs.Signs.{never-flat, never-level}
use Rattle.predicates.proofs.FlatSides.{flat_bc, flat_ca}

-- ---- two edges of one triangle do not cross
same_triangle : (t : Triangle) (a b c u v w : Corner) → IsTurn t a b c → IsTurn t u v w → Crosses (corner_at a) (corner_at b) (corner_at u) (corner_at v) → ⊥
same_triangle t a b c u v w p q x = by (turns-meet t a b c u v w p q)
  where
    by : (u ≡ a) ⊎ ((u ≡ b) ⊎ (v ≡ a)) → ⊥
    by (inl e) = never-flat (side (corner_at a) (corner_at b) (corner_at u)) x.u_right (flat_ca (corner_at a) (corner_at b) (corner_at u) (ap corner_at e))
    by (inr (inl e)) = never-flat (side (corner_at a) (corner_at b) (corner_at u)) x.u_right (flat_bc (corner_at a) (corner_at b) (corner_at u) (ap corner_at (sym e)))
    by (inr (inr e)) = never-level (side (corner_at a) (corner_at b) (corner_at v)) x.v_left (flat_ca (corner_at a) (corner_at b) (corner_at v) (ap corner_at e))

pub uncrossed : (net : Net) → IsSheet net → (a b u v : Corner) → Owner net.triangles a b → Owner net.triangles u v → Crosses (corner_at a) (corner_at b) (corner_at u) (corner_at v) → ⊥
uncrossed net sheet a b u v o p x =
    let turned_o = turn-side o.triangle a b o.third o.turn (left-of net sheet o.index o.triangle o.at) in
    let turned_p = turn-side p.triangle u v p.third p.turn (left-of net sheet p.index p.triangle p.at) in
    let shared = crossed (corner_at a) (corner_at b) (corner_at o.third) (corner_at u) (corner_at v) (corner_at p.third) turned_o turned_p x in
    let same_index : o.index ≡ p.index = packed net sheet shared.point shared.some o.index p.index o.triangle p.triangle o.at p.at (turn-inside o.triangle a b o.third shared.point o.turn shared.first) (turn-inside p.triangle u v p.third shared.point p.turn shared.second) in
    let same : Some o.triangle ≡ Some p.triangle = sym o.at ∙ ap (slice_get net.triangles) same_index ∙ p.at in
    let one : o.triangle ≡ p.triangle = cc in
    same_triangle o.triangle a b o.third u v p.third o.turn (subst (λ (t : Triangle). IsTurn t u v p.third) (sym one) p.turn) x

-- ---- the test of a crossing
pub left_is : (a b c : Coords) → is_gt (orientation a b c) ≡ true → pos 0 <ℤ side a b c
left_is a b c h = greater (orientation a b c) (int_ranked (side a b c) (pos 0) (orientation a b c) refl) h
  where
    greater : (o : Ordering) → MatchOrdering o (side a b c <ℤ pos 0) (side a b c ≡ pos 0) (pos 0 <ℤ side a b c) → is_gt o ≡ true → pos 0 <ℤ side a b c
    greater Less m t = cc
    greater Equal m t = cc
    greater Greater m t = m

pub right_is : (a b c : Coords) → is_lt (orientation a b c) ≡ true → side a b c <ℤ pos 0
right_is a b c h = less (orientation a b c) (int_ranked (side a b c) (pos 0) (orientation a b c) refl) h
  where
    less : (o : Ordering) → MatchOrdering o (side a b c <ℤ pos 0) (side a b c ≡ pos 0) (pos 0 <ℤ side a b c) → is_lt o ≡ true → side a b c <ℤ pos 0
    less Less m t = m
    less Equal m t = cc
    less Greater m t = cc

-- the two differences of sides are one
gaps : (a b u v : Coords) → side a b v -ℤ side a b u ≡ side u v a -ℤ side u v b
unfolding side
gaps a b u v = ring (a.e ∷ a.n ∷ b.e ∷ b.n ∷ u.e ∷ u.n ∷ v.e ∷ v.n ∷ []) (placeE 0 1 3 ⊖ placeE 0 1 2) (placeE 2 3 0 ⊖ placeE 2 3 1) refl

no_gap : (p q r s : ℤ) → p -ℤ q ≡ r -ℤ s → pos 0 <ℤ p → q <ℤ pos 0 → r <ℤ pos 0 → pos 0 <ℤ s → ⊥
no_gap p q r s e h k l m = omega (arith, ints, e, h, k, l, m)

no_gap_back : (p q r s : ℤ) → p -ℤ q ≡ r -ℤ s → p <ℤ pos 0 → pos 0 <ℤ q → pos 0 <ℤ r → s <ℤ pos 0 → ⊥
no_gap_back p q r s e h k l m = omega (arith, ints, e, h, k, l, m)

-- edges that cross do so in one of two ways
pub crosses-way : (a b u v : Coords) → crosses a b u v ≡ true → Crosses a b u v ⊎ Crosses u v a b
crosses-way a b u v h =
    let both = and_parts (oppose (orientation a b u) (orientation a b v)) (oppose (orientation u v a) (orientation u v b)) h in
    by (or_cases (is_gt (orientation a b u) && is_lt (orientation a b v)) (is_lt (orientation a b u) && is_gt (orientation a b v)) both.0)
    (or_cases (is_gt (orientation u v a) && is_lt (orientation u v b)) (is_lt (orientation u v a) && is_gt (orientation u v b)) both.1)
  where
    by : ((is_gt (orientation a b u) && is_lt (orientation a b v)) ≡ true) ⊎ ((is_lt (orientation a b u) && is_gt (orientation a b v)) ≡ true)
        → ((is_gt (orientation u v a) && is_lt (orientation u v b)) ≡ true) ⊎ ((is_lt (orientation u v a) && is_gt (orientation u v b)) ≡ true)
        → Crosses a b u v ⊎ Crosses u v a b
    by (inl h) (inl k) =
        let p = and_parts (is_gt (orientation a b u)) (is_lt (orientation a b v)) h in
        let q = and_parts (is_gt (orientation u v a)) (is_lt (orientation u v b)) k in
        absurd (no_gap_back (side a b v) (side a b u) (side u v a) (side u v b) (gaps a b u v) (right_is a b v p.1) (left_is a b u p.0) (left_is u v a q.0) (right_is u v b q.1))
    by (inl h) (inr k) =
        let p = and_parts (is_gt (orientation a b u)) (is_lt (orientation a b v)) h in
        let q = and_parts (is_lt (orientation u v a)) (is_gt (orientation u v b)) k in
        inr (record { v_left = left_is u v b q.1; u_right = right_is u v a q.0; a_left = left_is a b u p.0; b_right = right_is a b v p.1 })
    by (inr h) (inl k) =
        let p = and_parts (is_lt (orientation a b u)) (is_gt (orientation a b v)) h in
        let q = and_parts (is_gt (orientation u v a)) (is_lt (orientation u v b)) k in
        inl (record { v_left = left_is a b v p.1; u_right = right_is a b u p.0; a_left = left_is u v a q.0; b_right = right_is u v b q.1 })
    by (inr h) (inr k) =
        let p = and_parts (is_lt (orientation a b u)) (is_gt (orientation a b v)) h in
        let q = and_parts (is_lt (orientation u v a)) (is_gt (orientation u v b)) k in
        absurd (no_gap (side a b v) (side a b u) (side u v a) (side u v b) (gaps a b u v) (left_is a b v p.1) (right_is a b u p.0) (right_is u v a q.0) (left_is u v b q.1))

pub never_cross : NeverCross
never_cross net sheet a b u v at_ab at_uv = by (crosses (corner_at a) (corner_at b) (corner_at u) (corner_at v)) refl
  where
    either : Crosses (corner_at a) (corner_at b) (corner_at u) (corner_at v) ⊎ Crosses (corner_at u) (corner_at v) (corner_at a) (corner_at b) → ⊥
    either (inl x) = uncrossed net sheet a b u v (owner net a b at_ab) (owner net u v at_uv) x
    either (inr x) = uncrossed net sheet u v a b (owner net u v at_uv) (owner net a b at_ab) x

    by : (c : Bool) → crosses (corner_at a) (corner_at b) (corner_at u) (corner_at v) ≡ c → c ≡ false
    by false e = refl
    by true e = absurd (either (crosses-way (corner_at a) (corner_at b) (corner_at u) (corner_at v) e))
