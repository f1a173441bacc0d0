-- The test of a wall, and what it tells of sides.
use Rattle.std.proofs.Common.{◌≡◌, ◌⊎◌, inl, inr, refl, sym, ap, ◌∙◌, arith, true, [], ◌∷◌}
use Rattle.std.specs.Prelude.{ℤ, pos, neg_ℤ, ◌-ℤ◌, ◌<ℤ◌, ◌≤ℤ◌, not, ◌&&◌}
use Rattle.std.specs.declared.cmp.Ordering.{Ordering}
use Rattle.std.specs.declared.cmp.Ordering.TheVariants.{Less, Equal, Greater}
use Rattle.std.specs.Ordering.{MatchOrdering, is_eq}
use Rattle.std.proofs.lemmas.Int.{ints}
use Rattle.std.proofs.lemmas.Bool.{and_parts, and_from}
use Rattle.std.proofs.lemmas.Cmp.{int_ranked}
use Rattle.ground_model.specs.Place.{Coords}
use Rattle.ground_model.specs.Side.{side, orientation, agree}
use Rattle.ground_model.specs.Wall.{meets, is_walled}
use Rattle.ground_model.proofs.Ring.{◌⊖◌, ring}
use Rattle.ground_model.proofs.Circle.{env, sideE}
use Rattle.cdt_law.proofs.Walls.{Walls}
use Rattle.predicates.proofs.Signs.{level-down, level-up, never-both, never-level, never-low, weaken, weaken-neg}
use Rattle.predicates.proofs.FlatSides.{side-back}

-- what an orientation tells of its side
abbrev Shows : Ordering → ℤ → Type 0
Shows o s = MatchOrdering o (s <ℤ pos 0) (s ≡ pos 0) (pos 0 <ℤ s)

shows : (a b c : Coords) → Shows (orientation a b c) (side a b c)
shows a b c = int_ranked (side a b c) (pos 0) (orientation a b c) refl

-- ---- from sides to the test
-- by the orientations of a, of p, of u and of v
apart : (oa op ou ov : Ordering) (sa sp su sv : ℤ) → Shows oa sa → Shows op sp → Shows ou su → Shows ov sv → pos 0 <ℤ sp → sa ≤ℤ pos 0 → su ≤ℤ pos 0 → pos 0 ≤ℤ sv → (not (agree oa op) && not (agree ou ov)) ≡ true
apart oa op ou ov sa sp su sv ha hp hu hv p a u v = and_from (not (agree oa op)) (not (agree ou ov)) (first oa op ha hp) (second ou ov hu hv)
  where
    no_both : (s : ℤ) → s <ℤ pos 0 → pos 0 ≤ℤ s → ⊥
    no_both s h k = omega (arith, ints, h, k)

    level : (s : ℤ) → pos 0 <ℤ s → s ≡ pos 0 → ⊥
    level s h k = omega (arith, ints, h, k)

    first : (oa op : Ordering) → Shows oa sa → Shows op sp → not (agree oa op) ≡ true
    first Less Greater ha hp = refl
    first Equal Greater ha hp = refl
    first Greater op ha hp = absurd (never-low sa ha a)
    first oa Less ha hp = absurd (never-both sp p hp)
    first oa Equal ha hp = absurd (level sp p hp)

    second : (ou ov : Ordering) → Shows ou su → Shows ov sv → not (agree ou ov) ≡ true
    second Less Greater hu hv = refl
    second Less Equal hu hv = refl
    second Equal Greater hu hv = refl
    second Equal Equal hu hv = refl
    second Greater ov hu hv = absurd (never-low su hu u)
    second ou Less hu hv = absurd (no_both sv hv v)

meets-from : (u v a p : Coords) → Walls u v a p → meets u v p a ≡ true
meets-from u v a p w =
    apart (orientation u v a) (orientation u v p) (orientation p a u) (orientation p a v) (side u v a) (side u v p) (side p a u) (side p a v)
    (shows u v a) (shows u v p) (shows p a u) (shows p a v) w.left w.across w.first w.second

not_equal : (u v p : Coords) → pos 0 <ℤ side u v p → not (is_eq (orientation u v p)) ≡ true
not_equal u v p h = by (orientation u v p) (shows u v p)
  where
    level : (s : ℤ) → pos 0 <ℤ s → s ≡ pos 0 → ⊥
    level s h k = omega (arith, ints, h, k)

    by : (o : Ordering) → Shows o (side u v p) → not (is_eq o) ≡ true
    by Less m = refl
    by Equal m = absurd (level (side u v p) h m)
    by Greater m = refl

-- a piece that walls p from both ends of an edge passes the test
pub walled-from : (u v a b p : Coords) → Walls u v a p → Walls u v b p → is_walled a b p u v ≡ true
walled-from u v a b p wa wb =
    and_from (not (is_eq (orientation u v p)) && meets u v p a) (meets u v p b)
    (and_from (not (is_eq (orientation u v p))) (meets u v p a) (not_equal u v p wa.left) (meets-from u v a p wa)) (meets-from u v b p wb)

-- ---- from the test to sides
gaps : (u v a p : Coords) → side u v p -ℤ side u v a ≡ side p a v -ℤ side p a u
unfolding side
gaps u v a p = ring (env (u ∷ v ∷ a ∷ p ∷ [])) (sideE 0 1 3 ⊖ sideE 0 1 2) (sideE 3 2 1 ⊖ sideE 3 2 0) refl

one-way : (oa op ou ov : Ordering) (sa sp su sv : ℤ) → Shows oa sa → Shows op sp → Shows ou su → Shows ov sv → sp -ℤ sa ≡ sv -ℤ su → pos 0 <ℤ sp
    → not (agree oa op) ≡ true → not (agree ou ov) ≡ true → (sa ≤ℤ pos 0) × ((su ≤ℤ pos 0) × (pos 0 ≤ℤ sv))
one-way oa op ou ov sa sp su sv ha hp hu hv e p na nu = (down, ends ou ov hu hv nu)
  where
    across : (oa op : Ordering) → Shows oa sa → Shows op sp → not (agree oa op) ≡ true → sa ≤ℤ pos 0
    across Less op ha hp n = weaken-neg sa ha
    across Equal op ha hp n = level sa ha
      where
        level : (s : ℤ) → s ≡ pos 0 → s ≤ℤ pos 0
        level s h = omega (arith, ints, h)
    across Greater Less ha hp n = absurd (no_both sp p hp)
      where
        no_both : (s : ℤ) → pos 0 <ℤ s → s <ℤ pos 0 → ⊥
        no_both s h k = omega (arith, ints, h, k)
    across Greater Equal ha hp n = absurd (never-level sp p hp)
    across Greater Greater ha hp n = cc

    down : sa ≤ℤ pos 0
    down = across oa op ha hp na

    rises : (sa sp su sv : ℤ) → sp -ℤ sa ≡ sv -ℤ su → pos 0 <ℤ sp → sa ≤ℤ pos 0 → su <ℤ sv
    rises sa sp su sv e h k = omega (arith, ints, e, h, k)

    up : su <ℤ sv
    up = rises sa sp su sv e p down

    no_fall : (s t : ℤ) → s <ℤ t → t ≤ℤ pos 0 → pos 0 ≤ℤ s → ⊥
    no_fall s t h k l = omega (arith, ints, h, k, l)

    ends : (ou ov : Ordering) → Shows ou su → Shows ov sv → not (agree ou ov) ≡ true → (su ≤ℤ pos 0) × (pos 0 ≤ℤ sv)
    ends Less Less hu hv n = cc
    ends Less Equal hu hv n = (weaken-neg su hu, level-up sv hv)
    ends Less Greater hu hv n = (weaken-neg su hu, weaken sv hv)
    ends Equal Less hu hv n = absurd (no_fall su sv up (weaken-neg sv hv) (level-up su hu))
    ends Equal Equal hu hv n = (level-down su hu, level-up sv hv)
    ends Equal Greater hu hv n = (level-down su hu, weaken sv hv)
    ends Greater Less hu hv n = absurd (no_fall su sv up (weaken-neg sv hv) (weaken su hu))
    ends Greater Equal hu hv n = absurd (no_fall su sv up (level-down sv hv) (weaken su hu))
    ends Greater Greater hu hv n = cc

walls-one : (u v a p : Coords) → pos 0 <ℤ side u v p → meets u v p a ≡ true → Walls u v a p
walls-one u v a p left m =
    let parts = and_parts (not (agree (orientation u v a) (orientation u v p))) (not (agree (orientation p a u) (orientation p a v))) m in
    let signs = one-way (orientation u v a) (orientation u v p) (orientation p a u) (orientation p a v) (side u v a) (side u v p) (side p a u) (side p a v)
    (shows u v a) (shows u v p) (shows p a u) (shows p a v) (gaps u v a p) left parts.0 parts.1 in
    record { left = left; across = signs.0; first = signs.1.0; second = signs.1.1 }

-- the test does not look at the direction
agree-swapped : (s t : Ordering) → agree s t ≡ agree t s
agree-swapped Less Less = refl
agree-swapped Less Equal = refl
agree-swapped Less Greater = refl
agree-swapped Equal Less = refl
agree-swapped Equal Equal = refl
agree-swapped Equal Greater = refl
agree-swapped Greater Less = refl
agree-swapped Greater Equal = refl
agree-swapped Greater Greater = refl

-- both orientations turned back
agree-back : (s t s' t' : Ordering) (x y x' y' : ℤ) → Shows s x → Shows t y → Shows s' x' → Shows t' y' → x' ≡ neg_ℤ x → y' ≡ neg_ℤ y → not (agree s t) ≡ true → not (agree s' t') ≡ true
agree-back s t s' t' x y x' y' hs ht hs' ht' ex ey n = by s t s' t' hs ht hs' ht' n
  where
    up : (z z' : ℤ) → z' ≡ neg_ℤ z → pos 0 <ℤ z' → z <ℤ pos 0
    up z z' e h = omega (arith, ints, e, h)

    down : (z z' : ℤ) → z' ≡ neg_ℤ z → z' <ℤ pos 0 → pos 0 <ℤ z
    down z z' e h = omega (arith, ints, e, h)

    is_low : (o : Ordering) (z : ℤ) → Shows o z → z <ℤ pos 0 → o ≡ Less
    is_low Less z h k = refl
    is_low Equal z h k = absurd (omega (arith, ints, h, k))
    is_low Greater z h k = absurd (omega (arith, ints, h, k))

    is_high : (o : Ordering) (z : ℤ) → Shows o z → pos 0 <ℤ z → o ≡ Greater
    is_high Less z h k = absurd (omega (arith, ints, h, k))
    is_high Equal z h k = absurd (omega (arith, ints, h, k))
    is_high Greater z h k = refl

    alike : (s t o : Ordering) → s ≡ o → t ≡ o → not (agree s t) ≡ true → not (agree o o) ≡ true
    alike s t o e f n = sym (λ i. not (agree (e i) (f i))) ∙ n

    by : (s t s' t' : Ordering) → Shows s x → Shows t y → Shows s' x' → Shows t' y' → not (agree s t) ≡ true → not (agree s' t') ≡ true
    by s t Less Less hs ht hs' ht' n = alike s t Greater (is_high s x hs (down x x' ex hs')) (is_high t y ht (down y y' ey ht')) n
    by s t Less Equal hs ht hs' ht' n = refl
    by s t Less Greater hs ht hs' ht' n = refl
    by s t Equal Less hs ht hs' ht' n = refl
    by s t Equal Equal hs ht hs' ht' n = refl
    by s t Equal Greater hs ht hs' ht' n = refl
    by s t Greater Less hs ht hs' ht' n = refl
    by s t Greater Equal hs ht hs' ht' n = refl
    by s t Greater Greater hs ht hs' ht' n = alike s t Less (is_low s x hs (up x x' ex hs')) (is_low t y ht (up y y' ey ht')) n

meets-back : (u v a p : Coords) → meets u v p a ≡ true → meets v u p a ≡ true
meets-back u v a p m =
    let parts = and_parts (not (agree (orientation u v a) (orientation u v p))) (not (agree (orientation p a u) (orientation p a v))) m in
    and_from (not (agree (orientation v u a) (orientation v u p))) (not (agree (orientation p a v) (orientation p a u)))
    (agree-back (orientation u v a) (orientation u v p) (orientation v u a) (orientation v u p) (side u v a) (side u v p) (side v u a) (side v u p)
    (shows u v a) (shows u v p) (shows v u a) (shows v u p) (side-back u v a) (side-back u v p) parts.0)
    (ap not (agree-swapped (orientation p a v) (orientation p a u)) ∙ parts.1)

-- a piece that passes the test walls p from both ends of the edge, in one of its two directions
pub walls-of : (u v a b p : Coords) → is_walled a b p u v ≡ true → (Walls u v a p × Walls u v b p) ⊎ (Walls v u a p × Walls v u b p)
walls-of u v a b p h =
    let outer = and_parts (not (is_eq (orientation u v p)) && meets u v p a) (meets u v p b) h in
    let inner = and_parts (not (is_eq (orientation u v p))) (meets u v p a) outer.0 in
    by (orientation u v p) (shows u v p) inner.0 inner.1 outer.1
  where
    up : (z z' : ℤ) → z' ≡ neg_ℤ z → z <ℤ pos 0 → pos 0 <ℤ z'
    up z z' e h = omega (arith, ints, e, h)

    by : (o : Ordering) → Shows o (side u v p) → not (is_eq o) ≡ true → meets u v p a ≡ true → meets u v p b ≡ true → (Walls u v a p × Walls u v b p) ⊎ (Walls v u a p × Walls v u b p)
    by Less m n ma mb =
        let left = up (side u v p) (side v u p) (side-back u v p) m in
        inr (walls-one v u a p left (meets-back u v a p ma), walls-one v u b p left (meets-back u v b p mb))
    by Equal m n ma mb = cc
    by Greater m n ma mb = inl (walls-one u v a p m ma, walls-one u v b p m mb)

-- as does the piece in its other direction
pub walled-back : (u v a b p : Coords) → Walls u v a p → Walls u v b p → is_walled a b p v u ≡ true
walled-back u v a b p wa wb =
    and_from (not (is_eq (orientation v u p)) && meets v u p a) (meets v u p b)
    (and_from (not (is_eq (orientation v u p))) (meets v u p a) (not_level (orientation v u p) (shows v u p)) (meets-back u v a p (meets-from u v a p wa))) (meets-back u v b p (meets-from u v b p wb))
  where
    clash : (y z : ℤ) → z ≡ neg_ℤ y → pos 0 <ℤ y → z ≡ pos 0 → ⊥
    clash y z e h k = omega (arith, ints, e, h, k)

    not_level : (o : Ordering) → Shows o (side v u p) → not (is_eq o) ≡ true
    not_level Less m = refl
    not_level Equal m = absurd (clash (side u v p) (side v u p) (side-back u v p) wa.left m)
    not_level Greater m = refl
