-- The walk from triangle to triangle, each higher over the place than the one before, ends at a wall.
use Rattle.std.proofs.Common.{◌≡◌, ℕ, zero, suc, ◌+◌, ◌<◌, ◌⊎◌, inl, inr, refl, sym, ap, subst, ◌∙◌, arith, Bool, true, false}
use Rattle.std.specs.Prelude.{ℤ, pos, neg_ℤ, ◌+ℤ◌, ◌*ℤ◌, ◌<ℤ◌, ◌≤ℤ◌, int_lt, not, ◌&&◌, ◌||◌, Some, slice_get, count_by}
use Rattle.std.proofs.lemmas.Int.{ints, by_lt_z}
use Rattle.std.proofs.lemmas.Bool.{or_cases, and_cases}
use Rattle.ground_model.specs.declared.corner.Corner.{Corner}
use Rattle.ground_model.specs.declared.corner.Corner.TheVariants.{At, Far}
use Rattle.ground_model.specs.Side.{side}
use Rattle.ground_model.specs.Corner.{corner_at, corner_side, is_same_corner}
use Rattle.ground_model.proofs.Circle.{side-turned}
use Rattle.predicates.specs.Net.{Triangle, count_of, covers, has_corner, is_beyond}
use Rattle.predicates.proofs.Edges.{corner-equal}
use Rattle.predicates.proofs.Tiling.{left-of}
use Rattle.predicates.proofs.FarSides.{far-side01, far-side12, far-side20}
use Rattle.predicates.proofs.Valid.{IsValid, Place}
use Rattle.predicates.proofs.FarTriangle.{sheet-valid}
use Rattle.predicates.proofs.Owners.{IsTurn, Still, Once, Twice, Owner, turn-side, owner-behind, IsFarEdge, From0, From1, From2, turn-next, owner-times}
use Rattle.predicates.proofs.OneEdgeBeyond.{Leans, beyond_ab-bc, beyond_ab-ca}
use Rattle.cdt_law.proofs.Walls.{Between, walls-between}
use Rattle.cdt_law.proofs.Ranks.{count-falls}
use Rattle.predicates.proofs.HigherPlanes.{higher-after, depth-turned, planes-next, next-higher, next-deep}
use Rattle.predicates.proofs.Heights.{lift, deep}
use Rattle.predicates.proofs.PlanesBelow.{leans, lean_e, lean_n}
use Rattle.predicates.proofs.NoFourInPlane.{not_flat}
use Rattle.cdt_law.proofs.Walk.{Around, Walled, AllValid, turn-depth, turn-of-side, turn-valid, counted-wall}
use Rattle.predicates.proofs.Signs.{negative-along, never-both, never-flat, never-level, positive-along}
use Rattle.predicates.proofs.FlatSides.{flat_bc, flat_ca, positive-back, side-back}

-- p lies strictly to the right of xy
abbrev Beyond : Around → Corner → Corner → Type 0
Beyond g x y = side (corner_at x) (corner_at y) g.p <ℤ pos 0

-- ---- what the test of a place and a triangle tells
is_less : (x y : ℤ) → int_lt x y ≡ true → x <ℤ y
is_less x y e = omega (arith, ints, sym e)

less_is : (x y : ℤ) → x <ℤ y → int_lt x y ≡ true
less_is x y h =
    let t : true ≡ int_lt x y = omega (arith, ints, h) in
    sym t

not_less : (x : ℤ) → int_lt x x ≡ false
not_less x =
    let t : false ≡ int_lt x x = omega (arith, ints) in
    sym t

not_false : (b : Bool) → not b ≡ false → b ≡ true
not_false true e = refl
not_false false e = cc

outside-first : (g : Around) (t : Triangle) → covers t g.p ≡ false → Beyond g t.a t.b ⊎ (Beyond g t.b t.c ⊎ Beyond g t.c t.a)
outside-first g t e = by (and_cases (not (is_beyond t.a t.b g.p) && not (is_beyond t.b t.c g.p)) (not (is_beyond t.c t.a g.p)) e)
  where
    two : (not (is_beyond t.a t.b g.p) ≡ false) ⊎ (not (is_beyond t.b t.c g.p) ≡ false) → Beyond g t.a t.b ⊎ (Beyond g t.b t.c ⊎ Beyond g t.c t.a)
    two (inl e) = inl (is_less (side (corner_at t.a) (corner_at t.b) g.p) (pos 0) (not_false (is_beyond t.a t.b g.p) e))
    two (inr e) = inr (inl (is_less (side (corner_at t.b) (corner_at t.c) g.p) (pos 0) (not_false (is_beyond t.b t.c g.p) e)))

    by : ((not (is_beyond t.a t.b g.p) && not (is_beyond t.b t.c g.p)) ≡ false) ⊎ (not (is_beyond t.c t.a g.p) ≡ false) → Beyond g t.a t.b ⊎ (Beyond g t.b t.c ⊎ Beyond g t.c t.a)
    by (inl e) = two (and_cases (not (is_beyond t.a t.b g.p)) (not (is_beyond t.b t.c g.p)) e)
    by (inr e) = inr (inr (is_less (side (corner_at t.c) (corner_at t.a) g.p) (pos 0) (not_false (is_beyond t.c t.a g.p) e)))

rotated : {P Q R : Type 0} → P ⊎ (Q ⊎ R) → Q ⊎ (R ⊎ P)
rotated (inl p) = inr (inr p)
rotated (inr (inl q)) = inl q
rotated (inr (inr r)) = inr (inl r)

outside : (g : Around) (t : Triangle) (a b c : Corner) → IsTurn t a b c → covers t g.p ≡ false → Beyond g a b ⊎ (Beyond g b c ⊎ Beyond g c a)
outside g t a b c Still e = outside-first g t e
outside g t a b c Once e = rotated (outside-first g t e)
outside g t a b c Twice e = rotated (rotated (outside-first g t e))

at-corner-first : (t : Triangle) (z : Corner) → has_corner t z ≡ true → (t.a ≡ z) ⊎ ((t.b ≡ z) ⊎ (t.c ≡ z))
at-corner-first t z e = by (or_cases (is_same_corner t.a z || is_same_corner t.b z) (is_same_corner t.c z) e)
  where
    two : (is_same_corner t.a z ≡ true) ⊎ (is_same_corner t.b z ≡ true) → (t.a ≡ z) ⊎ ((t.b ≡ z) ⊎ (t.c ≡ z))
    two (inl e) = inl (corner-equal t.a z e)
    two (inr e) = inr (inl (corner-equal t.b z e))

    by : ((is_same_corner t.a z || is_same_corner t.b z) ≡ true) ⊎ (is_same_corner t.c z ≡ true) → (t.a ≡ z) ⊎ ((t.b ≡ z) ⊎ (t.c ≡ z))
    by (inl e) = two (or_cases (is_same_corner t.a z) (is_same_corner t.b z) e)
    by (inr e) = inr (inr (corner-equal t.c z e))

pub at-corner : (t : Triangle) (a b c z : Corner) → IsTurn t a b c → has_corner t z ≡ true → (a ≡ z) ⊎ ((b ≡ z) ⊎ (c ≡ z))
at-corner t a b c z Still e = at-corner-first t z e
at-corner t a b c z Once e = rotated (at-corner-first t z e)
at-corner t a b c z Twice e = rotated (rotated (at-corner-first t z e))

-- ---- ranks
-- x's plane is higher over the place than t's
abbrev is_higher : Around → Triangle → Triangle → Bool
is_higher g t x = int_lt (deep t.a t.b t.c (At g.p) *ℤ corner_side x.a x.b x.c) (deep x.a x.b x.c (At g.p) *ℤ corner_side t.a t.b t.c)

abbrev pub rank : Around → Triangle → ℕ
rank g t = count_by (is_higher g t) g.net.triangles

rank-falls : (g : Around) (j k : ℕ) (t q : Triangle) → slice_get g.net.triangles j ≡ Some t → slice_get g.net.triangles k ≡ Some q → is_higher g t q ≡ true → rank g q < rank g t
rank-falls g j k t q at_t at_q higher =
    count-falls (is_higher g t) (is_higher g q) g.net.triangles
    (record {
      keeps = λ i x at h. less_is (deep t.a t.b t.c (At g.p) *ℤ corner_side x.a x.b x.c) (deep x.a x.b x.c (At g.p) *ℤ corner_side t.a t.b t.c)
          (higher-after (deep t.a t.b t.c (At g.p)) (corner_side t.a t.b t.c) (deep q.a q.b q.c (At g.p)) (corner_side q.a q.b q.c) (deep x.a x.b x.c (At g.p)) (corner_side x.a x.b x.c)
          (left-of g.net g.sheet j t at_t) (left-of g.net g.sheet k q at_q) (left-of g.net g.sheet i x at)
          (is_less (deep t.a t.b t.c (At g.p) *ℤ corner_side q.a q.b q.c) (deep q.a q.b q.c (At g.p) *ℤ corner_side t.a t.b t.c) higher)
          (is_less (deep q.a q.b q.c (At g.p) *ℤ corner_side x.a x.b x.c) (deep x.a x.b x.c (At g.p) *ℤ corner_side q.a q.b q.c) h));
    })
    k q at_q higher (not_less (deep q.a q.b q.c (At g.p) *ℤ corner_side q.a q.b q.c))

-- ---- signs that clash
never-far : (g : Around) (a b : Corner) → IsFarEdge a b → Beyond g a b → ⊥
never-far g a b From0 h = never-both (side (corner_at (Far 0)) (corner_at (Far 1)) g.p) (far-side01 g.p g.p_place) h
never-far g a b From1 h = never-both (side (corner_at (Far 1)) (corner_at (Far 2)) g.p) (far-side12 g.p g.p_place) h
never-far g a b From2 h = never-both (side (corner_at (Far 2)) (corner_at (Far 0)) g.p) (far-side20 g.p g.p_place) h

-- ---- one step
pub data Step (g : Around) (a b : Corner) (n : ℕ) : Type 0 where
  Done : Walled g a b → Step g a b n
  Go : (e f : Corner) (q : Owner g.net.triangles e f) → rank g q.triangle < n → pos 0 <ℤ deep e f q.third (At g.p) → Beyond g e f → (Walled g e f → Walled g a b) → Step g a b n

-- across ab: all that the step knows of the triangle on the other side
record Across (g : Around) (a b : Corner) (q : Owner g.net.triangles b a) (n : ℕ) : Type 0 where
  pub falls : rank g q.triangle < n
  pub turned : pos 0 <ℤ corner_side b a q.third
  pub deep_q : pos 0 <ℤ deep b a q.third (At g.p)
  pub all_in : AllValid b a q.third
  pub beyond : Beyond g a b
  pub p_not_d : At g.p ≡ q.third → ⊥
  pub a_not_d : a ≡ q.third → ⊥
  pub b_not_d : b ≡ q.third → ⊥

leans-at_d : (g : Around) (d x y : Corner) → IsValid d → IsValid x → IsValid y → (x ≡ d → ⊥) → (y ≡ d → ⊥) → (At g.p ≡ d → ⊥) → Leans (lift d) (lift x) (lift y) (lift (At g.p))
leans-at_d g d x y vd vx vy nx ny np = record {
  k = lean_e d;
  l = lean_n d;
  x_above = leans d x vd vx nx;
  y_above = leans d y vd vy ny;
  z_above = leans d (At g.p) vd (Place g.p g.p_place) np;
}

-- beyond ad the walk goes on there
go_ad : (g : Around) (a b : Corner) (q : Owner g.net.triangles b a) (n : ℕ) → Across g a b q n → Beyond g a q.third → Step g a b n
go_ad g a b q n x far =
    Go a q.third (record { index = q.index; triangle = q.triangle; third = b; at = q.at; turn = turn-next q.triangle b a q.third q.turn })
    x.falls deep_adb far (λ w. record { u = w.u; v = w.v; piece = w.piece; at_a = w.at_a; at_b = walls-between w.u w.v (corner_at a) (corner_at q.third) (corner_at b) g.p between w.at_a w.at_b })
  where
    deep_adb : pos 0 <ℤ deep a q.third b (At g.p)
    deep_adb = positive-along (deep a q.third b (At g.p)) (deep b a q.third (At g.p)) (sym (depth-turned (lift b) (lift a) (lift q.third) (lift (At g.p)))) x.deep_q

    side_adb : pos 0 <ℤ corner_side a q.third b
    side_adb = positive-along (corner_side a q.third b) (corner_side b a q.third) (sym (side-turned (corner_at b) (corner_at a) (corner_at q.third))) x.turned

    between : Between (corner_at a) (corner_at q.third) (corner_at b) g.p
    between = record {
      beyond = far;
      at_a = beyond_ab-bc (lift a) (lift q.third) (lift b) (lift (At g.p)) side_adb deep_adb far (leans-at_d g q.third a b x.all_in.c_in x.all_in.b_in x.all_in.a_in x.a_not_d x.b_not_d x.p_not_d);
      at_d = positive-back (corner_at a) (corner_at b) g.p x.beyond;
      turns = x.turned;
    }

-- beyond db the walk goes on there
go_db : (g : Around) (a b : Corner) (q : Owner g.net.triangles b a) (n : ℕ) → Across g a b q n → Beyond g q.third b → Step g a b n
go_db g a b q n x far =
    Go q.third b (record { index = q.index; triangle = q.triangle; third = a; at = q.at; turn = turn-next q.triangle a q.third b (turn-next q.triangle b a q.third q.turn) })
    x.falls deep_dba far (λ w. record { u = w.u; v = w.v; piece = w.piece; at_a = walls-between w.u w.v (corner_at q.third) (corner_at b) (corner_at a) g.p between w.at_a w.at_b; at_b = w.at_b })
  where
    deep_dba : pos 0 <ℤ deep q.third b a (At g.p)
    deep_dba = positive-along (deep q.third b a (At g.p)) (deep b a q.third (At g.p)) (depth-turned (lift q.third) (lift b) (lift a) (lift (At g.p))) x.deep_q

    side_dba : pos 0 <ℤ corner_side q.third b a
    side_dba = positive-along (corner_side q.third b a) (corner_side b a q.third) (side-turned (corner_at q.third) (corner_at b) (corner_at a)) x.turned

    between : Between (corner_at q.third) (corner_at b) (corner_at a) g.p
    between = record {
      beyond = far;
      at_a = positive-back (corner_at a) (corner_at b) g.p x.beyond;
      at_d = beyond_ab-ca (lift q.third) (lift b) (lift a) (lift (At g.p)) side_dba deep_dba far (leans-at_d g q.third b a x.all_in.c_in x.all_in.a_in x.all_in.b_in x.b_not_d x.a_not_d x.p_not_d);
      turns = positive-along (corner_side a q.third b) (corner_side b a q.third) (sym (side-turned (corner_at b) (corner_at a) (corner_at q.third))) x.turned;
    }

-- the place is no corner of the triangle across, so it lies beyond one of its other edges
go : (g : Around) (a b : Corner) (q : Owner g.net.triangles b a) (n : ℕ) → Across g a b q n → Step g a b n
go g a b q n x = by (covers q.triangle g.p) refl
  where
    no_corner : (b ≡ At g.p) ⊎ ((a ≡ At g.p) ⊎ (q.third ≡ At g.p)) → ⊥
    no_corner (inl e) = never-flat (side (corner_at a) (corner_at b) g.p) x.beyond (flat_bc (corner_at a) (corner_at b) g.p (ap corner_at e))
    no_corner (inr (inl e)) = never-flat (side (corner_at a) (corner_at b) g.p) x.beyond (flat_ca (corner_at a) (corner_at b) g.p (sym (ap corner_at e)))
    no_corner (inr (inr e)) = x.p_not_d (sym e)

    edge : Beyond g b a ⊎ (Beyond g a q.third ⊎ Beyond g q.third b) → Step g a b n
    edge (inl h) = absurd (never-both (side (corner_at b) (corner_at a) g.p) (positive-back (corner_at a) (corner_at b) g.p x.beyond) h)
    edge (inr (inl h)) = go_ad g a b q n x h
    edge (inr (inr h)) = go_db g a b q n x h

    by : (c : Bool) → covers q.triangle g.p ≡ c → Step g a b n
    by true e = absurd (no_corner (at-corner q.triangle b a q.third (At g.p) q.turn (g.clear q.index q.triangle q.at e)))
    by false e = edge (outside g q.triangle b a q.third q.turn e)

-- ---- where ab is no piece
across : (g : Around) (a b : Corner) (o : Owner g.net.triangles a b) (q : Owner g.net.triangles b a) → count_of g.net a b ≡ 0 → pos 0 <ℤ deep a b o.third (At g.p) → Beyond g a b → Across g a b q (rank g o.triangle)
across g a b o q none deep_o beyond = record {
  falls = rank-falls g o.index q.index o.triangle q.triangle o.at q.at higher;
  turned = side_bad;
  deep_q = next-deep (corner_side a b o.third) (corner_side b a q.third) (side (corner_at a) (corner_at b) g.p) (deep a b o.third (At g.p)) (deep b a q.third (At g.p)) (deep a b o.third q.third) planes side_abc side_bad beyond deep_o shallow;
  all_in = in_q;
  beyond = beyond;
  p_not_d = λ e. never-both (deep a b o.third (At g.p)) deep_o (negative-along (deep a b o.third (At g.p)) (deep a b o.third q.third) (ap (deep a b o.third) e) shallow);
  a_not_d = λ e. never-level (corner_side b a q.third) side_bad (flat_bc (corner_at b) (corner_at a) (corner_at q.third) (ap corner_at e));
  b_not_d = λ e. never-level (corner_side b a q.third) side_bad (flat_ca (corner_at b) (corner_at a) (corner_at q.third) (sym (ap corner_at e)));
}
  where
    side_abc : pos 0 <ℤ corner_side a b o.third
    side_abc = turn-side o.triangle a b o.third o.turn (left-of g.net g.sheet o.index o.triangle o.at)

    side_bad : pos 0 <ℤ corner_side b a q.third
    side_bad = turn-side q.triangle b a q.third q.turn (left-of g.net g.sheet q.index q.triangle q.at)

    in_o : AllValid a b o.third
    in_o = turn-valid o.triangle a b o.third o.turn (sheet-valid g.net g.sheet o.index o.triangle o.at)

    in_q : AllValid b a q.third
    in_q = turn-valid q.triangle b a q.third q.turn (sheet-valid g.net g.sheet q.index q.triangle q.at)

    strict : (z : ℤ) → z ≤ℤ pos 0 → (z ≡ pos 0 → ⊥) → z <ℤ pos 0
    strict z h n = by_lt_z z (pos 0) (λ lt. lt) (λ ge. absurd (n (omega (arith, ints, h, ge))))

    not_third : q.third ≡ o.third → ⊥
    not_third e = never-both (side (corner_at b) (corner_at a) (corner_at o.third)) (subst (λ (z : Corner). pos 0 <ℤ corner_side b a z) e side_bad) (below (side (corner_at b) (corner_at a) (corner_at o.third)) (corner_side a b o.third) (side-back (corner_at a) (corner_at b) (corner_at o.third)) side_abc)
      where
        below : (s t : ℤ) → s ≡ neg_ℤ t → pos 0 <ℤ t → s <ℤ pos 0
        below s t e h = omega (arith, ints, e, h)

    shallow : deep a b o.third q.third <ℤ pos 0
    shallow = strict (deep a b o.third q.third) (g.local a b o q none)
        (not_flat a b o.third q.third (record {
          a_in = in_o.a_in;
          b_in = in_o.b_in;
          c_in = in_o.c_in;
          d_in = in_q.c_in;
          turned = side_abc;
          not_a = λ e. never-level (corner_side b a q.third) side_bad (flat_bc (corner_at b) (corner_at a) (corner_at q.third) (sym (ap corner_at e)));
          not_b = λ e. never-level (corner_side b a q.third) side_bad (flat_ca (corner_at b) (corner_at a) (corner_at q.third) (ap corner_at e));
          not_c = not_third;
        }))

    planes : corner_side a b o.third *ℤ deep b a q.third (At g.p) ≡ corner_side b a q.third *ℤ deep a b o.third (At g.p) +ℤ side (corner_at a) (corner_at b) g.p *ℤ deep a b o.third q.third
    planes = planes-next (lift a) (lift b) (lift o.third) (lift q.third) (lift (At g.p))

    higher : is_higher g o.triangle q.triangle ≡ true
    higher = test (deep a b o.third (At g.p)) (corner_side b a q.third) (deep b a q.third (At g.p)) (corner_side a b o.third)
        (deep o.triangle.a o.triangle.b o.triangle.c (At g.p)) (corner_side q.triangle.a q.triangle.b q.triangle.c) (deep q.triangle.a q.triangle.b q.triangle.c (At g.p)) (corner_side o.triangle.a o.triangle.b o.triangle.c)
        (turn-depth o.triangle a b o.third (At g.p) o.turn) (turn-of-side q.triangle b a q.third q.turn) (turn-depth q.triangle b a q.third (At g.p) q.turn) (turn-of-side o.triangle a b o.third o.turn)
        (next-higher (corner_side a b o.third) (corner_side b a q.third) (side (corner_at a) (corner_at b) g.p) (deep a b o.third (At g.p)) (deep b a q.third (At g.p)) (deep a b o.third q.third) planes beyond shallow)
      where
        test : (x t y s x' t' y' s' : ℤ) → x ≡ x' → t ≡ t' → y ≡ y' → s ≡ s' → (x *ℤ t) <ℤ (y *ℤ s) → int_lt (x' *ℤ t') (y' *ℤ s') ≡ true
        test x t y s x' t' y' s' ex et ey es h = sym (λ i. int_lt (ex i *ℤ et i) (ey i *ℤ es i)) ∙ less_is (x *ℤ t) (y *ℤ s) h

step : (g : Around) (a b : Corner) (o : Owner g.net.triangles a b) → pos 0 <ℤ deep a b o.third (At g.p) → Beyond g a b → Step g a b (rank g o.triangle)
step g a b o deep_o beyond = by (count_of g.net a b) refl
  where
    behind : Owner g.net.triangles b a ⊎ IsFarEdge a b → count_of g.net a b ≡ 0 → Step g a b (rank g o.triangle)
    behind (inl q) none = go g a b q (rank g o.triangle) (across g a b o q none deep_o beyond)
    behind (inr f) none = absurd (never-far g a b f beyond)

    some : (n m : ℕ) → n ≡ suc m → 0 < n
    some n m e = omega (arith, e)

    by : (n : ℕ) → count_of g.net a b ≡ n → Step g a b (rank g o.triangle)
    by zero none = behind (owner-behind g.net g.sheet a b (owner-times g.net.triangles o.triangle o.index a b o.third o.at o.turn)) none
    by (suc n) e = Done (counted-wall g a b (some (count_of g.net a b) n e) beyond)

-- ---- the walk
walk : (g : Around) (n : ℕ) (a b : Corner) (o : Owner g.net.triangles a b) → rank g o.triangle < n → pos 0 <ℤ deep a b o.third (At g.p) → Beyond g a b → Walled g a b
walk g zero a b o less deep_o beyond = absurd (omega (arith, less))
walk g (suc n) a b o less deep_o beyond = by (step g a b o deep_o beyond) (walk g n)
  where
    fewer : (m k n : ℕ) → m < k → k < suc n → m < n
    fewer m k n h l = omega (arith, h, l)

    by : Step g a b (rank g o.triangle) → ((e f : Corner) (q : Owner g.net.triangles e f) → rank g q.triangle < n → pos 0 <ℤ deep e f q.third (At g.p) → Beyond g e f → Walled g e f) → Walled g a b
    by (Done w) rest = w
    by (Go e f q lt d h back) rest = back (rest e f q (fewer (rank g q.triangle) (rank g o.triangle) n lt less) d h)

-- what is below the plane of a triangle, and beyond its edge ab, is walled from ab
pub walled : (g : Around) (a b : Corner) (o : Owner g.net.triangles a b) → pos 0 <ℤ deep a b o.third (At g.p) → Beyond g a b → Walled g a b
walled g a b o deep_o beyond = walk g (rank g o.triangle + 1) a b o (omega arith) deep_o beyond
