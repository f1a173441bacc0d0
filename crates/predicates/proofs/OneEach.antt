-- A closed net has each edge once.
use Rattle.std.proofs.Common.{◌≡◌, ℕ, zero, suc, ◌+◌, ◌<◌, ◌≤◌, ◌⊎◌, inl, inr, refl, sym, ap, subst, ◌∙◌, arith, List, [], ◌∷◌, ◌++◌, Bool, true, false, flat_map}
use Rattle.std.specs.Prelude.{ℤ, pos, neg_ℤ, ◌<ℤ◌, ◌≤ℤ◌, Some, slice_get, count_by, cond}
use Rattle.std.proofs.lemmas.Int.{ints}
use Rattle.std.proofs.lemmas.List.Sums.{sum_by-append}
use Rattle.ground_model.specs.declared.corner.Corner.{Corner}
use Rattle.ground_model.specs.declared.corner.Corner.TheVariants.{Far}
use Rattle.ground_model.specs.Corner.{corner_at, corner_side}
use Rattle.predicates.specs.Net.{Net, Triangle, Edge, edges_of, edges_in, is_same_edge, times_in, rim}
use Rattle.predicates.specs.Sheet.{IsClosed, rimmed}
use Rattle.predicates.proofs.Signs.{never-level}
use Rattle.predicates.proofs.FlatSides.{flat_ab, flat_bc, flat_ca, side-back}
use Rattle.predicates.proofs.Edges.{edge-tells}
use Rattle.predicates.proofs.Valid.{IsValid}
use Rattle.predicates.proofs.FarTriangle.{outer-nonneg, outer01, outer12, outer20, closed-valid, closed-packs, AreValid}
use Rattle.predicates.proofs.Tiling.{closed-left}
use Rattle.predicates.proofs.Owners.{IsTurn, Still, Once, Twice, Owner, owner, turn-side, turn-inside, some_of_three, IsFarEdge, From0, From1, From2}
use Rattle.predicates.proofs.OneOwner.{on_one_side}

-- ---- the triangle on the left of an edge is one
pub closed-owners : (net : Net) → IsClosed net → (a b : Corner) (o p : Owner net.triangles a b) → o.index ≡ p.index
closed-owners net closed a b o p =
    let turned_o = turn-side o.triangle a b o.third o.turn (closed-left net closed o.index o.triangle o.at) in
    let turned_p = turn-side p.triangle a b p.third p.turn (closed-left net closed p.index p.triangle p.at) in
    let shared = on_one_side (corner_at a) (corner_at b) (corner_at o.third) (corner_at p.third) turned_o turned_p in
    closed-packs net closed shared.point shared.some o.index p.index o.triangle p.triangle o.at p.at
    (turn-inside o.triangle a b o.third shared.point o.turn shared.first) (turn-inside p.triangle a b p.third shared.point p.turn shared.second)

-- ---- a triangle has an edge once
bits : (x y z : Bool) → (x ≡ true → y ≡ true → ⊥) → (y ≡ true → z ≡ true → ⊥) → (z ≡ true → x ≡ true → ⊥) → 0 + cond x 1 0 + cond y 1 0 + cond z 1 0 ≤ 1
bits true true z h k l = absurd (h refl refl)
bits true false true h k l = absurd (l refl refl)
bits true false false h k l = omega arith
bits false true true h k l = absurd (k refl refl)
bits false true false h k l = omega arith
bits false false true h k l = omega arith
bits false false false h k l = omega arith

triangle-once : (e : Edge) (t : Triangle) → pos 0 <ℤ corner_side t.a t.b t.c → count_by (is_same_edge e) (edges_of t) ≤ 1
triangle-once e t turned = bits (is_same_edge e (t.a, t.b)) (is_same_edge e (t.b, t.c)) (is_same_edge e (t.c, t.a))
    (λ f g. not_ab (begins t.a t.b t.b t.c f g)) (λ f g. not_bc (begins t.b t.c t.c t.a f g)) (λ f g. not_ca (begins t.c t.a t.a t.b f g))
  where
    begins : (u v w x : Corner) → is_same_edge e (u, v) ≡ true → is_same_edge e (w, x) ≡ true → u ≡ w
    begins u v w x f g =
        let same : ◌≡◌ {A = Edge} (u, v) (w, x) = sym (edge-tells.equal e (u, v) f) ∙ edge-tells.equal e (w, x) g in
        ap (λ (p : Edge). p.0) same

    not_ab : t.a ≡ t.b → ⊥
    not_ab i = never-level (corner_side t.a t.b t.c) turned (flat_ab (corner_at t.a) (corner_at t.b) (corner_at t.c) (ap corner_at i))

    not_bc : t.b ≡ t.c → ⊥
    not_bc i = never-level (corner_side t.a t.b t.c) turned (flat_bc (corner_at t.a) (corner_at t.b) (corner_at t.c) (ap corner_at i))

    not_ca : t.c ≡ t.a → ⊥
    not_ca i = never-level (corner_side t.a t.b t.c) turned (flat_ca (corner_at t.a) (corner_at t.b) (corner_at t.c) (ap corner_at i))

-- ---- and so has a list in which its owner is one
record OneOwner (ts : List Triangle) (a b : Corner) : Type 0 where
  one : (o p : Owner ts a b) → o.index ≡ p.index
  turned : (k : ℕ) (t : Triangle) → slice_get ts k ≡ Some t → pos 0 <ℤ corner_side t.a t.b t.c

record Headed (t : Triangle) (ts : List Triangle) (a b : Corner) : Type 0 where
  owner : Owner (t ∷ ts) a b
  first : owner.index ≡ 0

-- the head owns an edge that it has
at-head : (t : Triangle) (ts : List Triangle) (a b : Corner) → 0 < count_by (is_same_edge (a, b)) (edges_of t) → Headed t ts a b
at-head t ts a b h = by (some_of_three (is_same_edge (a, b) (t.a, t.b)) (is_same_edge (a, b) (t.b, t.c)) (is_same_edge (a, b) (t.c, t.a)) 0 (more (count_by (is_same_edge (a, b)) (edges_of t)) h))
  where
    more : (n : ℕ) → 0 < n → 0 < n + 0
    more n h = omega (arith, h)

    head : (w x y : Corner) → IsTurn t x y w → ◌≡◌ {A = Edge} (a, b) (x, y) → Headed t ts a b
    head w x y turn e = record { owner = record { index = zero; triangle = t; third = w; at = refl; turn = subst (λ (p : Edge). IsTurn t p.0 p.1 w) (sym e) turn }; first = refl }

    by : (is_same_edge (a, b) (t.a, t.b) ≡ true) ⊎ ((is_same_edge (a, b) (t.b, t.c) ≡ true) ⊎ ((is_same_edge (a, b) (t.c, t.a) ≡ true) ⊎ (0 < 0))) → Headed t ts a b
    by (inl e) = head t.c t.a t.b Still (edge-tells.equal (a, b) (t.a, t.b) e)
    by (inr (inl e)) = head t.a t.b t.c Once (edge-tells.equal (a, b) (t.b, t.c) e)
    by (inr (inr (inl e))) = head t.b t.c t.a Twice (edge-tells.equal (a, b) (t.c, t.a) e)
    by (inr (inr (inr h))) = absurd (omega (arith, h))

list-once : (ts : List Triangle) (a b : Corner) → OneOwner ts a b → count_by (is_same_edge (a, b)) (flat_map edges_of ts) ≤ 1
list-once [] a b h = omega arith
list-once (t ∷ ts) a b h =
    sum (count_by (is_same_edge (a, b)) (edges_of t ++ flat_map edges_of ts)) (count_by (is_same_edge (a, b)) (edges_of t)) (count_by (is_same_edge (a, b)) (flat_map edges_of ts)) parts (triangle-once (a, b) t (h.turned zero t refl)) (list-once ts a b rest) no_two
  where
    parts : count_by (is_same_edge (a, b)) (edges_of t ++ flat_map edges_of ts) ≡ count_by (is_same_edge (a, b)) (edges_of t) + count_by (is_same_edge (a, b)) (flat_map edges_of ts)
    parts = sum_by-append (λ y. cond (is_same_edge (a, b) y) 1 0) (edges_of t) (flat_map edges_of ts)

    later : (o : Owner ts a b) → Owner (t ∷ ts) a b
    later o = record { index = suc o.index; triangle = o.triangle; third = o.third; at = o.at; turn = o.turn }

    rest : OneOwner ts a b
    rest = record { one = λ o p. less (h.one (later o) (later p)); turned = λ k s at. h.turned (suc k) s at }
      where
        less : {m n : ℕ} → suc m ≡ suc n → m ≡ n
        less {m} {n} e = omega (arith, e)

    no_two : 0 < count_by (is_same_edge (a, b)) (edges_of t) → 0 < count_by (is_same_edge (a, b)) (flat_map edges_of ts) → ⊥
    no_two f g =
        let head = at-head t ts a b f in
        clash (sym head.first ∙ h.one head.owner (later (owner (record { points = []; count = λ p q. 0; triangles = ts }) a b g)))
      where
        clash : {k : ℕ} → 0 ≡ suc k → ⊥
        clash {k} e = omega (arith, e)

    sum : (w m n : ℕ) → w ≡ m + n → m ≤ 1 → n ≤ 1 → (0 < m → 0 < n → ⊥) → w ≤ 1
    sum w m n e h k never = grind (arith, e, h, k, never)

-- ---- the rim has each edge once, and no triangle has one of its edges
rim-once : (e : Edge) → times_in rim e ≤ 1
rim-once e = bits (is_same_edge e (Far 1, Far 0)) (is_same_edge e (Far 2, Far 1)) (is_same_edge e (Far 0, Far 2))
    (λ f g. differ 1 2 (begins (Far 1) (Far 0) (Far 2) (Far 1) f g) (λ h. omega (arith, h)))
    (λ f g. differ 2 0 (begins (Far 2) (Far 1) (Far 0) (Far 2) f g) (λ h. omega (arith, h)))
    (λ f g. differ 0 1 (begins (Far 0) (Far 2) (Far 1) (Far 0) f g) (λ h. omega (arith, h)))
  where
    begins : (u v w x : Corner) → is_same_edge e (u, v) ≡ true → is_same_edge e (w, x) ≡ true → u ≡ w
    begins u v w x f g =
        let same : ◌≡◌ {A = Edge} (u, v) (w, x) = sym (edge-tells.equal e (u, v) f) ∙ edge-tells.equal e (w, x) g in
        ap (λ (p : Edge). p.0) same

    differ : (m n : ℕ) → Far m ≡ Far n → (m ≡ n → ⊥) → ⊥
    differ m n e h =
        let same : m ≡ n = cc in
        h same

pub rim-far : (x y : Corner) → 0 < times_in rim (x, y) → IsFarEdge y x
rim-far x y some = by (some_of_three (is_same_edge (x, y) (Far 1, Far 0)) (is_same_edge (x, y) (Far 2, Far 1)) (is_same_edge (x, y) (Far 0, Far 2)) 0 (along (times_in rim (x, y)) some))
  where
    along : (n : ℕ) → 0 < n → 0 < n + 0
    along n h = omega (arith, h)

    far : (u v : Corner) → ◌≡◌ {A = Edge} (x, y) (u, v) → IsFarEdge v u → IsFarEdge y x
    far u v e f = subst (λ (p : Edge). IsFarEdge p.1 p.0) (sym e) f

    by : (is_same_edge (x, y) (Far 1, Far 0) ≡ true) ⊎ ((is_same_edge (x, y) (Far 2, Far 1) ≡ true) ⊎ ((is_same_edge (x, y) (Far 0, Far 2) ≡ true) ⊎ (0 < 0))) → IsFarEdge y x
    by (inl e) = far (Far 1) (Far 0) (edge-tells.equal (x, y) (Far 1, Far 0) e) From0
    by (inr (inl e)) = far (Far 2) (Far 1) (edge-tells.equal (x, y) (Far 2, Far 1) e) From1
    by (inr (inr (inl e))) = far (Far 0) (Far 2) (edge-tells.equal (x, y) (Far 0, Far 2) e) From2
    by (inr (inr (inr h))) = absurd (omega (arith, h))

pub far-left : (x y z : Corner) → IsFarEdge x y → IsValid z → pos 0 ≤ℤ corner_side x y z
far-left x y z From0 v = outer-nonneg (corner_at (Far 0)) (corner_at (Far 1)) (corner_at z) (outer01 z v)
far-left x y z From1 v = outer-nonneg (corner_at (Far 1)) (corner_at (Far 2)) (corner_at z) (outer12 z v)
far-left x y z From2 v = outer-nonneg (corner_at (Far 2)) (corner_at (Far 0)) (corner_at z) (outer20 z v)

turn-third_valid : (t : Triangle) (a b c : Corner) → IsTurn t a b c → AreValid t → IsValid c
turn-third_valid t a b c Still v = v.c
turn-third_valid t a b c Once v = v.a
turn-third_valid t a b c Twice v = v.b

no_rim_edge : (net : Net) → IsClosed net → (a b : Corner) → 0 < times_in rim (a, b) → 0 < times_in (edges_in net) (a, b) → ⊥
no_rim_edge net closed a b in_rim some =
    let o = owner net a b some in
    clash (corner_side a b o.third) (corner_side b a o.third) (side-back (corner_at a) (corner_at b) (corner_at o.third))
    (turn-side o.triangle a b o.third o.turn (closed-left net closed o.index o.triangle o.at))
    (far-left b a o.third (rim-far a b in_rim) (turn-third_valid o.triangle a b o.third o.turn (closed-valid net closed o.index o.triangle o.at)))
  where
    clash : (s t : ℤ) → t ≡ neg_ℤ s → pos 0 <ℤ s → pos 0 ≤ℤ t → ⊥
    clash s t e h k = omega (arith, ints, e, h, k)

-- ---- each edge once
pub closed-once : (net : Net) → IsClosed net → (e : Edge) → times_in (rimmed net) e ≤ 1
closed-once net closed e =
    sum (times_in (rimmed net) e) (times_in (edges_in net) e) (times_in rim e) (sum_by-append (λ y. cond (is_same_edge e y) 1 0) (edges_in net) rim)
    (list-once net.triangles e.0 e.1 (record { one = closed-owners net closed e.0 e.1; turned = closed-left net closed }))
    (rim-once e) (λ f g. no_rim_edge net closed e.0 e.1 g f)
  where
    sum : (w m n : ℕ) → w ≡ m + n → m ≤ 1 → n ≤ 1 → (0 < m → 0 < n → ⊥) → w ≤ 1
    sum w m n e h k never = grind (arith, e, h, k, never)
