-- The triangle that has an edge of a sheet: there is one, and only one, and mostly one on the other side.
use Rattle.std.proofs.Common.{◌≡◌, ℕ, zero, suc, ◌+◌, ◌<◌, ◌⊎◌, inl, inr, refl, sym, subst, arith, List, [], ◌∷◌, ◌++◌, Bool, true, false, flat_map}
use Rattle.std.specs.Prelude.{ℤ, pos, ◌<ℤ◌, Some, slice_get, count_by, cond}
use Rattle.std.proofs.lemmas.Int.{ints}
use Rattle.std.proofs.lemmas.List.Sums.{sum_by-append}
use Rattle.ground_model.specs.declared.corner.Corner.{Corner}
use Rattle.ground_model.specs.declared.corner.Corner.TheVariants.{Far}
use Rattle.ground_model.specs.Corner.{corner_at, corner_side}
use Rattle.ground_model.proofs.Circle.{side-turned}
use Rattle.predicates.specs.Net.{Net, Triangle, Edge, edges_of, edges_in, is_same_edge, times_in, rim}
use Rattle.predicates.specs.Sheet.{IsSheet, rimmed, IsClosed}
use Rattle.predicates.specs.Weighted.{Weighted}
use Rattle.predicates.specs.Tiling.{IsInside}
use Rattle.predicates.proofs.Tiling.{closed}
use Rattle.predicates.proofs.Edges.{edge-tells}
use Rattle.predicates.proofs.Nudged.{Inside}

-- a, b, c are the corners of t in its turn
pub data IsTurn (t : Triangle) : Corner → Corner → Corner → Type 0 where
  Still : IsTurn t t.a t.b t.c
  Once : IsTurn t t.b t.c t.a
  Twice : IsTurn t t.c t.a t.b

pub turn-side : (t : Triangle) (a b c : Corner) → IsTurn t a b c → pos 0 <ℤ corner_side t.a t.b t.c → pos 0 <ℤ corner_side a b c
turn-side t a b c Still h = h
turn-side t a b c Once h = along (corner_side t.b t.c t.a) (corner_side t.a t.b t.c) (sym (side-turned (corner_at t.a) (corner_at t.b) (corner_at t.c))) h
  where
    along : (s u : ℤ) → s ≡ u → pos 0 <ℤ u → pos 0 <ℤ s
    along s u e h = omega (arith, ints, e, h)
turn-side t a b c Twice h = along (corner_side t.c t.a t.b) (corner_side t.a t.b t.c) (side-turned (corner_at t.c) (corner_at t.a) (corner_at t.b)) h
  where
    along : (s u : ℤ) → s ≡ u → pos 0 <ℤ u → pos 0 <ℤ s
    along s u e h = omega (arith, ints, e, h)

pub turn-inside : (t : Triangle) (a b c : Corner) (x : Weighted) → IsTurn t a b c → Inside (corner_at a) (corner_at b) (corner_at c) x → IsInside t x
turn-inside t a b c x Still h = record { ab = h.ab; bc = h.bc; ca = h.ca }
turn-inside t a b c x Once h = record { ab = h.ca; bc = h.ab; ca = h.bc }
turn-inside t a b c x Twice h = record { ab = h.bc; bc = h.ca; ca = h.ab }

-- a turn further
pub turn-next : (t : Triangle) (a b c : Corner) → IsTurn t a b c → IsTurn t b c a
turn-next t a b c Still = Once
turn-next t a b c Once = Twice
turn-next t a b c Twice = Still

-- of two turns of one triangle the second begins where the first does, or where it goes on, or goes on where it begins
pub turns-meet : (t : Triangle) (a b c u v w : Corner) → IsTurn t a b c → IsTurn t u v w → (u ≡ a) ⊎ ((u ≡ b) ⊎ (v ≡ a))
turns-meet t a b c u v w Still Still = inl refl
turns-meet t a b c u v w Still Once = inr (inl refl)
turns-meet t a b c u v w Still Twice = inr (inr refl)
turns-meet t a b c u v w Once Still = inr (inr refl)
turns-meet t a b c u v w Once Once = inl refl
turns-meet t a b c u v w Once Twice = inr (inl refl)
turns-meet t a b c u v w Twice Still = inr (inl refl)
turns-meet t a b c u v w Twice Once = inr (inr refl)
turns-meet t a b c u v w Twice Twice = inl refl

-- the triangle on the left of ab
pub record Owner (ts : List Triangle) (a b : Corner) : Type 0 where
  pub index : ℕ
  pub triangle : Triangle
  pub third : Corner
  pub at : slice_get ts index ≡ Some triangle
  pub turn : IsTurn triangle a b third

later : (ts : List Triangle) (t : Triangle) (a b : Corner) → Owner ts a b → Owner (t ∷ ts) a b
later ts t a b o = record { index = suc o.index; triangle = o.triangle; third = o.third; at = o.at; turn = o.turn }

pub some_of_three : (x y z : Bool) (n : ℕ) → 0 < (0 + cond x 1 0 + cond y 1 0 + cond z 1 0) + n → (x ≡ true) ⊎ ((y ≡ true) ⊎ ((z ≡ true) ⊎ (0 < n)))
some_of_three true y z n h = inl refl
some_of_three false true z n h = inr (inl refl)
some_of_three false false true n h = inr (inr (inl refl))
some_of_three false false false n h = inr (inr (inr (omega (arith, h))))

-- an edge that occurs has an owner
owner_in : (ts : List Triangle) (a b : Corner) → 0 < count_by (is_same_edge (a, b)) (flat_map edges_of ts) → Owner ts a b
owner_in [] a b h = absurd (omega (arith, h))
owner_in (t ∷ ts) a b h = by (some_of_three (is_same_edge (a, b) (t.a, t.b)) (is_same_edge (a, b) (t.b, t.c)) (is_same_edge (a, b) (t.c, t.a)) (count_by (is_same_edge (a, b)) (flat_map edges_of ts)) split) (owner_in ts a b)
  where
    along : (m n : ℕ) → m ≡ n → 0 < m → 0 < n
    along m n e h = omega (arith, e, h)

    split : 0 < count_by (is_same_edge (a, b)) (edges_of t) + count_by (is_same_edge (a, b)) (flat_map edges_of ts)
    split = along (count_by (is_same_edge (a, b)) (edges_of t ++ flat_map edges_of ts)) (count_by (is_same_edge (a, b)) (edges_of t) + count_by (is_same_edge (a, b)) (flat_map edges_of ts))
        (sum_by-append (λ y. cond (is_same_edge (a, b) y) 1 0) (edges_of t) (flat_map edges_of ts)) h

    head : (w x y : Corner) → IsTurn t x y w → ◌≡◌ {A = Edge} (a, b) (x, y) → Owner (t ∷ ts) a b
    head w x y turn e =
        record { index = zero; triangle = t; third = w; at = refl; turn = subst (λ (p : Edge). IsTurn t p.0 p.1 w) (sym e) turn }

    by : (is_same_edge (a, b) (t.a, t.b) ≡ true) ⊎ ((is_same_edge (a, b) (t.b, t.c) ≡ true) ⊎ ((is_same_edge (a, b) (t.c, t.a) ≡ true) ⊎ (0 < count_by (is_same_edge (a, b)) (flat_map edges_of ts)))) → (0 < count_by (is_same_edge (a, b)) (flat_map edges_of ts) → Owner ts a b) → Owner (t ∷ ts) a b
    by (inl e) rest = head t.c t.a t.b Still (edge-tells.equal (a, b) (t.a, t.b) e)
    by (inr (inl e)) rest = head t.a t.b t.c Once (edge-tells.equal (a, b) (t.b, t.c) e)
    by (inr (inr (inl e))) rest = head t.b t.c t.a Twice (edge-tells.equal (a, b) (t.c, t.a) e)
    by (inr (inr (inr n))) rest = later ts t a b (rest n)

pub owner : (net : Net) (a b : Corner) → 0 < times_in (edges_in net) (a, b) → Owner net.triangles a b
owner net a b h = owner_in net.triangles a b h

-- an owner's edge occurs
pub owner-times : (ts : List Triangle) (t : Triangle) (k : ℕ) (a b c : Corner) → slice_get ts k ≡ Some t → IsTurn t a b c → 0 < count_by (is_same_edge (a, b)) (flat_map edges_of ts)
owner-times [] t k a b c at turn = cc
owner-times (x ∷ ts) t zero a b c at turn =
    let same : x ≡ t = cc in
    more (count_by (is_same_edge (a, b)) (edges_of x ++ flat_map edges_of ts)) (count_by (is_same_edge (a, b)) (edges_of x)) (count_by (is_same_edge (a, b)) (flat_map edges_of ts))
    (sum_by-append (λ y. cond (is_same_edge (a, b) y) 1 0) (edges_of x) (flat_map edges_of ts)) (here x a b c (subst (λ (s : Triangle). IsTurn s a b c) (sym same) turn))
  where
    more : (m n r : ℕ) → m ≡ n + r → 0 < n → 0 < m
    more m n r e h = omega (arith, e, h)

    first : (x y z : Bool) → x ≡ true → 0 < 0 + cond x 1 0 + cond y 1 0 + cond z 1 0
    first true y z e = omega arith
    first false y z e = cc

    second : (x y z : Bool) → y ≡ true → 0 < 0 + cond x 1 0 + cond y 1 0 + cond z 1 0
    second x true z e = omega arith
    second x false z e = cc

    third : (x y z : Bool) → z ≡ true → 0 < 0 + cond x 1 0 + cond y 1 0 + cond z 1 0
    third x y true e = omega arith
    third x y false e = cc

    here : (x : Triangle) (a b c : Corner) → IsTurn x a b c → 0 < count_by (is_same_edge (a, b)) (edges_of x)
    here x a b c Still = first (is_same_edge (x.a, x.b) (x.a, x.b)) (is_same_edge (x.a, x.b) (x.b, x.c)) (is_same_edge (x.a, x.b) (x.c, x.a)) (edge-tells.self (x.a, x.b))
    here x a b c Once = second (is_same_edge (x.b, x.c) (x.a, x.b)) (is_same_edge (x.b, x.c) (x.b, x.c)) (is_same_edge (x.b, x.c) (x.c, x.a)) (edge-tells.self (x.b, x.c))
    here x a b c Twice = third (is_same_edge (x.c, x.a) (x.a, x.b)) (is_same_edge (x.c, x.a) (x.b, x.c)) (is_same_edge (x.c, x.a) (x.c, x.a)) (edge-tells.self (x.c, x.a))
owner-times (x ∷ ts) t (suc k) a b c at turn =
    more (count_by (is_same_edge (a, b)) (edges_of x ++ flat_map edges_of ts)) (count_by (is_same_edge (a, b)) (edges_of x)) (count_by (is_same_edge (a, b)) (flat_map edges_of ts))
    (sum_by-append (λ y. cond (is_same_edge (a, b) y) 1 0) (edges_of x) (flat_map edges_of ts)) (owner-times ts t k a b c at turn)
  where
    more : (m n r : ℕ) → m ≡ n + r → 0 < r → 0 < m
    more m n r e h = omega (arith, e, h)

-- an edge from one far corner to the next
pub data IsFarEdge : Corner → Corner → Type 0 where
  From0 : IsFarEdge (Far 0) (Far 1)
  From1 : IsFarEdge (Far 1) (Far 2)
  From2 : IsFarEdge (Far 2) (Far 0)

-- an edge of a triangle is also the reverse of one, or is one of the far triangle
pub closed-behind : (net : Net) → IsClosed net → (a b : Corner) → 0 < times_in (edges_in net) (a, b) → Owner net.triangles b a ⊎ IsFarEdge a b
closed-behind net closed a b h =
    by (some_of_three (is_same_edge (b, a) (Far 1, Far 0)) (is_same_edge (b, a) (Far 2, Far 1)) (is_same_edge (b, a) (Far 0, Far 2)) (times_in (edges_in net) (b, a)) there)
  where
    parts : (x : Edge) → times_in (rimmed net) x ≡ times_in (edges_in net) x + times_in rim x
    parts x = sum_by-append (λ y. cond (is_same_edge x y) 1 0) (edges_in net) rim

    more : (m n m' n' r r' : ℕ) → m ≡ n + r → m' ≡ n' + r' → m ≡ m' → 0 < n → 0 < r' + n'
    more m n m' n' r r' e f g h = omega (arith, e, f, g, h)

    there : 0 < times_in rim (b, a) + times_in (edges_in net) (b, a)
    there = more (times_in (rimmed net) (a, b)) (times_in (edges_in net) (a, b)) (times_in (rimmed net) (b, a)) (times_in (edges_in net) (b, a)) (times_in rim (a, b)) (times_in rim (b, a)) (parts (a, b)) (parts (b, a)) (closed.matched (a, b)) h

    far : (x y : Corner) → ◌≡◌ {A = Edge} (b, a) (y, x) → IsFarEdge x y → IsFarEdge a b
    far x y e f = subst (λ (p : Edge). IsFarEdge p.1 p.0) (sym e) f

    by : (is_same_edge (b, a) (Far 1, Far 0) ≡ true) ⊎ ((is_same_edge (b, a) (Far 2, Far 1) ≡ true) ⊎ ((is_same_edge (b, a) (Far 0, Far 2) ≡ true) ⊎ (0 < times_in (edges_in net) (b, a)))) → Owner net.triangles b a ⊎ IsFarEdge a b
    by (inl e) = inr (far (Far 0) (Far 1) (edge-tells.equal (b, a) (Far 1, Far 0) e) From0)
    by (inr (inl e)) = inr (far (Far 1) (Far 2) (edge-tells.equal (b, a) (Far 2, Far 1) e) From1)
    by (inr (inr (inl e))) = inr (far (Far 2) (Far 0) (edge-tells.equal (b, a) (Far 0, Far 2) e) From2)
    by (inr (inr (inr n))) = inl (owner net b a n)

pub owner-behind : (net : Net) → IsSheet net → (a b : Corner) → 0 < times_in (edges_in net) (a, b) → Owner net.triangles b a ⊎ IsFarEdge a b
owner-behind net sheet = closed-behind net (closed net sheet)
