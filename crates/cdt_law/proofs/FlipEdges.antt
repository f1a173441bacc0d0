-- After a flip each edge occurs once, with its reverse, and each piece is an edge.
use Rattle.std.proofs.Common.{◌≡◌, ℕ, ◌+◌, ◌<◌, ◌≤◌, refl, sym, ap, ◌∙◌, arith, Bool, true, false}
use Rattle.std.specs.Prelude.{ℤ, pos, ◌+ℤ◌, ◌<ℤ◌, ◌≤ℤ◌, slice_set, cond}
use Rattle.std.proofs.lemmas.Int.{ints}
use Rattle.std.proofs.lemmas.List.Sums.{sum_by-append}
use Rattle.ground_model.specs.declared.corner.Corner.{Corner}
use Rattle.ground_model.specs.declared.corner.Corner.TheVariants.{At}
use Rattle.ground_model.specs.Place.{Coords}
use Rattle.ground_model.specs.Corner.{corner_at, corner_side}
use Rattle.predicates.specs.Sums.{total}
use Rattle.predicates.specs.HalfOpen.{indicate}
use Rattle.predicates.specs.Net.{Net, Triangle, Edge, edges_of, edges_in, rim, times_in, reversed, is_same_edge, count_of}
use Rattle.predicates.specs.Sheet.{IsSheet, rimmed}
use Rattle.predicates.proofs.Signs.{never-level}
use Rattle.predicates.proofs.FlatSides.{flat_bc}
use Rattle.predicates.proofs.Sums.{total-flat_map}
use Rattle.predicates.proofs.Edges.{counted, edge-tells, edge-turned}
use Rattle.predicates.proofs.Owners.{IsTurn, Still, Once, Twice}
use Rattle.predicates.proofs.NearCorners.{InNet}
use Rattle.cdt_law.proofs.Exchanged.{total-exchanged}
use Rattle.cdt_law.proofs.FlipQuad.{Quad, quad-swapped, no_edge, no_rim}

-- ---- how often an edge occurs
abbrev one : Edge → Corner → Corner → ℤ
one e x y = indicate (is_same_edge e (x, y))

abbrev three : Edge → Corner → Corner → Corner → ℤ
three e a b c = one e a b +ℤ one e b c +ℤ one e c a

abbrev times_of : Edge → Triangle → ℤ
times_of e t = total (λ y. indicate (is_same_edge e y)) (edges_of t)

turn-times : (e : Edge) (t : Triangle) (a b c : Corner) → IsTurn t a b c → times_of e t ≡ three e a b c
turn-times e t a b c Still = sum (one e t.a t.b) (one e t.b t.c) (one e t.c t.a)
  where
    sum : (x y z : ℤ) → x +ℤ (y +ℤ (z +ℤ pos 0)) ≡ x +ℤ y +ℤ z
    sum x y z = omega (arith, ints)
turn-times e t a b c Once = sum (one e t.a t.b) (one e t.b t.c) (one e t.c t.a)
  where
    sum : (x y z : ℤ) → x +ℤ (y +ℤ (z +ℤ pos 0)) ≡ y +ℤ z +ℤ x
    sum x y z = omega (arith, ints)
turn-times e t a b c Twice = sum (one e t.a t.b) (one e t.b t.c) (one e t.c t.a)
  where
    sum : (x y z : ℤ) → x +ℤ (y +ℤ (z +ℤ pos 0)) ≡ z +ℤ x +ℤ y
    sum x y z = omega (arith, ints)

times-total : (net : Net) (e : Edge) → pos (times_in (edges_in net) e) ≡ total (times_of e) net.triangles
times-total net e = counted (is_same_edge e) (edges_in net) ∙ total-flat_map (λ y. indicate (is_same_edge e y)) edges_of net.triangles

-- ---- the net with two triangles exchanged
pub record Exchange (net : Net) (a b c d : Corner) : Type 0 where
  pub left : InNet net a b c
  pub right : InNet net b a d
  pub apart : left.index ≡ right.index → ⊥
  pub first : Triangle
  pub second : Triangle
  pub first_turn : IsTurn first a d c
  pub second_turn : IsTurn second d b c

abbrev pub exchanged : (net : Net) (a b c d : Corner) → Exchange net a b c d → Net
exchanged net a b c d x = record { points = net.points; count = net.count; triangles = slice_set (slice_set net.triangles x.left.index x.first) x.right.index x.second }

edge-times : (net : Net) (a b c d : Corner) (x : Exchange net a b c d) (e : Edge)
    → pos (times_in (edges_in (exchanged net a b c d x)) e) +ℤ (one e a b +ℤ one e b a) ≡ pos (times_in (edges_in net) e) +ℤ (one e d c +ℤ one e c d)
edge-times net a b c d x e =
    sum (pos (times_in (edges_in (exchanged net a b c d x)) e)) (pos (times_in (edges_in net) e)) (total (times_of e) (exchanged net a b c d x).triangles) (total (times_of e) net.triangles)
    (times_of e x.left.triangle) (times_of e x.right.triangle) (times_of e x.first) (times_of e x.second)
    (one e a b) (one e b c) (one e c a) (one e b a) (one e a d) (one e d b) (one e d c) (one e c d)
    (times-total (exchanged net a b c d x) e) (times-total net e)
    (total-exchanged (times_of e) net.triangles x.left.index x.right.index x.left.triangle x.right.triangle x.first x.second x.left.at x.right.at x.apart)
    (turn-times e x.left.triangle a b c x.left.turn) (turn-times e x.right.triangle b a d x.right.turn) (turn-times e x.first a d c x.first_turn) (turn-times e x.second d b c x.second_turn)
  where
    sum : (s' s r' r t u v w ab bc ca ba ad db dc cd : ℤ) → s' ≡ r' → s ≡ r → r' +ℤ (t +ℤ u) ≡ r +ℤ (v +ℤ w)
        → t ≡ ab +ℤ bc +ℤ ca → u ≡ ba +ℤ ad +ℤ db → v ≡ ad +ℤ dc +ℤ ca → w ≡ db +ℤ bc +ℤ cd → s' +ℤ (ab +ℤ ba) ≡ s +ℤ (dc +ℤ cd)
    sum s' s r' r t u v w ab bc ca ba ad db dc cd e f g h i j k = omega (arith, ints, e, f, g, h, i, j, k)

rim-parts : (net : Net) (e : Edge) → times_in (rimmed net) e ≡ times_in (edges_in net) e + times_in rim e
rim-parts net e = sum_by-append (λ y. cond (is_same_edge e y) 1 0) (edges_in net) rim

-- ---- each edge once, with its reverse
bit : (t : Bool) → (pos 0 ≤ℤ indicate t) × (indicate t ≤ℤ pos 1)
bit true = (omega (arith, ints), omega (arith, ints))
bit false = (omega (arith, ints), omega (arith, ints))

pub quad-of : (net : Net) (a b c d : Corner) (x : Exchange net a b c d) → pos 0 <ℤ corner_side a d c → pos 0 <ℤ corner_side d b c → Quad net a b c d
quad-of net a b c d x at_a at_b = record { left = x.left; right = x.right; at_a = at_a; at_b = at_b }

pub exchange-once : (net : Net) → IsSheet net → (a b c d : Corner) (x : Exchange net a b c d) → Quad net a b c d → (e : Edge) → times_in (rimmed (exchanged net a b c d x)) e ≤ 1
exchange-once net sheet a b c d x q e = by (is_same_edge e (d, c)) (is_same_edge e (c, d)) refl refl
  where
    after : ℕ
    after = times_in (edges_in (exchanged net a b c d x)) e

    swapped : Quad net b a d c
    swapped = quad-swapped net a b c d q

    none : (u v : Corner) → is_same_edge e (u, v) ≡ true → times_in (edges_in net) (u, v) ≡ 0 → times_in rim (u, v) ≡ 0 → (times_in (edges_in net) e ≡ 0) × (times_in rim e ≡ 0)
    none u v t f g =
        let same : ◌≡◌ {A = Edge} e (u, v) = edge-tells.equal e (u, v) t in
        (ap (times_in (edges_in net)) same ∙ f, ap (times_in rim) same ∙ g)

    rest : (m n r w : ℕ) (ab ba dc cd : ℤ) → w ≡ m + r → pos m +ℤ (ab +ℤ ba) ≡ pos n +ℤ (dc +ℤ cd) → pos 0 ≤ℤ ab → pos 0 ≤ℤ ba → n ≡ 0 → r ≡ 0 → (dc +ℤ cd) ≤ℤ pos 1 → w ≤ 1
    rest m n r w ab ba dc cd e f h k i j l = omega (arith, ints, e, f, h, k, i, j, l)

    kept : (m n r w v : ℕ) (ab ba dc cd : ℤ) → w ≡ m + r → v ≡ n + r → v ≤ 1 → pos m +ℤ (ab +ℤ ba) ≡ pos n +ℤ (dc +ℤ cd) → pos 0 ≤ℤ ab → pos 0 ≤ℤ ba → dc ≡ pos 0 → cd ≡ pos 0 → w ≤ 1
    kept m n r w v ab ba dc cd e f l g h k i j = omega (arith, ints, e, f, l, g, h, k, i, j)

    gone : (times_in (edges_in net) e ≡ 0) × (times_in rim e ≡ 0) → (one e d c +ℤ one e c d) ≤ℤ pos 1 → times_in (rimmed (exchanged net a b c d x)) e ≤ 1
    gone h l = rest after (times_in (edges_in net) e) (times_in rim e) (times_in (rimmed (exchanged net a b c d x)) e) (one e a b) (one e b a) (one e d c) (one e c d)
        (rim-parts (exchanged net a b c d x) e) (edge-times net a b c d x e) (bit (is_same_edge e (a, b))).0 (bit (is_same_edge e (b, a))).0 h.0 h.1 l

    -- an edge is not its own reverse
    no_both : is_same_edge e (d, c) ≡ true → is_same_edge e (c, d) ≡ true → ⊥
    no_both s t =
        let same : ◌≡◌ {A = Edge} (d, c) (c, d) = sym (edge-tells.equal e (d, c) s) ∙ edge-tells.equal e (c, d) t in
        never-level (corner_side a d c) q.at_a (flat_bc (corner_at a) (corner_at d) (corner_at c) (ap (λ (p : Edge). corner_at p.0) same))

    few : (s t : Bool) → (s ≡ true → t ≡ true → ⊥) → (indicate s +ℤ indicate t) ≤ℤ pos 1
    few true true h = absurd (h refl refl)
    few true false h = omega (arith, ints)
    few false true h = omega (arith, ints)
    few false false h = omega (arith, ints)

    by : (s t : Bool) → is_same_edge e (d, c) ≡ s → is_same_edge e (c, d) ≡ t → times_in (rimmed (exchanged net a b c d x)) e ≤ 1
    by true t f g = gone (none d c f (no_edge net sheet a b c d q) (no_rim net sheet a b c d q)) (few (is_same_edge e (d, c)) (is_same_edge e (c, d)) no_both)
    by false true f g = gone (none c d g (no_edge net sheet b a d c swapped) (no_rim net sheet b a d c swapped)) (few (is_same_edge e (d, c)) (is_same_edge e (c, d)) no_both)
    by false false f g = kept after (times_in (edges_in net) e) (times_in rim e) (times_in (rimmed (exchanged net a b c d x)) e) (times_in (rimmed net) e) (one e a b) (one e b a) (one e d c) (one e c d)
        (rim-parts (exchanged net a b c d x) e) (rim-parts net e) (sheet.once e) (edge-times net a b c d x e) (bit (is_same_edge e (a, b))).0 (bit (is_same_edge e (b, a))).0 (ap indicate f) (ap indicate g)

pub exchange-matched : (net : Net) → IsSheet net → (a b c d : Corner) (x : Exchange net a b c d) → (e : Edge) → times_in (rimmed (exchanged net a b c d x)) e ≡ times_in (rimmed (exchanged net a b c d x)) (reversed e)
exchange-matched net sheet a b c d x e =
    sum (times_in (edges_in (exchanged net a b c d x)) e) (times_in (edges_in (exchanged net a b c d x)) (reversed e)) (times_in (edges_in net) e) (times_in (edges_in net) (reversed e)) (times_in rim e) (times_in rim (reversed e))
    (times_in (rimmed (exchanged net a b c d x)) e) (times_in (rimmed (exchanged net a b c d x)) (reversed e)) (times_in (rimmed net) e) (times_in (rimmed net) (reversed e))
    (one e a b) (one e b a) (one e d c) (one e c d) (one (reversed e) a b) (one (reversed e) b a) (one (reversed e) d c) (one (reversed e) c d)
    (rim-parts (exchanged net a b c d x) e) (rim-parts (exchanged net a b c d x) (reversed e)) (rim-parts net e) (rim-parts net (reversed e)) (sheet.matched e)
    (edge-times net a b c d x e) (edge-times net a b c d x (reversed e)) (back a b) (back b a) (back d c) (back c d)
  where
    back : (u v : Corner) → one (reversed e) u v ≡ one e v u
    back u v = ap indicate (edge-turned e (u, v))

    sum : (m m' n n' r r' w w' v v' : ℕ) (ab ba dc cd ab' ba' dc' cd' : ℤ) → w ≡ m + r → w' ≡ m' + r' → v ≡ n + r → v' ≡ n' + r' → v ≡ v'
        → pos m +ℤ (ab +ℤ ba) ≡ pos n +ℤ (dc +ℤ cd) → pos m' +ℤ (ab' +ℤ ba') ≡ pos n' +ℤ (dc' +ℤ cd') → ab' ≡ ba → ba' ≡ ab → dc' ≡ cd → cd' ≡ dc → w ≡ w'
    sum m m' n n' r r' w w' v v' ab ba dc cd ab' ba' dc' cd' e f g h k i j p q s t = omega (arith, ints, e, f, g, h, k, i, j, p, q, s, t)

-- ---- each piece an edge
pub exchange-pieces : (net : Net) → IsSheet net → (a b c d : Corner) (x : Exchange net a b c d) → count_of net a b ≡ 0 → (p q : Coords) → 0 < net.count p q → 0 < times_in (edges_in (exchanged net a b c d x)) (At p, At q)
exchange-pieces net sheet a b c d x free p q some =
    sum (times_in (edges_in (exchanged net a b c d x)) (At p, At q)) (times_in (edges_in net) (At p, At q)) (one (At p, At q) a b) (one (At p, At q) b a) (one (At p, At q) d c) (one (At p, At q) c d)
    (edge-times net a b c d x (At p, At q)) (sheet.pieces p q some) (ap indicate not_ab) (ap indicate not_ba) (bit (is_same_edge (At p, At q) (d, c))).0 (bit (is_same_edge (At p, At q) (c, d))).0
  where
    sum : (m n : ℕ) (ab ba dc cd : ℤ) → pos m +ℤ (ab +ℤ ba) ≡ pos n +ℤ (dc +ℤ cd) → 0 < n → ab ≡ pos 0 → ba ≡ pos 0 → pos 0 ≤ℤ dc → pos 0 ≤ℤ cd → 0 < m
    sum m n ab ba dc cd e h f g k l = omega (arith, ints, e, h, f, g, k, l)

    clash : (m n : ℕ) → m ≡ n → n ≡ 0 → 0 < m → ⊥
    clash m n e f h = omega (arith, e, f, h)

    not_ab : is_same_edge (At p, At q) (a, b) ≡ false
    not_ab = by (is_same_edge (At p, At q) (a, b)) refl
      where
        by : (t : Bool) → is_same_edge (At p, At q) (a, b) ≡ t → t ≡ false
        by true e = absurd (clash (net.count p q) (count_of net a b) (ap (λ (y : Edge). count_of net y.0 y.1) (edge-tells.equal (At p, At q) (a, b) e)) free some)
        by false e = refl

    not_ba : is_same_edge (At p, At q) (b, a) ≡ false
    not_ba = by (is_same_edge (At p, At q) (b, a)) refl
      where
        by : (t : Bool) → is_same_edge (At p, At q) (b, a) ≡ t → t ≡ false
        by true e = absurd (clash (net.count q p) (count_of net a b) (ap (λ (y : Edge). count_of net y.1 y.0) (edge-tells.equal (At p, At q) (b, a) e)) free (along (net.count q p) (net.count p q) (sheet.even q p) some))
          where
            along : (m n : ℕ) → m ≡ n → 0 < n → 0 < m
            along m n e h = omega (arith, e, h)
        by false e = refl
