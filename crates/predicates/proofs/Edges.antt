-- Edges of corners: their tests, and the crossings of all edges of a sheet.
use Rattle.std.proofs.Common.{◌≡◌, ℕ, ◌+◌, refl, sym, ap, ◌∙◌, arith, List, [], ◌∷◌, int_eq, flat_map}
use Rattle.std.specs.Prelude.{ℤ, pos, ◌+ℤ◌, Bool, true, false, ◌&&◌, count_by, cond}
use Rattle.std.proofs.lemmas.Int.{ints}
use Rattle.std.proofs.lemmas.Bool.{and_parts, and_from, eqb-true, eq-eqb}
use Rattle.std.proofs.lemmas.Bool.Decides.{Decides-int_eq}
use Rattle.std.proofs.lemmas.List.Sums.{sum_by-cons}
use Rattle.ground_model.specs.declared.corner.Corner.{Corner}
use Rattle.ground_model.specs.declared.corner.Corner.TheVariants.{At, Far}
use Rattle.ground_model.specs.Corner.{corner_at, is_same_corner}
use Rattle.ground_model.proofs.Ties.{same_of_is_same}
use Rattle.predicates.specs.Net.{Edge, Triangle, edges_of, is_same_edge, reversed, times_in, rim}
use Rattle.predicates.specs.Sums.{total}
use Rattle.predicates.specs.HalfOpen.{indicate, crossing, hit}
use Rattle.predicates.specs.Weighted.{Weighted}
use Rattle.predicates.proofs.Sums.{total-flat_map, total-same}
use Rattle.predicates.proofs.Permuted.{TellsEqual, total-cancel}
use Rattle.predicates.proofs.Crossings.{crossing-back}

-- ---- the tests tell equality
pub corner-equal : (x y : Corner) → is_same_corner x y ≡ true → x ≡ y
corner-equal (At p) (At q) e = ap At (same_of_is_same p q e)
corner-equal (Far j) (Far k) e = ap Far (eqb-true j k e)
corner-equal (At p) (Far k) e = cc
corner-equal (Far j) (At q) e = cc

int-self : (z : ℤ) → int_eq z z ≡ true
int-self z = (Decides-int_eq z z).1 refl

pub corner-self : (x : Corner) → is_same_corner x x ≡ true
corner-self (At p) = and_from _ _ (int-self p.e) (int-self p.n)
corner-self (Far k) = eq-eqb k k refl

pub edge-equal : (x y : Edge) → is_same_edge x y ≡ true → x ≡ y
edge-equal x y e =
    let both = and_parts (is_same_corner x.0 y.0) (is_same_corner x.1 y.1) e in
    (λ i. (corner-equal x.0 y.0 both.0 i, corner-equal x.1 y.1 both.1 i))

pub edge-tells : TellsEqual is_same_edge
edge-tells = record { equal = edge-equal; self = λ x. and_from _ _ (corner-self x.0) (corner-self x.1) }

pub edge-turned : (x y : Edge) → is_same_edge (reversed x) y ≡ is_same_edge x (reversed y)
edge-turned x y = exchanged (is_same_corner x.1 y.0) (is_same_corner x.0 y.1)
  where
    exchanged : (a b : Bool) → (a && b) ≡ (b && a)
    exchanged true true = refl
    exchanged true false = refl
    exchanged false true = refl
    exchanged false false = refl

-- ---- a count is a sum of ones
pub counted : {X : Type 0} (p : X → Bool) (xs : List X) → pos (count_by p xs) ≡ total (λ x. indicate (p x)) xs
counted p [] = refl
counted p (x ∷ xs) = ap pos (sum_by-cons (λ y. cond (p y) 1 0) x xs) ∙ one_more (p x) (count_by p xs) (total (λ y. indicate (p y)) xs) (counted p xs)
  where
    one_more : (b : Bool) (n : ℕ) (t : ℤ) → pos n ≡ t → pos (cond b 1 0 + n) ≡ indicate b +ℤ t
    one_more true n t e = omega (arith, ints, e)
    one_more false n t e = omega (arith, ints, e)

-- ---- crossings of edges
abbrev pub edge_crossing : Weighted → Edge → ℤ
edge_crossing x e = crossing x (corner_at e.0) (corner_at e.1)

-- where each edge has its reverse as often, the crossings cancel
pub crossings_cancel : (x : Weighted) (es : List Edge) → ((e : Edge) → times_in es e ≡ times_in es (reversed e)) → total (edge_crossing x) es ≡ pos 0
crossings_cancel x es matched =
    total-cancel is_same_edge edge-tells reversed edge-turned (edge_crossing x) (λ e. crossing-back x (corner_at e.0) (corner_at e.1)) es
    (λ e. sym (counted (is_same_edge e) es) ∙ ap pos (matched e) ∙ counted (is_same_edge (reversed e)) es)

abbrev pub triangle_hit : Weighted → Triangle → ℤ
triangle_hit x t = hit x (corner_at t.a) (corner_at t.b) (corner_at t.c)

-- the crossings of all edges are the hits of all triangles
pub total_hits : (x : Weighted) (ts : List Triangle) → total (edge_crossing x) (flat_map edges_of ts) ≡ total (triangle_hit x) ts
total_hits x ts = total-flat_map (edge_crossing x) edges_of ts ∙ total-same (λ t. total (edge_crossing x) (edges_of t)) (triangle_hit x) (λ t. three (crossing x (corner_at t.a) (corner_at t.b)) (crossing x (corner_at t.b) (corner_at t.c)) (crossing x (corner_at t.c) (corner_at t.a))) ts
  where
    three : (a b c : ℤ) → a +ℤ (b +ℤ (c +ℤ pos 0)) ≡ a +ℤ b +ℤ c
    three a b c = omega (arith, ints)

-- the rim's crossings are those of the far triangle's edges, turned back
pub rim_crossings : (x : Weighted) → total (edge_crossing x) rim +ℤ triangle_hit x (record { a = Far 0; b = Far 1; c = Far 2 }) ≡ pos 0
rim_crossings x = cancelled (crossing x (corner_at (Far 0)) (corner_at (Far 1))) (crossing x (corner_at (Far 1)) (corner_at (Far 2))) (crossing x (corner_at (Far 2)) (corner_at (Far 0))) (crossing x (corner_at (Far 1)) (corner_at (Far 0))) (crossing x (corner_at (Far 2)) (corner_at (Far 1))) (crossing x (corner_at (Far 0)) (corner_at (Far 2))) (crossing-back x (corner_at (Far 0)) (corner_at (Far 1))) (crossing-back x (corner_at (Far 1)) (corner_at (Far 2))) (crossing-back x (corner_at (Far 2)) (corner_at (Far 0)))
  where
    cancelled : (a b c a' b' c' : ℤ) → a +ℤ a' ≡ pos 0 → b +ℤ b' ≡ pos 0 → c +ℤ c' ≡ pos 0 → (a' +ℤ (b' +ℤ (c' +ℤ pos 0))) +ℤ (a +ℤ b +ℤ c) ≡ pos 0
    cancelled a b c a' b' c' h k l = omega (arith, ints, h, k, l)
