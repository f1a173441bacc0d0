-- Exactly one triangle of a sheet is hit.
use Rattle.std.proofs.Common.{◌≡◌, ℕ, zero, suc, sym, ap, ◌∙◌, arith, List, [], ◌∷◌, Bool, true}
use Rattle.std.specs.Prelude.{ℤ, pos, ◌+ℤ◌, ◌*ℤ◌, ◌<ℤ◌, int_lt, Some, slice_get}
use Rattle.std.specs.List.{list_all}
use Rattle.std.proofs.lemmas.Int.{ints}
use Rattle.std.proofs.lemmas.Bool.{and_parts}
use Rattle.ground_model.specs.Corner.{corner_at, corner_side}
use Rattle.ground_model.proofs.ZOrder.{mul-positive}
use Rattle.predicates.specs.Net.{Net, Triangle, edges_in, rim, is_turned}
use Rattle.predicates.specs.Sheet.{IsSheet, IsClosed, rimmed}
use Rattle.predicates.specs.Sums.{total}
use Rattle.predicates.specs.Weighted.{Weighted, weighted_side}
use Rattle.predicates.specs.Tiling.{IsInside, HasWithin, far_triangle}
use Rattle.predicates.proofs.Sums.{total-append}
use Rattle.predicates.proofs.HalfOpen.{Tells}
use Rattle.predicates.proofs.Crossings.{hit-tells, weighted_sides}
use Rattle.predicates.proofs.OneOfMany.{TheOne, one_of}
use Rattle.predicates.proofs.Edges.{edge_crossing, triangle_hit, crossings_cancel, total_hits, rim_crossings}
use Rattle.predicates.proofs.Signs.{positive-along}

-- what the hit of a triangle tells
abbrev TriangleTells : Triangle → Weighted → Type 0
TriangleTells t x = Tells (triangle_hit x t) (weighted_side (corner_at t.b) (corner_at t.c) x) (weighted_side (corner_at t.c) (corner_at t.a) x) (weighted_side (corner_at t.a) (corner_at t.b) x)

-- ---- each triangle of the sheet is counterclockwise
pub each-passes : {X : Type 0} (p : X → Bool) (xs : List X) → list_all p xs ≡ true → (k : ℕ) (x : X) → slice_get xs k ≡ Some x → p x ≡ true
each-passes p [] all k x at = cc
each-passes {X} p (y ∷ xs) all zero x at = let e : y ≡ x = cc in sym (ap p e) ∙ (and_parts (p y) (list_all p xs) all).0
each-passes p (y ∷ xs) all (suc k) x at = each-passes p xs (and_parts (p y) (list_all p xs) all).1 k x at

pub closed-left : (net : Net) → IsClosed net → (k : ℕ) (t : Triangle) → slice_get net.triangles k ≡ Some t → pos 0 <ℤ corner_side t.a t.b t.c
closed-left net closed k t at = left (corner_side t.a t.b t.c) (each-passes is_turned net.triangles closed.turned k t at)
  where
    left : (s : ℤ) → int_lt (pos 0) s ≡ true → pos 0 <ℤ s
    left s e = omega (arith, ints, sym e)

turned-tells : (t : Triangle) (x : Weighted) → pos 0 <ℤ x.weight → pos 0 <ℤ corner_side t.a t.b t.c → TriangleTells t x
turned-tells t x some turned =
    hit-tells (corner_at t.a) (corner_at t.b) (corner_at t.c) x
    (positive-along (weighted_side (corner_at t.b) (corner_at t.c) x +ℤ weighted_side (corner_at t.c) (corner_at t.a) x +ℤ weighted_side (corner_at t.a) (corner_at t.b) x) (x.weight *ℤ corner_side t.a t.b t.c)
    (weighted_sides (corner_at t.a) (corner_at t.b) (corner_at t.c) x) (mul-positive x.weight (corner_side t.a t.b t.c) some turned))

closed-tells : (net : Net) → IsClosed net → (x : Weighted) → pos 0 <ℤ x.weight → (k : ℕ) (t : Triangle) → slice_get net.triangles k ≡ Some t → TriangleTells t x
closed-tells net closed x some k t at = turned-tells t x some (closed-left net closed k t at)

-- the far triangle is hit
far-hit : (x : Weighted) → IsInside far_triangle x → triangle_hit x far_triangle ≡ pos 1
far-hit x inside = (hit-tells (corner_at far_triangle.a) (corner_at far_triangle.b) (corner_at far_triangle.c) x (three (weighted_side (corner_at far_triangle.b) (corner_at far_triangle.c) x) (weighted_side (corner_at far_triangle.c) (corner_at far_triangle.a) x) (weighted_side (corner_at far_triangle.a) (corner_at far_triangle.b) x) inside.bc inside.ca inside.ab)).inside inside.bc inside.ca inside.ab
  where
    three : (a b c : ℤ) → pos 0 <ℤ a → pos 0 <ℤ b → pos 0 <ℤ c → pos 0 <ℤ (a +ℤ b +ℤ c)
    three a b c h k l = omega (arith, ints, h, k, l)

-- the hits of all triangles sum to 1
hits-sum : (net : Net) → IsClosed net → (x : Weighted) → IsInside far_triangle x → total (triangle_hit x) net.triangles ≡ pos 1
hits-sum net closed x inside =
    sum (total (edge_crossing x) (edges_in net)) (total (triangle_hit x) net.triangles) (total (edge_crossing x) rim) (triangle_hit x far_triangle)
    (total_hits x net.triangles)
    (sym (total-append (edge_crossing x) (edges_in net) rim) ∙ crossings_cancel x (rimmed net) closed.matched)
    (rim_crossings x) (far-hit x inside)
  where
    sum : (e h r f : ℤ) → e ≡ h → e +ℤ r ≡ pos 0 → r +ℤ f ≡ pos 0 → f ≡ pos 1 → h ≡ pos 1
    sum e h r f p q s t = omega (arith, ints, p, q, s, t)

-- exactly one triangle is hit
pub closed-hit : (net : Net) → IsClosed net → (x : Weighted) → pos 0 <ℤ x.weight → IsInside far_triangle x → TheOne (triangle_hit x) net.triangles
closed-hit net closed x some inside =
    one_of (triangle_hit x) net.triangles (record { bit = λ k t at. (closed-tells net closed x some k t at).is_bit }) (hits-sum net closed x inside)

-- a closed triangle has each point strictly inside the far triangle
pub closed-covered : (net : Net) → IsClosed net → (x : Weighted) → pos 0 <ℤ x.weight → IsInside far_triangle x → HasWithin net x
closed-covered net closed x some inside =
    let one = closed-hit net closed x some inside in
    let held = (closed-tells net closed x some one.index one.item one.at).closed one.one in
    record { index = one.index; triangle = one.item; at = one.at; within = record { ab = held.2; bc = held.0; ca = held.1 } }

-- no point strictly inside the far triangle lies strictly inside two triangles
pub closed-packed : (net : Net) → IsClosed net → (x : Weighted) → pos 0 <ℤ x.weight → IsInside far_triangle x
    → (j k : ℕ) (t u : Triangle) → slice_get net.triangles j ≡ Some t → slice_get net.triangles k ≡ Some u → IsInside t x → IsInside u x → j ≡ k
closed-packed net closed x some inside j k t u at_t at_u in_t in_u =
    let one = closed-hit net closed x some inside in
    one.alone j t at_t ((closed-tells net closed x some j t at_t).inside in_t.bc in_t.ca in_t.ab)
    ∙ sym (one.alone k u at_u ((closed-tells net closed x some k u at_u).inside in_u.bc in_u.ca in_u.ab))

-- ---- a sheet is closed
pub closed : (net : Net) → IsSheet net → IsClosed net
closed net sheet = record { places = sheet.places; over = sheet.over; turned = sheet.turned; matched = sheet.matched }

pub left-of : (net : Net) → IsSheet net → (k : ℕ) (t : Triangle) → slice_get net.triangles k ≡ Some t → pos 0 <ℤ corner_side t.a t.b t.c
left-of net sheet = closed-left net (closed net sheet)

pub covered_inside : (net : Net) → IsSheet net → (x : Weighted) → pos 0 <ℤ x.weight → IsInside far_triangle x → HasWithin net x
covered_inside net sheet = closed-covered net (closed net sheet)
