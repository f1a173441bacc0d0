-- Planned triangles put into a newer sheet make a locally Delaunay sheet.
use Rattle.std.proofs.Common.{◌≡◌, ℕ, ◌+◌, ◌⊎◌, inl, inr, sym, ap, subst, ◌∙◌, arith, List, [], ◌++◌, Bool, true, false, flat_map}
use Rattle.std.specs.Prelude.{ℤ, pos, ◌+ℤ◌, ◌<ℤ◌, ◌≤ℤ◌, int_lt, cond, Some, slice_get}
use Rattle.std.specs.List.{All, list_all, list_any}
use Rattle.std.proofs.lemmas.Int.{ints}
use Rattle.std.proofs.lemmas.Bool.{and_parts, and_from, or_cases, or_right}
use Rattle.std.proofs.lemmas.List.Sums.{sum_by-append}
use Rattle.std.proofs.lemmas.List.Folds.{list_any-append, list_all-append}
use Rattle.ground_model.specs.declared.corner.Corner.{Corner}
use Rattle.ground_model.specs.Corner.{corner_side, is_corner_inside}
use Rattle.ground_model.specs.Place.{IsPlace}
use Rattle.predicates.specs.Sums.{total}
use Rattle.predicates.specs.HalfOpen.{indicate}
use Rattle.predicates.specs.Net.{Net, Triangle, Edge, edges_of, edges_in, is_same_edge, is_triangle, is_turned, reversed, times_in, rim, has, count_of}
use Rattle.predicates.specs.Sheet.{IsSheet, IsClosed, IsLocallyDelaunay, rimmed, are_over}
use Rattle.predicates.proofs.Sums.{total-append, total-flat_map}
use Rattle.predicates.proofs.Edges.{counted}
use Rattle.predicates.proofs.Heights.{lift, deep}
use Rattle.predicates.proofs.InsideDepths.{outside-shallow, shallow-outside}
use Rattle.predicates.proofs.Owners.{Still, turn-side}
use Rattle.predicates.proofs.Tiling.{left-of}
use Rattle.predicates.proofs.Holding.{passes-each}
use Rattle.predicates.proofs.HasTriangles.{HasOwner, has-owner, owner-has}
use Rattle.predicates.proofs.ClosedLaw.{closed_law}
use Rattle.cdt_law.specs.Patch.{is_in, times_among, IsPatch, PatchLaw}
use Rattle.cdt_law.proofs.FacetLaws.{net_law}
use Rattle.cdt_law.proofs.FlipLaws.{depth-exchanged, count-back}

-- ---- tests over two lists
all-both : {X : Type 0} (p : X → Bool) (xs ys : List X) → list_all p xs ≡ true → list_all p ys ≡ true → list_all p (xs ++ ys) ≡ true
all-both p xs ys e f = list_all-append p xs ys ∙ and_from (list_all p xs) (list_all p ys) e f

all-each : {X : Type 0} (p : X → Bool) (xs ys : List X) → list_all p (xs ++ ys) ≡ true → (list_all p xs ≡ true) × (list_all p ys ≡ true)
all-each p xs ys e = and_parts (list_all p xs) (list_all p ys) (sym (list_all-append p xs ys) ∙ e)

pub any-second : {X : Type 0} (p : X → Bool) (xs ys : List X) → list_any p ys ≡ true → list_any p (xs ++ ys) ≡ true
any-second p xs ys e = list_any-append p xs ys ∙ or_right (list_any p xs) (list_any p ys) e

pub any-either : {X : Type 0} (p : X → Bool) (xs ys : List X) → list_any p (xs ++ ys) ≡ true → (list_any p xs ≡ true) ⊎ (list_any p ys ≡ true)
any-either p xs ys e = or_cases (list_any p xs) (list_any p ys) (sym (list_any-append p xs ys) ∙ e)

-- ---- how often an edge occurs in a list of triangles
pub among-total : (ts : List Triangle) (e : Edge) → pos (times_among ts e) ≡ total (λ t. total (λ y. indicate (is_same_edge e y)) (edges_of t)) ts
among-total ts e = counted (is_same_edge e) (flat_map edges_of ts) ∙ total-flat_map (λ y. indicate (is_same_edge e y)) edges_of ts

pub among-append : (xs ys : List Triangle) (e : Edge) → times_among (xs ++ ys) e ≡ times_among xs e + times_among ys e
among-append xs ys e =
    sum (times_among (xs ++ ys) e) (times_among xs e) (times_among ys e) (total (λ t. total (λ y. indicate (is_same_edge e y)) (edges_of t)) (xs ++ ys)) (total (λ t. total (λ y. indicate (is_same_edge e y)) (edges_of t)) xs) (total (λ t. total (λ y. indicate (is_same_edge e y)) (edges_of t)) ys)
    (among-total (xs ++ ys) e) (among-total xs e) (among-total ys e) (total-append (λ t. total (λ y. indicate (is_same_edge e y)) (edges_of t)) xs ys)
  where
    sum : (n m k : ℕ) (s t u : ℤ) → pos n ≡ s → pos m ≡ t → pos k ≡ u → s ≡ t +ℤ u → n ≡ m + k
    sum n m k s t u e f g h = omega (arith, ints, e, f, g, h)

-- in a net of two lists, with the rim
pub rimmed-among : (net : Net) (xs ys : List Triangle) → net.triangles ≡ xs ++ ys → (e : Edge) → times_in (rimmed net) e ≡ times_among xs e + times_among ys e + times_in rim e
rimmed-among net xs ys is e =
    sum_by-append (λ y. cond (is_same_edge e y) 1 0) (edges_in net) rim ∙ ap (λ n. n + times_in rim e) (ap (λ ts. times_among ts e) is ∙ among-append xs ys e)

-- ---- after is a sheet
-- the made triangles are counterclockwise, as they are in the planned net
pub turned-within : (planned : Net) → IsSheet planned → (made : List Triangle) → ((a b c : Corner) → is_in made a b c ≡ true → has planned a b c ≡ true) → list_all is_turned made ≡ true
turned-within planned sheet made made_in = passes-each is_turned made (λ k t at. left (corner_side t.a t.b t.c)
    (turned (has-owner planned t.a t.b t.c (made_in t.a t.b t.c (listed k t at)))))
  where
    left : (s : ℤ) → pos 0 <ℤ s → int_lt (pos 0) s ≡ true
    left s h = let e : true ≡ int_lt (pos 0) s = omega (arith, ints, h) in sym e

    listed : (k : ℕ) (t : Triangle) → slice_get made k ≡ Some t → is_in made t.a t.b t.c ≡ true
    listed k t at = owner-has (record { points = []; count = λ p q. 0; triangles = made }) t.a t.b (record { index = k; triangle = t; third = t.c; at = at; turn = Still })

    turned : {a b c : Corner} → HasOwner planned a b c → pos 0 <ℤ corner_side a b c
    turned {a} {b} {c} o = subst (λ (z : Corner). pos 0 <ℤ corner_side a b z) o.third (turn-side o.owner.triangle a b o.owner.third o.owner.turn (left-of planned sheet o.owner.index o.owner.triangle o.owner.at))

pub replaced-closed : (planned newest after : Net) → IsSheet planned → IsSheet newest → (destroyed made others : List Triangle) → newest.triangles ≡ destroyed ++ others → after.triangles ≡ made ++ others
    → ((a b c : Corner) → is_in made a b c ≡ true → has planned a b c ≡ true) → ((x : Edge) → times_among destroyed x + times_among made (reversed x) ≡ times_among made x + times_among destroyed (reversed x))
    → All IsPlace after.points → list_all (are_over after.points) after.triangles ≡ true → IsClosed after
replaced-closed planned newest after p n destroyed made others newest_is after_is made_in boundary places over = record {
  places = places;
  over = over;
  turned = ap (list_all is_turned) after_is ∙ all-both is_turned made others
      (turned-within planned p made made_in)
      (all-each is_turned destroyed others (sym (ap (list_all is_turned) newest_is) ∙ n.turned)).1;
  matched = λ e. sum (times_among destroyed e) (times_among made e) (times_among others e) (times_in rim e)
      (times_among destroyed (reversed e)) (times_among made (reversed e)) (times_among others (reversed e)) (times_in rim (reversed e))
      (times_in (rimmed newest) e) (times_in (rimmed after) e) (times_in (rimmed newest) (reversed e)) (times_in (rimmed after) (reversed e))
      (rimmed-among newest destroyed others newest_is e) (rimmed-among after made others after_is e)
      (rimmed-among newest destroyed others newest_is (reversed e)) (rimmed-among after made others after_is (reversed e))
      (n.matched e) (boundary e);
}
  where
    sum : (d m o r d' m' o' r' s0 s1 t0 t1 : ℕ) → s0 ≡ d + o + r → s1 ≡ m + o + r → t0 ≡ d' + o' + r' → t1 ≡ m' + o' + r' → s0 ≡ t0 → d + m' ≡ m + d' → s1 ≡ t1
    sum d m o r d' m' o' r' s0 s1 t0 t1 e0 e1 f0 f1 g h = omega (arith, e0, e1, f0, f1, g, h)

after-sheet : (planned newest after : Net) → IsSheet planned → IsSheet newest → IsPatch planned newest after → IsSheet after
after-sheet planned newest after p n x = closed_law after (replaced-closed planned newest after p n x.destroyed x.made x.others x.newest_is x.after_is x.made_in x.boundary x.places x.over) x.spanned

-- ---- after is locally Delaunay
exchanged : (a b c d : Corner) → is_corner_inside b a d c ≡ false → is_corner_inside a b c d ≡ false
exchanged a b c d e = shallow-outside a b c d (along (deep a b c d) (deep b a d c) (depth-exchanged (lift a) (lift b) (lift c) (lift d)) (outside-shallow b a d c e))
  where
    along : (x y : ℤ) → x ≡ y → y ≤ℤ pos 0 → x ≤ℤ pos 0
    along x y e h = omega (arith, ints, e, h)

after-local : (planned newest after : Net) → IsLocallyDelaunay planned → IsLocallyDelaunay newest → (x : IsPatch planned newest after) → IsSheet after → IsLocallyDelaunay after
after-local planned newest after local_p local_n x s a b c d at_abc at_bad free =
    by (any-either (is_triangle a b c) x.made x.others (sym (ap (λ ts. list_any (is_triangle a b c) ts) x.after_is) ∙ at_abc)) (any-either (is_triangle b a d) x.made x.others (sym (ap (λ ts. list_any (is_triangle b a d) ts) x.after_is) ∙ at_bad))
  where
    in_newest : (u v w : Corner) → is_in x.others u v w ≡ true → has newest u v w ≡ true
    in_newest u v w h = ap (λ ts. list_any (is_triangle u v w) ts) x.newest_is ∙ any-second (is_triangle u v w) x.destroyed x.others h

    free_back : count_of after b a ≡ 0
    free_back = count-back after s a b free

    by : (is_in x.made a b c ≡ true) ⊎ (is_in x.others a b c ≡ true) → (is_in x.made b a d ≡ true) ⊎ (is_in x.others b a d ≡ true) → is_corner_inside a b c d ≡ false
    by (inl m) (inl m') = local_p a b c d (x.made_in a b c m) (x.made_in b a d m') (x.made_counts a b c m ∙ free)
    by (inl m) (inr o) = local_p a b c d (x.made_in a b c m) (x.beside a b c d m o) (x.made_counts a b c m ∙ free)
    by (inr o) (inl m) = exchanged a b c d (local_p b a d c (x.made_in b a d m) (x.beside b a d c m o) (x.made_counts b a d m ∙ free_back))
    by (inr o) (inr o') = local_n a b c d (in_newest a b c o) (in_newest b a d o') (x.other_counts a b c o ∙ free)

pub patch_law : PatchLaw
patch_law planned newest after p local_p n local_n x =
    let s = after-sheet planned newest after p n x in
    let local = after-local planned newest after local_p local_n x s in
    (s, (local, net_law after s local))
