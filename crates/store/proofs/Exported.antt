-- What a version shows is lawful, and the facet after another stands at a point of partition.
use Rattle.std.proofs.Common.{◌≡◌, ℕ, zero, suc, ◌+◌, ◌<◌, ◌≤◌, List, [], ◌∷◌, length, Bool, true, false, Option, None, Some, inl, inr, refl, sym, ap, subst, ◌∙◌, arith, cond, get_or, ⊎_elim}
use Rattle.std.specs.Prelude.{ℤ, map, T, not, ◌&&◌, ◌||◌, find, slice_get, unwrap_or, option_map}
use Rattle.std.specs.List.{AllByRecursion, list_any, list_all, position_or_len, prefix_len}
use Rattle.std.specs.List.Sorted.{IsStrictlySortedBy, IsPartitionedBy, IsPartitionPoint}
use Rattle.std.specs.Cmp.{IsTotalOrder}
use Rattle.std.specs.declared.cmp.Ordering.{Ordering}
use Rattle.std.specs.declared.cmp.Ordering.TheVariants.{Less, Equal, Greater}
use Rattle.std.specs.Ordering.{is_lt}
use Rattle.std.specs.FinMap as finmap
use Rattle.std.specs.FinMap.Entries.{below_all}
use Rattle.std.proofs.lemmas.Bool.{true≢false, false_from_ne_true, not-true, not_from_false}
use Rattle.std.proofs.lemmas.Option.{slice_get-get_or}
use Rattle.std.proofs.lemmas.List.{length-map}
use Rattle.std.proofs.lemmas.List.Folds.{find_at}
use Rattle.std.proofs.Math.Nat.{eq-or-lt_of_le}
use Rattle.std.proofs.lemmas.Cmp.{on_total, then_total}
use Rattle.ground_num.specs.declared.head.Head.{Head}
use Rattle.ground_num.specs.Head.{IsOrigin}
use Rattle.ground_model.specs.declared.facet.Facet.{Facet}
use Rattle.ground_model.specs.declared.limits.Limits.{Limits}
use Rattle.ground_model.specs.Place.{Coords, place_cmp, is_before, is_same}
use Rattle.ground_model.specs.Line.{Line, is_point}
use Rattle.ground_model.specs.Mark.{is_same_facet, is_among}
use Rattle.ground_model.specs.Content.{Content, points_of, lines_of, pieces}
use Rattle.ground_model.specs.Tri.{tri, is_facet, is_facet_of, has_counts}
use Rattle.ground_model.specs.Kept.{is_kept}
use Rattle.ground_model.specs.History.{content_of, IsLegal}
use Rattle.ground_model.specs.Crossings.{is_on_points}
use Rattle.ground_model.specs.Planar.{IsPlanar}
use Rattle.ground_model.proofs.Contents.{places_total}
use Rattle.ground_model.proofs.Elements.{In, any_from, all_at, all_from, of_map}
use Rattle.ground_model.proofs.Members.{facet-itself, is_among-tri}
use Rattle.ground_model.proofs.Planar.{on_at, planar-legal}
use Rattle.landxml_write.specs.Exports.{Vertex, Face, Exported, IsExport, Ascend, is_vertex, corners_cmp, comes_after}
use Rattle.turn_lock.specs.declared.journal.Journal.{Journal}
use Rattle.store.specs.Shown.{faces_of, shown_of, shown_by}
use Rattle.store.proofs.Orders.{sorted-map}
use Rattle.store.proofs.Reliefs.{facets-by_corners}

-- ---- lists in strict order, by their places

same_some : {X : Type 0} (a b : X) → Some a ≡ Some b → a ≡ b
same_some a b e = ap (λ o. unwrap_or o a) e

in_at : {X : Type 0} (xs : List X) (k : ℕ) (x : X) → slice_get xs k ≡ Some x → In x xs
in_at [] k x at = cc
in_at (y ∷ ys) zero x at = inl (sym (same_some y x at))
in_at (y ∷ ys) (suc k) x at = inr (in_at ys k x at)

holds_at : {X : Type 0} (P : X → Type 0) (xs : List X) (k : ℕ) (x : X) → AllByRecursion P xs → slice_get xs k ≡ Some x → P x
holds_at P [] k x h at = cc
holds_at P (y ∷ ys) zero x h at = subst P (same_some y x at) h.0
holds_at P (y ∷ ys) (suc k) x h at = holds_at P ys k x h.1 at

ascends : {X : Type 0} (R : X → X → Ordering) (xs : List X) → IsStrictlySortedBy R xs → Ascend (λ x y. is_lt (R x y)) xs
unfolding IsStrictlySortedBy
ascends R [] h i j x y less at_i at_j = cc
ascends R (z ∷ zs) h i zero x y less at_i at_j = absurd (omega (arith, less))
ascends R (z ∷ zs) h zero (suc j) x y less at_i at_j = ap (λ w. is_lt (R w y)) (sym (same_some z x at_i)) ∙ ap is_lt (holds_at (λ w. R z w ≡ Less) zs j y h.0 at_j)
ascends R (z ∷ zs) h (suc i) (suc j) x y less at_i at_j = ascends R zs h.1 i j x y (omega (arith, less)) at_i at_j

-- ---- points

parts : (x y : Bool) → T (x && y) → T x × T y
parts true true h = (tt, tt)
parts true false h = absurd h
parts false y h = absurd h

less_by : (o : Ordering) → T (is_lt o) → o ≡ Less
less_by Less h = refl
less_by Equal h = absurd h
less_by Greater h = absurd h

module _ {X : Type 0} where
  below-each : (p : Coords) (es : List (Coords × X)) → T (below_all place_cmp p es) → AllByRecursion (λ w. place_cmp p w.0 ≡ Less) es
  below-each p [] h = tt
  below-each p (e ∷ es) h = let both = parts (is_lt (place_cmp p e.0)) (below_all place_cmp p es) h in (less_by (place_cmp p e.0) both.0, below-each p es both.1)

  entries-order : (es : List (Coords × X)) → T (finmap.is_sorted place_cmp es) → IsStrictlySortedBy (λ v w. place_cmp v.0 w.0) es
  unfolding IsStrictlySortedBy
  entries-order [] h = tt
  entries-order (e ∷ es) h = let both = parts (below_all place_cmp e.0 es) (finmap.is_sorted place_cmp es) h in (below-each e.0 es both.0, entries-order es both.1)

points-order : (c : Content) → IsStrictlySortedBy place_cmp (points_of c)
points-order c = sorted-map place_cmp (λ e. e.0) (finmap.entries c.points) (entries-order (finmap.entries c.points) (finmap.entries_sorted c.points))

vertex-point : (es : List Vertex) (p : Coords) → is_vertex es p ≡ is_point (map (λ e. e.0) es) p
vertex-point [] p = refl
vertex-point (e ∷ es) p = ap (λ b. is_same p e.0 || b) (vertex-point es p)

-- ---- facets

-- The facets of a content stand in the order of their corners.
pub tri-order : (c : Content) → IsStrictlySortedBy corners_cmp (tri c)
tri-order c = facets-by_corners (points_of c) (pieces c) (points-order c)

corner_parts : (a b c f k : Bool) → (a && b && c && f && k) ≡ true → (a ≡ true) × (b ≡ true) × (c ≡ true)
corner_parts true true true f k h = (refl, refl, refl)
corner_parts true true false f k h = cc
corner_parts true false c f k h = cc
corner_parts false b c f k h = cc

module _ (c : Content) where
  corners : (f : Facet) → In f (tri c) → (is_point (points_of c) f.a ≡ true) × (is_point (points_of c) f.b ≡ true) × (is_point (points_of c) f.c ≡ true)
  unfolding is_among is_facet_of
  corners f i =
      let among = any_from (is_same_facet f) (tri c) f i (facet-itself f) in
      corner_parts (is_point (points_of c) f.a) (is_point (points_of c) f.b) (is_point (points_of c) f.c) (is_facet (points_of c) (pieces c) f.a f.b f.c) (has_counts (pieces c) f) (sym (is_among-tri c f) ∙ among)

  face-corners : (k : ℕ) (f : Face) → slice_get (faces_of c) k ≡ Some f → (is_point (points_of c) f.0.a ≡ true) × (is_point (points_of c) f.0.b ≡ true) × (is_point (points_of c) f.0.c ≡ true)
  face-corners k f at =
      let found = of_map (λ g. (g, is_kept (lines_of c) g)) (tri c) f (in_at (faces_of c) k f at) in
      subst (λ (g : Face). (is_point (points_of c) g.0.a ≡ true) × (is_point (points_of c) g.0.b ≡ true) × (is_point (points_of c) g.0.c ≡ true)) (sym found.2) (corners found.0 found.1)

-- ---- what is shown is lawful

pub shown-lawful : (head : Head) (c : Content) → IsOrigin head.origin → IsPlanar c → IsExport (shown_of head c)
unfolding is_on_points
shown-lawful head c origin planar = record {
  origin = origin;
  points = ascends (λ v w. place_cmp v.0 w.0) (finmap.entries c.points) (entries-order (finmap.entries c.points) (finmap.entries_sorted c.points));
  faces = ascends (λ f g. corners_cmp f.0 g.0) (faces_of c) (sorted-map (λ f g. corners_cmp f.0 g.0) (λ f. (f, is_kept (lines_of c) f)) (tri c) (tri-order c));
  places = λ k line at. all_from (is_vertex (finmap.entries c.points)) line.places (λ p i. vertex-point (finmap.entries c.points) p ∙ all_at (is_point (points_of c)) line.places p (on_at c planar line (in_at (lines_of c) k line at)) i);
  a = λ k f at. vertex-point (finmap.entries c.points) f.0.a ∙ (face-corners c k f at).0;
  b = λ k f at. vertex-point (finmap.entries c.points) f.0.b ∙ (face-corners c k f at).1;
  c = λ k f at. vertex-point (finmap.entries c.points) f.0.c ∙ (face-corners c k f at).2;
}

pub journal-lawful : (j : Journal) → IsOrigin j.head.origin → IsLegal j.limits j.entries → IsExport (shown_by j)
journal-lawful j origin legal = shown-lawful j.head (content_of j.entries) origin (planar-legal j.limits j.entries legal)

-- ---- the facet after another

less_true : (o : Ordering) → is_lt o ≡ true → o ≡ Less
less_true Less h = refl
less_true Equal h = cc
less_true Greater h = cc

prefix_at : {X : Type 0} (p : X → Bool) (xs : List X) (r : ℕ) → r ≤ length xs → IsPartitionPoint (λ y. p y ≡ true) (λ y. p y ≡ false) xs r → prefix_len p xs ≡ r
prefix_at p [] r le h = omega (arith, le)
prefix_at p (x ∷ xs) zero le h = ap (λ b. cond b (1 + prefix_len p xs) 0) (h.1 0 x (omega arith) (omega arith))
prefix_at p (x ∷ xs) (suc r) le h =
    ap (λ b. cond b (1 + prefix_len p xs) 0) (h.0 0 x (omega arith) (omega arith))
    ∙ ap (λ n. 1 + n) (prefix_at p xs r (omega (arith, le)) (λ k e from below. h.0 (suc k) e (omega arith) (omega (arith, below)), λ k e from below. h.1 (suc k) e (omega (arith, from)) (omega (arith, below))))
    ∙ omega arith

corners_total : IsTotalOrder corners_cmp
corners_total = then_total (on_total (λ f. f.a) places_total) (then_total (on_total (λ f. f.b) places_total) (on_total (λ f. f.c) places_total))

module _ (fs : List Facet) (sorted : IsStrictlySortedBy corners_cmp fs) (f : Facet) where
  still : (x y : Facet) → is_lt (corners_cmp x y) ≡ true → is_lt (corners_cmp f y) ≡ false → is_lt (corners_cmp f x) ≡ false
  still x y before not_after = false_from_ne_true (is_lt (corners_cmp f x)) (λ after. true≢false (sym (ap is_lt (corners_total.trans f x y (less_true (corners_cmp f x) after) (less_true (corners_cmp x y) before))) ∙ not_after))

  -- those that don't come after f stand before those that do
  pub parted : IsPartitionedBy (λ g. not (is_lt (corners_cmp f g))) fs
  parted i j d le lt h = ⊎_elim same earlier (eq-or-lt_of_le le)
    where
      same : i ≡ j → not (is_lt (corners_cmp f (get_or fs i d))) ≡ true
      same e = ap (λ k. not (is_lt (corners_cmp f (get_or fs k d)))) e ∙ h

      earlier : i < j → not (is_lt (corners_cmp f (get_or fs i d))) ≡ true
      earlier less = not_from_false _ (still (get_or fs i d) (get_or fs j d)
          (ascends corners_cmp fs sorted i j (get_or fs i d) (get_or fs j d) less (slice_get-get_or fs i d (omega (arith, less, lt))) (slice_get-get_or fs j d lt))
          (not-true _ h))

-- a point of partition is the first place after it
pub point-position : (fs : List Facet) (f : Facet) (r : ℕ) → r ≤ length fs → IsPartitionPoint (λ g. not (is_lt (corners_cmp f g)) ≡ true) (λ g. not (is_lt (corners_cmp f g)) ≡ false) fs r → r ≡ position_or_len (λ g. is_lt (corners_cmp f g)) fs
point-position fs f r le h = sym (prefix_at (λ g. not (is_lt (corners_cmp f g))) fs r le h)

pub first-place : (fs : List Facet) → 0 ≡ position_or_len (comes_after None) fs
first-place [] = refl
first-place (f ∷ fs) = refl

find-map : {X Y : Type 0} (p : Y → Bool) (g : X → Y) (xs : List X) → find p (map g xs) ≡ option_map g (find (λ x. p (g x)) xs)
find-map p g [] = refl
find-map {X} {Y} p g (x ∷ xs) = by_test (p (g x)) (find-map p g xs)
  where
    by_test : (t : Bool) → find p (map g xs) ≡ option_map g (find (λ y. p (g y)) xs) → cond t (Some (g x)) (find p (map g xs)) ≡ option_map g (cond t (Some x) (find (λ y. p (g y)) xs))
    by_test true h = refl
    by_test false h = h

-- The first face after a facet is the first facet after it, with whether it is kept.
pub face-after : (c : Content) (after : Option Facet) → option_map (λ f. (f, is_kept (lines_of c) f)) (find (comes_after after) (tri c)) ≡ find (λ f. comes_after after f.0) (faces_of c)
face-after c after = sym (find-map (λ f. comes_after after f.0) (λ f. (f, is_kept (lines_of c) f)) (tri c))

pub lines-len : (c : Content) → finmap.len c.table.lines ≡ length (lines_of c)
lines-len c = finmap.len-entries c.table.lines ∙ sym (length-map (finmap.entries c.table.lines) (λ e. e.1))
