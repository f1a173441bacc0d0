-- The relief of a content.
use Rattle.std.proofs.Common.{◌≡◌, ℕ, zero, suc, ◌<◌, ◌^◌, refl, sym, ap, subst, ◌∙◌, arith, List, [], ◌∷◌, Bool, true, false, cond, length, get_or}
use Rattle.std.specs.Prelude.{ℤ, pos, map, All, IsTrue, not, ◌&&◌, ◌||◌, Option, unwrap_or}
use Rattle.std.specs.List.{AllByRecursion, filter, flat_map, list_any}
use Rattle.std.specs.List.Sorted.{IsStrictlySortedBy}
use Rattle.std.specs.declared.cmp.Ordering.{Ordering}
use Rattle.std.specs.declared.cmp.Ordering.TheVariants.{Less, Equal}
use Rattle.std.specs.Ordering.{ordering_then, on, then_cmp}
use Rattle.std.proofs.lemmas.Cmp.{tied_itself}
use Rattle.std.proofs.lemmas.Bool.Decides.{Decides-int_eq}
use Rattle.std.proofs.lemmas.List.Elements.{All-from_recursion, All-map}
use Rattle.std.proofs.lemmas.List.Kept.{IsStrictlySortedBy-filter}
use Rattle.std.proofs.lemmas.List.{length-map}
use Rattle.std.proofs.lemmas.List.Filters.{length-filter_both}
use Rattle.std.proofs.lemmas.Simd.{map-map}
use Rattle.ground_model.specs.declared.facet.Facet.{Facet}
use Rattle.ground_model.specs.declared.piece.Piece.{Piece}
use Rattle.ground_model.specs.Place.{Coords, place_cmp, is_before, is_same}
use Rattle.ground_model.specs.Side.{is_left}
use Rattle.ground_model.specs.declared.edit.Edit.TheVariants.{SetLevel}
use Rattle.ground_model.specs.Content.{Content, after, points_of, lines_of, level_of}
use Rattle.ground_model.specs.Tri.{Triple, triples, is_empty, is_facet, is_facet_at, facet_with, facets, is_crossed_by_none, is_walled_off}
use Rattle.ground_model.specs.Kept.{is_kept, kept}
use Rattle.ground_model.specs.declared.slope.Slope.{Slope}
use Rattle.ground_model.specs.Slope.{relief, slope_of}
use Rattle.ground_model.proofs.Contents.{places_total}
use Rattle.ground_model.proofs.Ties.{same_of_is_same}
use Rattle.measures.specs.SlopeList.{slope_cmp, level_in, IsRelief}
use Rattle.ground_model.specs.Table.{pieces_on}
use Rattle.store.proofs.Orders.{each-always, each-implied, each-map, each-flat_map, each-filter, each-kept, sorted-map, sorted-implied, sorted-flat_map}

-- ---- the order of triples

triple_cmp : Triple → Triple → Ordering
triple_cmp = then_cmp (on (λ t. t.0) place_cmp) (then_cmp (on (λ t. t.1.0) place_cmp) (on (λ t. t.1.1) place_cmp))

then_less : (x y : Ordering) → x ≡ Less → ordering_then x y ≡ Less
then_less x y e = rw e refl

then_tied : (x y : Ordering) → x ≡ Equal → y ≡ Less → ordering_then x y ≡ Less
then_tied x y e l = rw e l

same_cmp : (p q x y : Coords) → p ≡ x → q ≡ y → place_cmp p q ≡ place_cmp x y
same_cmp p q x y e f = ap (λ k. place_cmp k q) e ∙ ap (place_cmp x) f

tied : (p : Coords) → place_cmp p p ≡ Equal
tied p = tied_itself places_total p

module _ (points : List Coords) (sorted : IsStrictlySortedBy place_cmp points) where
  on_edge : (a b : Coords) → IsStrictlySortedBy triple_cmp (map (λ c. (a, (b, c))) points)
  unfolding triple_cmp
  on_edge a b = sorted-map triple_cmp (λ c. (a, (b, c))) points (sorted-implied place_cmp (λ c d. triple_cmp (a, (b, c)) (a, (b, d))) (λ c d l. then_tied (place_cmp a a) _ (tied a) (then_tied (place_cmp b b) _ (tied b) l)) points sorted)

  from_corner : (a : Coords) → IsStrictlySortedBy triple_cmp (flat_map (λ b. map (λ c. (a, (b, c))) points) points)
  unfolding triple_cmp
  from_corner a =
      sorted-flat_map place_cmp triple_cmp (λ b t. (t.0 ≡ a) × (t.1.0 ≡ b)) (λ b. map (λ c. (a, (b, c))) points) (on_edge a)
      (λ b. each-map (λ t. (t.0 ≡ a) × (t.1.0 ≡ b)) (λ c. (a, (b, c))) points (each-always (λ c. (a ≡ a) × (b ≡ b)) (λ c. (refl, refl)) points))
      (λ b d t u l m n. then_tied (place_cmp t.0 u.0) _ (same_cmp t.0 u.0 a a m.0 n.0 ∙ tied a) (then_less (place_cmp t.1.0 u.1.0) _ (same_cmp t.1.0 u.1.0 b d m.1 n.1 ∙ l)))
      points sorted

  triples-sorted : IsStrictlySortedBy triple_cmp (triples points)
  unfolding triple_cmp
  triples-sorted =
      sorted-flat_map place_cmp triple_cmp (λ a t. t.0 ≡ a) (λ a. flat_map (λ b. map (λ c. (a, (b, c))) points) points) from_corner
      (λ a. each-flat_map (λ t. t.0 ≡ a) (λ b. map (λ c. (a, (b, c))) points) (λ b. each-map (λ t. t.0 ≡ a) (λ c. (a, (b, c))) points (each-always (λ c. a ≡ a) (λ c. refl) points)) points)
      (λ a d t u l m n. then_less (place_cmp t.0 u.0) _ (same_cmp t.0 u.0 a d m n ∙ l))
      points sorted

-- ---- facets are counterclockwise

left_by : (x y l e k w : Bool) → ((x && y && l) && e && k && w) ≡ true → l ≡ true
left_by true true true e k w h = refl
left_by true true false e k w h = h
left_by true false l e k w h = cc
left_by false y l e k w h = cc

left_of : (points : List Coords) (ps : List Piece) (a b c : Coords) → is_facet points ps a b c ≡ true → is_left a b c ≡ true
unfolding is_facet
left_of points ps a b c h = left_by (is_before a b) (is_before a c) (is_left a b c) (is_empty points a b c) (is_crossed_by_none ps a b && is_crossed_by_none ps b c && is_crossed_by_none ps c a) (is_walled_off points ps a b c) h

-- ---- each corner has one level

has_corner : Coords → Facet → Bool
has_corner p f = is_same f.a p || is_same f.b p || is_same f.c p

level_by : (x y z rest : Bool) (u v w r k : ℤ) → (x ≡ true → k ≡ u) → (y ≡ true → k ≡ v) → (z ≡ true → k ≡ w) → (rest ≡ true → k ≡ r) → ((x || y || z) || rest) ≡ true → k ≡ cond x u (cond y v (cond z w r))
level_by true y z rest u v w r k fu fv fw fr h = fu refl
level_by false true z rest u v w r k fu fv fw fr h = fv refl
level_by false false true rest u v w r k fu fv fw fr h = fw refl
level_by false false false rest u v w r k fu fv fw fr h = fr h

zero_or : (Coords → Option ℤ) → Coords → ℤ
zero_or level_at p = unwrap_or (level_at p) (pos 0)

level_in-is : (level_at : Coords → Option ℤ) (fs : List Facet) (p : Coords) → list_any (has_corner p) fs ≡ true → zero_or level_at p ≡ level_in (map (slope_of level_at) fs) p
unfolding level_in has_corner zero_or
level_in-is level_at [] p h = cc
level_in-is level_at (f ∷ fs) p h =
    level_by (is_same f.a p) (is_same f.b p) (is_same f.c p) (list_any (has_corner p) fs) (zero_or level_at f.a) (zero_or level_at f.b) (zero_or level_at f.c) (level_in (map (slope_of level_at) fs) p) (zero_or level_at p)
    (λ e. ap (zero_or level_at) (sym (same_of_is_same f.a p e)))
    (λ e. ap (zero_or level_at) (sym (same_of_is_same f.b p e)))
    (λ e. ap (zero_or level_at) (sym (same_of_is_same f.c p e)))
    (level_in-is level_at fs p) h

any_at : {X : Type 0} (p : X → Bool) (xs : List X) (k : ℕ) (d : X) → k < length xs → p (get_or xs k d) ≡ true → list_any p xs ≡ true
any_at p [] k d lt h = absurd (omega arith)
any_at p (x ∷ xs) zero d lt h = ap (λ t. t || list_any p xs) h
any_at p (x ∷ xs) (suc k) d lt h = or_true (p x) (list_any p xs) (any_at p xs k d (omega arith) h)
  where
    or_true : (s t : Bool) → t ≡ true → (s || t) ≡ true
    or_true true t e = refl
    or_true false t e = e

is_same-refl : (p : Coords) → is_same p p ≡ true
is_same-refl p =
    let e = (Decides-int_eq p.e p.e).1 refl in
    let n = (Decides-int_eq p.n p.n).1 refl in
    (λ i. e i && n i)

or_first : (x y z : Bool) → x ≡ true → (x || y || z) ≡ true
or_first x y z e = rw e refl

or_second : (x y z : Bool) → y ≡ true → (x || y || z) ≡ true
or_second true y z e = refl
or_second false y z e = rw e refl

or_third : (x y z : Bool) → z ≡ true → (x || y || z) ≡ true
or_third true y z e = refl
or_third false true z e = refl
or_third false false z e = e

has_a : (f : Facet) → has_corner f.a f ≡ true
unfolding has_corner
has_a f = or_first (is_same f.a f.a) (is_same f.b f.a) (is_same f.c f.a) (is_same-refl f.a)

has_b : (f : Facet) → has_corner f.b f ≡ true
unfolding has_corner
has_b f = or_second (is_same f.a f.b) (is_same f.b f.b) (is_same f.c f.b) (is_same-refl f.b)

has_c : (f : Facet) → has_corner f.c f ≡ true
unfolding has_corner
has_c f = or_third (is_same f.a f.c) (is_same f.b f.c) (is_same f.c f.c) (is_same-refl f.c)

one_level : (level_at : Coords → Option ℤ) (fs : List Facet) → All (λ s. (s.za ≡ level_in (map (slope_of level_at) fs) s.facet.a) × (s.zb ≡ level_in (map (slope_of level_at) fs) s.facet.b) × (s.zc ≡ level_in (map (slope_of level_at) fs) s.facet.c)) (map (slope_of level_at) fs)
unfolding zero_or
one_level level_at fs =
    All-map (λ s. (s.za ≡ level_in (map (slope_of level_at) fs) s.facet.a) × (s.zb ≡ level_in (map (slope_of level_at) fs) s.facet.b) × (s.zc ≡ level_in (map (slope_of level_at) fs) s.facet.c)) (slope_of level_at) fs
    (λ k d lt. (at k d lt (get_or fs k d).a (has_a (get_or fs k d)), at k d lt (get_or fs k d).b (has_b (get_or fs k d)), at k d lt (get_or fs k d).c (has_c (get_or fs k d))))
  where
    at : (k : ℕ) (d : Facet) → k < length fs → (p : Coords) → has_corner p (get_or fs k d) ≡ true → zero_or level_at p ≡ level_in (map (slope_of level_at) fs) p
    at k d lt p h = level_in-is level_at fs p (any_at (has_corner p) fs k d lt h)

-- by a, then b, then c
pub facet_cmp : Facet → Facet → Ordering
facet_cmp = then_cmp (on (λ f. f.a) place_cmp) (then_cmp (on (λ f. f.b) place_cmp) (on (λ f. f.c) place_cmp))

-- Counterclockwise facets in order, with any levels, are a relief.
pub slopes-relief : (level_at : Coords → Option ℤ) (fs : List Facet) → IsStrictlySortedBy facet_cmp fs → All (λ f. IsTrue (is_left f.a f.b f.c)) fs → length fs < 2 ^ 30 → IsRelief (map (slope_of level_at) fs)
unfolding facet_cmp
slopes-relief level_at fs sorted turned few = record {
  in_order = sorted-map slope_cmp (slope_of level_at) fs sorted;
  turned = All-map (λ s. IsTrue (is_left s.facet.a s.facet.b s.facet.c)) (slope_of level_at) fs turned;
  one_level = one_level level_at fs;
  few = rw (length-map fs (slope_of level_at)) few;
}

module _ (points : List Coords) (ps : List Piece) where
  facets-sorted : IsStrictlySortedBy place_cmp points → IsStrictlySortedBy facet_cmp (facets points ps)
  unfolding facets triple_cmp facet_cmp
  facets-sorted sorted = sorted-map facet_cmp (facet_with ps) (filter (is_facet_at points ps) (triples points)) (IsStrictlySortedBy-filter triple_cmp (is_facet_at points ps) (triples points) (triples-sorted points sorted))

  -- the facets of points in order stand in the order of their corners
  pub facets-by_corners : IsStrictlySortedBy place_cmp points → IsStrictlySortedBy (then_cmp (on (λ f. f.a) place_cmp) (then_cmp (on (λ f. f.b) place_cmp) (on (λ f. f.c) place_cmp))) (facets points ps)
  unfolding facet_cmp
  facets-by_corners sorted = facets-sorted sorted

  facets-left : AllByRecursion (λ f. IsTrue (is_left f.a f.b f.c)) (facets points ps)
  unfolding facets
  facets-left =
      each-map (λ f. IsTrue (is_left f.a f.b f.c)) (facet_with ps) (filter (is_facet_at points ps) (triples points))
      (each-implied (λ t. is_facet_at points ps t ≡ true) (λ t. is_left t.0 t.1.0 t.1.1 ≡ true) (λ t h. left_of points ps t.0 t.1.0 t.1.1 h) (filter (is_facet_at points ps) (triples points)) (each-filter (is_facet_at points ps) (triples points)))

  -- The facets that a test keeps, of points in order, with any levels.
  pub kept-relief : (level_at : Coords → Option ℤ) (keep : Facet → Bool) → IsStrictlySortedBy place_cmp points → length (facets points ps) < 2 ^ 30 → IsRelief (map (slope_of level_at) (filter keep (facets points ps)))
  kept-relief level_at keep sorted few =
      slopes-relief level_at (filter keep (facets points ps)) (IsStrictlySortedBy-filter facet_cmp keep (facets points ps) (facets-sorted sorted))
      (All-from_recursion (λ f. IsTrue (is_left f.a f.b f.c)) (filter keep (facets points ps)) (each-kept (λ f. IsTrue (is_left f.a f.b f.c)) keep (facets points ps) facets-left))
      (omega (arith, few, length-filter_both keep (λ f. not (keep f)) (λ _. refl) (facets points ps)))

-- The facets of a relief with other levels.
pub releveled-relief : (level_at : Coords → Option ℤ) (slopes : List Slope) → IsRelief slopes → IsRelief (map (λ s. slope_of level_at s.facet) slopes)
unfolding facet_cmp
releveled-relief level_at slopes r =
    subst IsRelief (map-map (slope_of level_at) (λ s. s.facet) slopes)
    (slopes-relief level_at (map (λ s. s.facet) slopes) (sorted-map facet_cmp (λ s. s.facet) slopes r.in_order) (All-map (λ f. IsTrue (is_left f.a f.b f.c)) (λ s. s.facet) slopes r.turned) (rw (length-map slopes (λ s. s.facet)) r.few))

pub relief-none : IsRelief []
unfolding IsStrictlySortedBy
relief-none = record {
  in_order = tt;
  turned = All-from_recursion (λ s. IsTrue (is_left s.facet.a s.facet.b s.facet.c)) [] tt;
  one_level = All-from_recursion (λ s. (s.za ≡ level_in [] s.facet.a) × (s.zb ≡ level_in [] s.facet.b) × (s.zc ≡ level_in [] s.facet.c)) [] tt;
  few = omega arith;
}

-- ---- the relief of a content

-- it is determined by its points, its pieces, its lines and its levels
pub relief-by : (c : Content) → relief c ≡ map (slope_of (level_of c)) (filter (is_kept (lines_of c)) (facets (points_of c) (pieces_on (points_of c) (lines_of c))))
unfolding relief kept
relief-by c = refl

-- a level that is set leaves the facets
pub relief-level : (c : Content) (p : Coords) (z : ℤ) → points_of (after c (SetLevel p z)) ≡ points_of c → relief (after c (SetLevel p z)) ≡ map (λ s. slope_of (level_of (after c (SetLevel p z))) s.facet) (relief c)
unfolding after
relief-level c p z same =
    let level = level_of (after c (SetLevel p z)) in
    let fs = filter (is_kept (lines_of c)) (facets (points_of c) (pieces_on (points_of c) (lines_of c))) in
    relief-by (after c (SetLevel p z))
    ∙ ap (λ points. map (slope_of (level_of (after c (SetLevel p z)))) (filter (is_kept (lines_of c)) (facets points (pieces_on points (lines_of c))))) same
    ∙ sym (map-map (λ s. slope_of (level_of (after c (SetLevel p z))) s.facet) (slope_of (level_of c)) fs)
    ∙ ap (map (λ s. slope_of (level_of (after c (SetLevel p z))) s.facet)) (sym (relief-by c))
