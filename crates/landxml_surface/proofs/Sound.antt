-- A surface without a fault lies within the limits, and its faces name ids.
use Rattle.std.proofs.Common.{◌≡◌, ℕ, zero, suc, ◌≤◌, ◌^◌, ℤ, Bool, true, false, not, List, [], ◌∷◌, ◌++◌, filter, None, Some, inl, inr, refl, sym, ap, subst, ◌∙◌, arith}
use Rattle.std.specs.Prelude.{slice_get, All, nat_lt, unsigned_abs, unwrap_or, ◌&&◌, ◌-ℤ◌}
use Rattle.std.specs.List.{flat_map, list_any}
use Rattle.std.proofs.lemmas.Bool.{ltb-false}
use Rattle.std.proofs.lemmas.Int.{ints}
use Rattle.std.proofs.lemmas.List.Elements.{All-nil, All-cons}
use Rattle.ground_num.specs.declared.decimal.Thousandths.{Thousandths}
use Rattle.ground_num.specs.declared.head.Origin.{Origin}
use Rattle.ground_model.specs.Place.{Coords, IsPlace, IsLevel}
use Rattle.ground_model.proofs.Elements.{In, any_gives, of_filter, of_map}
use Rattle.landxml_read.specs.declared.fault.DocFault.{DocFault}
use Rattle.landxml_read.specs.declared.fault.DocCause.{DocCause}
use Rattle.landxml_read.specs.declared.raw.Triple.{Triple}
use Rattle.landxml_read.specs.declared.raw.Pair2.{Pair2}
use Rattle.landxml_read.specs.declared.raw.RawFace.{RawFace}
use Rattle.landxml_read.specs.declared.raw.RawSurface.{RawSurface}
use Rattle.landxml_surface.specs.declared.origin.OriginRule.{OriginRule}
use Rattle.landxml_surface.specs.declared.spot.Spot.{Spot}
use Rattle.landxml_surface.specs.Faults.{when, range_faults, pair_spot, pair_faults, id_faults, face_faults, surface_faults, least_of}
use Rattle.landxml_surface.specs.Heights.{spot_of, is_same_spot, Marked, marked_after, marked, is_first, heights}
use Rattle.landxml_surface.specs.Ids.{is_id}
use Rattle.landxml_surface.specs.Origins.{origin_by, from_origin}
use Rattle.landxml_surface.specs.Placed.{IsPlaced}
use Rattle.landxml_surface.proofs.Least.{none-least}
use Rattle.landxml_surface.proofs.Marks.{spot-same}

-- ---- lists without an element

left-empty : {X : Type 0} (xs ys : List X) → xs ++ ys ≡ [] → xs ≡ []
left-empty [] ys e = refl
left-empty (x ∷ xs) ys e = cc

right-empty : {X : Type 0} (xs ys : List X) → xs ++ ys ≡ [] → ys ≡ []
right-empty [] ys e = e
right-empty (x ∷ xs) ys e = cc

each-empty : {X Y : Type 0} (f : X → List Y) (xs : List X) (x : X) → flat_map f xs ≡ [] → In x xs → f x ≡ []
each-empty f [] x e i = absurd i
each-empty f (y ∷ ys) x e (inl same) = ap f same ∙ left-empty (f y) (flat_map f ys) e
each-empty f (y ∷ ys) x e (inr i) = each-empty f ys x (right-empty (f y) (flat_map f ys) e) i

in-at : {X : Type 0} (xs : List X) (k : ℕ) (x : X) → slice_get xs k ≡ Some x → In x xs
in-at [] k x at = cc
in-at (y ∷ ys) zero x at = inl (ap (λ o. unwrap_or o x) (sym at))
in-at (y ∷ ys) (suc k) x at = inr (in-at ys k x at)

all-in : {X : Type 0} (P : X → Type 0) (xs : List X) → ((x : X) → In x xs → P x) → All P xs
all-in P [] h = All-nil P
all-in P (x ∷ xs) h = All-cons P x xs (h x (inl refl)) (all-in P xs (λ y i. h y (inr i)))

when-none : (b : Bool) (at : ℕ) (c : DocCause) → when b at c ≡ [] → b ≡ false
when-none true at c e = cc
when-none false at c e = refl

-- ---- within the limits

within : (bound : ℕ) (x : ℤ) → nat_lt bound (unsigned_abs x) ≡ false → unsigned_abs x ≤ bound
within bound x e = ltb-false bound (unsigned_abs x) e

place-within : (p : Coords) → unsigned_abs p.n ≤ 2 ^ 29 → unsigned_abs p.e ≤ 2 ^ 29 → IsPlace p
place-within p n e = record { west = grind (arith, ints); east = grind (arith, ints); south = grind (arith, ints); north = grind (arith, ints) }

level-within : (z : ℤ) → unsigned_abs z ≤ 2 ^ 26 → IsLevel z
level-within z e = record { low = grind (arith, ints); high = grind (arith, ints) }

module _ (origin : Origin) (t : Triple) (none : range_faults origin t ≡ []) where
  triple-place : IsPlace (from_origin origin (spot_of t))
  triple-place =
      let north = when-none _ _ _ (left-empty _ _ none) in
      let east = when-none _ _ _ (left-empty _ _ (right-empty _ _ none)) in
      place-within (from_origin origin (spot_of t)) (within (2 ^ 29) (t.n.0 -ℤ origin.n.0) north) (within (2 ^ 29) (t.e.0 -ℤ origin.e.0) east)

  triple-level : IsLevel t.z.0
  triple-level = level-within t.z.0 (within (2 ^ 26) t.z.0 (when-none _ _ _ (right-empty _ _ (right-empty _ _ none))))

not-false : (b : Bool) → not b ≡ false → b ≡ true
not-false true e = refl
not-false false e = cc

-- ---- the triples of marks
marked-in : (earlier ts : List Triple) (m : Marked) → In m (marked_after earlier ts) → In m.0 ts
marked-in earlier [] m i = absurd i
marked-in earlier (t ∷ ts) m (inl same) = inl (ap (λ (k : Marked). k.0) same)
marked-in earlier (t ∷ ts) m (inr i) = inr (marked-in (earlier ++ t ∷ []) ts m i)

module _ (rule : OriginRule) (s : RawSurface) (least : least_of (surface_faults rule s) ≡ None) where
  far : List DocFault
  far = flat_map (range_faults (origin_by rule s.triples)) s.triples

  low : List DocFault
  low = flat_map (pair_faults s.triples) s.pairs

  repeated : List DocFault
  repeated = id_faults [] s.ids

  nameless : List DocFault
  nameless = flat_map (face_faults s.ids) s.faces

  faultless : far ++ (low ++ (repeated ++ nameless)) ≡ []
  unfolding surface_faults far low repeated nameless
  faultless = none-least (surface_faults rule s) least

  in-range : (t : Triple) → In t s.triples → range_faults (origin_by rule s.triples) t ≡ []
  unfolding far
  in-range t i = each-empty (range_faults (origin_by rule s.triples)) s.triples t (left-empty far (low ++ (repeated ++ nameless)) faultless) i

  pair-place : (p : Pair2) → In p s.pairs → IsPlace (from_origin (origin_by rule s.triples) (pair_spot p))
  unfolding low
  pair-place p i =
      let none = each-empty (pair_faults s.triples) s.pairs p (left-empty low (repeated ++ nameless) (right-empty far (low ++ (repeated ++ nameless)) faultless)) i in
      let high = not-false (list_any (λ t. is_same_spot (pair_spot p) (spot_of t)) s.triples) (when-none _ _ _ none) in
      let found = any_gives (λ t. is_same_spot (pair_spot p) (spot_of t)) s.triples high in
      subst (λ q. IsPlace (from_origin (origin_by rule s.triples) q)) (sym (spot-same (pair_spot p) (spot_of found.0) found.2)) (triple-place (origin_by rule s.triples) found.0 (in-range found.0 found.1))

  pub sound-placed : IsPlaced (origin_by rule s.triples) s
  sound-placed = record {
    triples = λ k t at. triple-place (origin_by rule s.triples) t (in-range t (in-at s.triples k t at));
    levels = λ k t at. triple-level (origin_by rule s.triples) t (in-range t (in-at s.triples k t at));
    pairs = λ k p at. pair-place p (in-at s.pairs k p at);
  }

  pub sound-high : All (λ (h : Spot × Thousandths). IsPlace (from_origin (origin_by rule s.triples) h.0) × IsLevel h.1.0) (heights s.triples)
  unfolding marked
  sound-high = all-in (λ (h : Spot × Thousandths). IsPlace (from_origin (origin_by rule s.triples) h.0) × IsLevel h.1.0) (heights s.triples) of
    where
      of : (h : Spot × Thousandths) → In h (heights s.triples) → IsPlace (from_origin (origin_by rule s.triples) h.0) × IsLevel h.1.0
      of h i =
          let m = of_map (λ (k : Marked). (spot_of k.0, k.0.z)) (filter is_first (marked s.triples)) h i in
          let there = marked-in [] s.triples m.0 (of_filter is_first (marked s.triples) m.0 m.1).0 in
          let none = in-range m.0.0 there in
          subst (λ (k : Spot × Thousandths). IsPlace (from_origin (origin_by rule s.triples) k.0) × IsLevel k.1.0) (sym m.2) (triple-place (origin_by rule s.triples) m.0.0 none, triple-level (origin_by rule s.triples) m.0.0 none)

  pub sound-named : All (λ (f : RawFace). (is_id s.ids f.a && is_id s.ids f.b && is_id s.ids f.c) ≡ true) s.faces
  unfolding nameless
  sound-named = all-in (λ (f : RawFace). (is_id s.ids f.a && is_id s.ids f.b && is_id s.ids f.c) ≡ true) s.faces
      (λ f i. not-false (is_id s.ids f.a && is_id s.ids f.b && is_id s.ids f.c) (when-none _ _ _ (each-empty (face_faults s.ids) s.faces f (right-empty repeated nameless (right-empty low (repeated ++ nameless) (right-empty far (low ++ (repeated ++ nameless)) faultless))) i)))
