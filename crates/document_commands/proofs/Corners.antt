-- The facet with three corners, found by the one right before it.
use Rattle.std.proofs.Common.{◌≡◌, Bool, true, false, cond, List, [], ◌∷◌, Option, None, Some, inl, inr, ◌⊎◌, ⊎_elim, refl, sym, ap, ◌∙◌}
use Rattle.std.specs.Prelude.{map, find, ◌&&◌, option_map}
use Rattle.std.specs.List.{AllByRecursion, list_any}
use Rattle.std.specs.List.Sorted.{IsStrictlySortedBy}
use Rattle.std.specs.declared.cmp.Ordering.{Ordering}
use Rattle.std.specs.declared.cmp.Ordering.TheVariants.{Less, Equal, Greater}
use Rattle.std.specs.Ordering.{is_lt, ordering_then, ordering_reverse}
use Rattle.std.proofs.lemmas.Bool.{and_parts, true≢false, false_from_ne_true}
use Rattle.std.proofs.lemmas.Cmp.{tied_itself}
use Rattle.ground_model.specs.declared.facet.Facet.{Facet}
use Rattle.ground_model.specs.Place.{Coords, IsPlace, place_cmp, is_before, is_same}
use Rattle.ground_model.specs.Content.{Content, points_of, lines_of, pieces}
use Rattle.ground_model.specs.Kept.{is_kept}
use Rattle.ground_model.specs.Mark.{is_same_facet, is_among}
use Rattle.ground_model.specs.Tri.{tri, is_facet, is_facet_of, has_counts, is_empty, is_crossed_by_none, is_walled_off}
use Rattle.ground_model.specs.Line.{is_point}
use Rattle.ground_model.specs.Side.{is_left}
use Rattle.ground_model.proofs.Contents.{places_total}
use Rattle.ground_model.proofs.Elements.{In, any_gives, any_from, both_true, none_from}
use Rattle.ground_model.proofs.Members.{facet-itself, is_among-tri}
use Rattle.ground_model.proofs.Segments.{not_after}
use Rattle.ground_model.proofs.Ties.{same_of_is_same}
use Rattle.landxml_write.specs.Exports.{Face, corners_cmp, comes_after, first_after}
use Rattle.store.specs.Shown.{faces_of}
use Rattle.store.proofs.Exported.{tri-order}
use Rattle.document_commands.specs.Agreeing.{has_corners, IsRightBefore}

-- ---- orders

less_of : (o : Ordering) → is_lt o ≡ true → o ≡ Less
less_of Less h = refl
less_of Equal h = cc
less_of Greater h = cc

then_less : (x y : Ordering) → is_lt (ordering_then x y) ≡ true → (is_lt x ≡ true) ⊎ ((x ≡ Equal) × (is_lt y ≡ true))
then_less Less y h = inl refl
then_less Equal y h = inr (refl, h)
then_less Greater y h = cc

both_ways : (x y : Coords) → is_before x y ≡ true → is_before y x ≡ true → ⊥
both_ways x y h k = true≢false (sym k ∙ not_after x y h)

not_equal : (x y : Coords) → is_before x y ≡ true → place_cmp y x ≡ Equal → ⊥
not_equal x y h k = let back : place_cmp y x ≡ ordering_reverse (place_cmp x y) = places_total.antisymm y x in let e : place_cmp x y ≡ Less = less_of (place_cmp x y) h in let f : ordering_reverse (place_cmp x y) ≡ Greater = ap ordering_reverse e in cc

-- ---- the first facet after a place in the order

found_in : (test : Facet → Bool) (xs : List Facet) (x : Facet) → find test xs ≡ Some x → In x xs × (test x ≡ true)
found_in test [] x e = cc
found_in test (y ∷ ys) x e = by (test y) refl e (found_in test ys x)
  where
    by : (t : Bool) → test y ≡ t → cond t (Some y) (find test ys) ≡ Some x → (find test ys ≡ Some x → In x ys × (test x ≡ true)) → In x (y ∷ ys) × (test x ≡ true)
    by true e f rest = let same : y ≡ x = cc in (inl (sym same), ap test (sym same) ∙ e)
    by false e f rest = let more = rest f in (inr more.0, more.1)

later : (x y : Facet) (xs : List Facet) → AllByRecursion (λ w. corners_cmp x w ≡ Less) xs → In y xs → is_lt (corners_cmp x y) ≡ true
later x y [] h i = absurd i
later x y (z ∷ zs) h (inl e) = ap (λ w. is_lt (corners_cmp x w)) e ∙ ap is_lt h.0
later x y (z ∷ zs) h (inr i) = later x y zs h.1 i

-- what stands first after a key is a facet after the key or one before it
next_of : (b f : Facet) (xs : List Facet) → IsStrictlySortedBy corners_cmp xs → In f xs → is_lt (corners_cmp b f) ≡ true → (g : Facet) × (find (λ w. is_lt (corners_cmp b w)) xs ≡ Some g) × ((g ≡ f) ⊎ (is_lt (corners_cmp g f) ≡ true))
unfolding IsStrictlySortedBy
next_of b f [] sorted i after = absurd i
next_of b f (x ∷ xs) sorted i after = by (is_lt (corners_cmp b x)) refl i (λ more. next_of b f xs sorted.1 more after)
  where
    by : (t : Bool) → is_lt (corners_cmp b x) ≡ t → In f (x ∷ xs) → (In f xs → (g : Facet) × (find (λ w. is_lt (corners_cmp b w)) xs ≡ Some g) × ((g ≡ f) ⊎ (is_lt (corners_cmp g f) ≡ true)))
        → (g : Facet) × (cond t (Some x) (find (λ w. is_lt (corners_cmp b w)) xs) ≡ Some g) × ((g ≡ f) ⊎ (is_lt (corners_cmp g f) ≡ true))
    by true e (inl same) rest = (x, refl, inl (sym same))
    by true e (inr more) rest = (x, refl, inr (later x f xs sorted.0 more))
    by false e (inl same) rest = absurd (true≢false (sym after ∙ ap (λ w. is_lt (corners_cmp b w)) same ∙ e))
    by false e (inr more) rest = rest more

-- ---- three corners

module _ (a b c p : Coords) (right : IsRightBefore c (Some p)) where
  -- no facet stands between
  none_between : (f g : Facet) → f.a ≡ a → f.b ≡ b → f.c ≡ c → IsPlace g.c → is_lt (corners_cmp (record { a = a; b = b; c = p; ab = 0; bc = 0; ca = 0 }) g) ≡ true → is_lt (corners_cmp g f) ≡ true → ⊥
  none_between f g fa fb fc at low high = first (then_less (place_cmp a g.a) (ordering_then (place_cmp b g.b) (place_cmp p g.c)) low) (then_less (place_cmp g.a a) (ordering_then (place_cmp g.b b) (place_cmp g.c c)) high')
    where
      high' : is_lt (ordering_then (place_cmp g.a a) (ordering_then (place_cmp g.b b) (place_cmp g.c c))) ≡ true
      high' = ap is_lt (λ i. ordering_then (place_cmp g.a (sym fa i)) (ordering_then (place_cmp g.b (sym fb i)) (place_cmp g.c (sym fc i)))) ∙ high

      third : is_before p g.c ≡ true → is_before g.c c ≡ true → ⊥
      third l h = true≢false (sym h ∙ right.1 g.c at l)

      second : (is_before b g.b ≡ true) ⊎ ((place_cmp b g.b ≡ Equal) × (is_before p g.c ≡ true)) → (is_before g.b b ≡ true) ⊎ ((place_cmp g.b b ≡ Equal) × (is_before g.c c ≡ true)) → ⊥
      second (inl l) (inl h) = both_ways b g.b l h
      second (inl l) (inr h) = not_equal b g.b l h.0
      second (inr l) (inl h) = not_equal g.b b h l.0
      second (inr l) (inr h) = third l.1 h.1

      first : (is_before a g.a ≡ true) ⊎ ((place_cmp a g.a ≡ Equal) × (is_lt (ordering_then (place_cmp b g.b) (place_cmp p g.c)) ≡ true)) → (is_before g.a a ≡ true) ⊎ ((place_cmp g.a a ≡ Equal) × (is_lt (ordering_then (place_cmp g.b b) (place_cmp g.c c)) ≡ true)) → ⊥
      first (inl l) (inl h) = both_ways a g.a l h
      first (inl l) (inr h) = not_equal a g.a l h.0
      first (inr l) (inl h) = not_equal g.a a h l.0
      first (inr l) (inr h) = second (then_less (place_cmp b g.b) (place_cmp p g.c) l.1) (then_less (place_cmp g.b b) (place_cmp g.c c) h.1)

  after_key : (f : Facet) → f.a ≡ a → f.b ≡ b → f.c ≡ c → is_lt (corners_cmp (record { a = a; b = b; c = p; ab = 0; bc = 0; ca = 0 }) f) ≡ true
  after_key f fa fb fc =
      ap is_lt (λ i. ordering_then (place_cmp a (fa i)) (ordering_then (place_cmp b (fb i)) (place_cmp p (fc i))))
      ∙ ap is_lt (λ i. ordering_then (tied_itself places_total a i) (ordering_then (tied_itself places_total b i) (place_cmp p c))) ∙ right.0

  corners_are : (f : Facet) → has_corners a b c f ≡ true → (f.a ≡ a) × (f.b ≡ b) × (f.c ≡ c)
  corners_are f h =
      let outer = and_parts (is_same f.a a && is_same f.b b) (is_same f.c c) h in
      let inner = and_parts (is_same f.a a) (is_same f.b b) outer.0 in
      (same_of_is_same f.a a inner.0, same_of_is_same f.b b inner.1, same_of_is_same f.c c outer.1)

  -- the search over the facets
  pub found_tells : (fs : List Facet) (g : Facet) → IsStrictlySortedBy corners_cmp fs → IsPlace g.c → find (λ w. is_lt (corners_cmp (record { a = a; b = b; c = p; ab = 0; bc = 0; ca = 0 }) w)) fs ≡ Some g → has_corners a b c g ≡ list_any (has_corners a b c) fs
  found_tells fs g sorted at found = both_true (has_corners a b c g) (list_any (has_corners a b c) fs) (λ h. any_from (has_corners a b c) fs g (found_in _ fs g found).0 h) back
    where
      back : list_any (has_corners a b c) fs ≡ true → has_corners a b c g ≡ true
      back h = by (any_gives (has_corners a b c) fs h)
        where
          by : (f : Facet) × In f fs × (has_corners a b c f ≡ true) → has_corners a b c g ≡ true
          by w =
              let are = corners_are w.0 w.2 in
              let next = next_of (record { a = a; b = b; c = p; ab = 0; bc = 0; ca = 0 }) w.0 fs sorted w.1 (after_key w.0 are.0 are.1 are.2) in
              let same : next.0 ≡ g = some (sym next.1 ∙ found) in
              ⊎_elim (λ e. ap (has_corners a b c) (sym same ∙ e) ∙ w.2)
              (λ lt. absurd (none_between w.0 g are.0 are.1 are.2 at (found_in _ fs g found).1 (ap (λ x. is_lt (corners_cmp x w.0)) (sym same) ∙ lt))) next.2
            where
              some : {x y : Facet} → Some x ≡ Some y → x ≡ y
              some k = cc

  pub none_tells : (fs : List Facet) → IsStrictlySortedBy corners_cmp fs → find (λ w. is_lt (corners_cmp (record { a = a; b = b; c = p; ab = 0; bc = 0; ca = 0 }) w)) fs ≡ None → list_any (has_corners a b c) fs ≡ false
  none_tells fs sorted none = none_from (has_corners a b c) fs each
    where
      each : (f : Facet) → In f fs → has_corners a b c f ≡ false
      each f i = false_from_ne_true (has_corners a b c f) (λ h.
          let are = corners_are f h in
          let next = next_of (record { a = a; b = b; c = p; ab = 0; bc = 0; ca = 0 }) f fs sorted i (after_key f are.0 are.1 are.2) in
          never next.0 (sym next.1 ∙ none))
        where
          never : (x : Facet) → Some x ≡ None → ⊥
          never x e = cc

-- ---- the facets of a content

find_map : {X Y : Type 0} (g : X → Y) (test : Y → Bool) (xs : List X) → find test (map g xs) ≡ option_map g (find (λ x. test (g x)) xs)
find_map g test [] = refl
find_map {X} {Y} g test (x ∷ xs) = by (test (g x)) (find_map g test xs)
  where
    by : (t : Bool) → find test (map g xs) ≡ option_map g (find (λ x. test (g x)) xs) → cond t (Some (g x)) (find test (map g xs)) ≡ option_map g (cond t (Some x) (find (λ x. test (g x)) xs))
    by true e = refl
    by false e = e

module _ (content : Content) where
  -- a facet, and whether it is kept
  abbrev face_of : Facet → Face
  face_of f = (f, is_kept (lines_of content) f)

  -- the least corner of a facet stands first
  least_first : (f : Facet) → In f (tri content) → (is_before f.a f.b ≡ true) × (is_before f.a f.c ≡ true)
  unfolding is_among is_facet_of is_facet
  least_first f i =
      let points = points_of content in
      let ps = pieces content in
      let among = sym (is_among-tri content f) ∙ any_from (is_same_facet f) (tri content) f i (facet-itself f) in
      let known = is_point points f.a && is_point points f.b && is_point points f.c in
      let order = is_before f.a f.b && is_before f.a f.c in
      let clear = is_empty points f.a f.b f.c in
      let crossed = is_crossed_by_none ps f.a f.b && is_crossed_by_none ps f.b f.c && is_crossed_by_none ps f.c f.a in
      let facet = (and_parts known (is_facet points ps f.a f.b f.c) (and_parts (known && is_facet points ps f.a f.b f.c) (has_counts ps f) among).0).1 in
      let walls = (and_parts (order && is_left f.a f.b f.c && clear && crossed) (is_walled_off points ps f.a f.b f.c) facet).0 in
      let empty = (and_parts (order && is_left f.a f.b f.c && clear) crossed walls).0 in
      let first = (and_parts (order && is_left f.a f.b f.c) clear empty).0 in
      and_parts (is_before f.a f.b) (is_before f.a f.c) (and_parts order (is_left f.a f.b f.c) first).0

  -- none has three places in another order
  pub out_of_order : (a b c : Coords) → (is_before a b ≡ true → is_before a c ≡ true → ⊥) → list_any (has_corners a b c) (tri content) ≡ false
  out_of_order a b c other = none_from (has_corners a b c) (tri content) each
    where
      each : (f : Facet) → In f (tri content) → has_corners a b c f ≡ false
      each f i = false_from_ne_true (has_corners a b c f) (λ h.
          let outer = and_parts (is_same f.a a && is_same f.b b) (is_same f.c c) h in
          let inner = and_parts (is_same f.a a) (is_same f.b b) outer.0 in
          let fa = same_of_is_same f.a a inner.0 in
          let order = least_first f i in
          other ((λ k. is_before (sym fa k) (sym (same_of_is_same f.b b inner.1) k)) ∙ order.0) ((λ k. is_before (sym fa k) (sym (same_of_is_same f.c c outer.1) k)) ∙ order.1))

  module _ (a b c p : Coords) (right : IsRightBefore c (Some p)) where
    pub next_found : (g : Face) → IsPlace g.0.c → Some g ≡ first_after (Some (record { a = a; b = b; c = p; ab = 0; bc = 0; ca = 0 })) (faces_of content) → has_corners a b c g.0 ≡ list_any (has_corners a b c) (tri content)
    next_found g at found =
        found_tells a b c p right (tri content) g.0 (tri-order content) at
        (by _ (found ∙ find_map face_of (λ (f : Face). comes_after (Some (record { a = a; b = b; c = p; ab = 0; bc = 0; ca = 0 })) f.0) (tri content)))
      where
        by : (o : Option Facet) → Some g ≡ option_map face_of o → o ≡ Some g.0
        by None e = cc
        by (Some f) e = let same : g ≡ face_of f = cc in ap (λ (w : Face). Some w.0) (sym same)

    pub none_next : None ≡ first_after (Some (record { a = a; b = b; c = p; ab = 0; bc = 0; ca = 0 })) (faces_of content) → list_any (has_corners a b c) (tri content) ≡ false
    none_next found =
        none_tells a b c p right (tri content) (tri-order content)
        (by _ (found ∙ find_map face_of (λ (f : Face). comes_after (Some (record { a = a; b = b; c = p; ab = 0; bc = 0; ca = 0 })) f.0) (tri content)))
      where
        by : (o : Option Facet) → None ≡ option_map face_of o → o ≡ None
        by None e = refl
        by (Some f) e = cc
