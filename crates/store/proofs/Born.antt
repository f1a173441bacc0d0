-- The births of marks, one edit after another.
use Rattle.std.proofs.Common.{◌≡◌, ◌≢◌, ℕ, zero, suc, ◌+◌, ◌≤◌, inl, inr, List, [], ◌∷◌, ◌++◌, length, length-append, take, Bool, true, false, cond, None, Some, refl, sym, ap, subst, ◌∙◌, arith}
use Rattle.std.proofs.Math.Seq.{take-append_seam}
use Rattle.std.proofs.lemmas.List.{take-append-le, take_all}
use Rattle.std.specs.Prelude.{ℤ, Option, map, not, ◌&&◌, ◌||◌, slice_get, option_map, option_and_then, unwrap_or, is_some}
use Rattle.std.specs.declared.cmp.Ordering.{Ordering}
use Rattle.std.specs.declared.cmp.Ordering.TheVariants.{Less, Equal, Greater}
use Rattle.std.specs.BTreeMap.{is_at}
use Rattle.std.specs.Cmp.{eq_by_cmp_equiv}
use Rattle.std.specs.FinMap as finmap
use Rattle.std.specs.List.{list_any, position, position_from}
use Rattle.std.specs.Map.{lookup}
use Rattle.std.specs.Ordering.{int_eq, is_eq}
use Rattle.std.proofs.lemmas.Bool.Decides.{Decides-int_eq}
use Rattle.std.proofs.lemmas.Iterator.Adapters.{position_from-zero}
use Rattle.ground_model.specs.declared.edit.Edit.{Edit}
use Rattle.ground_model.specs.declared.edit.Edit.TheVariants.{AddPoint, RemovePoint, SetLevel, AddLine, RemoveLine}
use Rattle.ground_model.specs.declared.entry.Entry.{Entry}
use Rattle.ground_model.specs.declared.facet.Facet.{Facet}
use Rattle.ground_model.specs.declared.line.LineId.{LineId}
use Rattle.ground_model.specs.declared.line.LineKind.{LineKind}
use Rattle.ground_model.specs.declared.mark.Mark.{Mark}
use Rattle.ground_model.specs.declared.mark.Mark.TheVariants.{Point, Tri}
use Rattle.ground_model.specs.Place.{Coords, place_cmp}
use Rattle.ground_model.specs.Mark.{is_same_facet, is_among}
use Rattle.ground_model.specs.Content.{Content, empty, after, level_of}
use Rattle.ground_model.specs.Table.{no_lines}
use Rattle.ground_model.specs.Tri.{facets, tri, is_facet_of}
use Rattle.ground_model.specs.History.{content_of, is_new_level, is_made, makes, born_by, born}
use Rattle.ground_model.proofs.Contents.{places_total}
use Rattle.ground_model.proofs.Elements.{In, any_from}
use Rattle.ground_model.proofs.Members.{same-facet, facet-itself, is_among-tri}
use Rattle.store.specs.declared.births.Births.{Births}
use Rattle.store.specs.Births.{AreBirths, point_birth, facet_birth, renewed, renewed_point, born_after}
use Rattle.store.proofs.Causes.{position-from}
use Rattle.store.proofs.Contents.{content-empty, tri-content, set-is-added}
use Rattle.store.proofs.Journals.{content_of-push}
use Rattle.store.proofs.Points.{places_apart}

-- ---- of no surface

pub tri-empty : tri empty ≡ []
unfolding facets
tri-empty = sym (ap tri content-empty) ∙ tri-content [] no_lines tt

pub level-empty : (p : Coords) → level_of empty p ≡ None
unfolding empty
level-empty p = finmap.get-empty place_cmp p

pub births-empty : (birth : Mark → ℕ) (b : Births) → b.points.entries ≡ [] → b.facets.items ≡ [] → AreBirths empty birth b
births-empty birth b e f = record {
  points = λ p. ap (lookup (is_at (place_cmp p))) e ∙ sym (ap (option_map (λ _. birth (Point p))) (level-empty p));
  facets = f ∙ sym (ap (map (λ f. birth (Tri f))) tri-empty);
}

-- ---- of the points, whose level is set, removed, or kept

equal_of : (o : Ordering) → is_eq o ≡ true → o ≡ Equal
equal_of Less e = cc
equal_of Equal e = refl
equal_of Greater e = cc

tied_places : (p q : Coords) → is_at (place_cmp p) q ≡ true → p ≡ q
tied_places p q e = places_apart p q (equal_of (place_cmp p q) e)

new_level : (l : Option ℤ) (z : ℤ) → l ≢ Some z → is_new_level l (Some z) ≡ true
new_level None z other = refl
new_level (Some y) z other = by_test (int_eq y z) refl
  where
    by_test : (t : Bool) → int_eq y z ≡ t → not t ≡ true
    by_test true e = absurd (other (ap Some ((Decides-int_eq y z).0 e)))
    by_test false e = refl

kept_level : (l : Option ℤ) → is_new_level l l ≡ false
kept_level None = refl
kept_level (Some z) = ap not ((Decides-int_eq z z).1 refl)

-- a point that an edit leaves with the level that it had
left : (c : Content) (edit : Edit) (front : ℕ) (birth : Mark → ℕ) (p : Coords) → level_of (after c edit) p ≡ level_of c p → renewed_point c edit front birth p ≡ option_map (λ _. birth (Point p)) (level_of c p)
left c edit front birth p same = ap (λ l. option_map (λ _. cond (is_new_level (level_of c p) l) front (birth (Point p))) l) same ∙ by_level (level_of c p)
  where
    by_level : (l : Option ℤ) → option_map (λ _. cond (is_new_level l l) front (birth (Point p))) l ≡ option_map (λ _. birth (Point p)) l
    by_level None = refl
    by_level (Some z) = ap (λ t. Some (cond t front (birth (Point p)))) (kept_level (Some z))

module _ (c : Content) (front : ℕ) (birth : Mark → ℕ) (b : Births) (are : AreBirths c birth b) where
  pub point-left : (edit : Edit) (q : Coords) → level_of (after c edit) q ≡ level_of c q → point_birth b q ≡ renewed_point c edit front birth q
  point-left edit q same = are.points q ∙ sym (left c edit front birth q same)

  level-put : (p : Coords) (z : ℤ) (q : Coords) → level_of (after c (AddPoint p z)) q ≡ cond (is_at (place_cmp p) q) (Some z) (level_of c q)
  unfolding after
  level-put p z q = finmap.get-insert places_total c.points p z q ∙ ap (λ t. cond t (Some z) (level_of c q)) ((eq_by_cmp_equiv places_total).symm q p)

  level-out : (p q : Coords) → level_of (after c (RemovePoint p)) q ≡ cond (is_at (place_cmp p) q) None (level_of c q)
  unfolding after
  level-out p q = finmap.get-remove places_total c.points p q ∙ ap (λ t. cond t None (level_of c q)) ((eq_by_cmp_equiv places_total).symm q p)

  -- the birth of a point whose level is put to another is this front, and the other births stay
  pub point-put : (p : Coords) (z : ℤ) (points : List (Coords × ℕ)) → level_of c p ≢ Some z
      → ((q : Coords) → lookup (is_at (place_cmp q)) points ≡ cond (is_at (place_cmp p) q) (Some front) (point_birth b q))
      → (q : Coords) → lookup (is_at (place_cmp q)) points ≡ renewed_point c (AddPoint p z) front birth q
  point-put p z points other is q = is q ∙ by_place (is_at (place_cmp p) q) refl
    where
      by_place : (t : Bool) → is_at (place_cmp p) q ≡ t → cond t (Some front) (point_birth b q) ≡ renewed_point c (AddPoint p z) front birth q
      by_place false e = point-left (AddPoint p z) q (level-put p z q ∙ ap (λ t. cond t (Some z) (level_of c q)) e)
      by_place true e =
          let now : level_of (after c (AddPoint p z)) q ≡ Some z = level-put p z q ∙ ap (λ t. cond t (Some z) (level_of c q)) e in
          let was : level_of c q ≢ Some z = λ same. other (ap (level_of c) (tied_places p q e) ∙ same) in
          sym (ap (λ l. option_map (λ _. cond (is_new_level (level_of c q) l) front (birth (Point q))) l) now ∙ ap (λ t. Some (cond t front (birth (Point q)))) (new_level (level_of c q) z was))

  -- the birth of a point whose level is put to what it is stays
  pub point-same : (p : Coords) (z : ℤ) → level_of c p ≡ Some z → (q : Coords) → point_birth b q ≡ renewed_point c (AddPoint p z) front birth q
  point-same p z same q = point-left (AddPoint p z) q (level-put p z q ∙ by_place (is_at (place_cmp p) q) refl)
    where
      by_place : (t : Bool) → is_at (place_cmp p) q ≡ t → cond t (Some z) (level_of c q) ≡ level_of c q
      by_place false e = refl
      by_place true e = sym (sym (ap (level_of c) (tied_places p q e)) ∙ same)

  -- a point that is removed has no birth any more
  pub point-out : (p : Coords) (points : List (Coords × ℕ)) → ((q : Coords) → lookup (is_at (place_cmp q)) points ≡ cond (is_at (place_cmp p) q) None (point_birth b q))
      → (q : Coords) → lookup (is_at (place_cmp q)) points ≡ renewed_point c (RemovePoint p) front birth q
  point-out p points is q = is q ∙ by_place (is_at (place_cmp p) q) refl
    where
      by_place : (t : Bool) → is_at (place_cmp p) q ≡ t → cond t None (point_birth b q) ≡ renewed_point c (RemovePoint p) front birth q
      by_place false e = point-left (RemovePoint p) q (level-out p q ∙ ap (λ t. cond t None (level_of c q)) e)
      by_place true e = sym (ap (λ l. option_map (λ _. cond (is_new_level (level_of c q) l) front (birth (Point q))) l) (level-out p q ∙ ap (λ t. cond t None (level_of c q)) e))

  -- an edit of a line leaves the points
  pub point-lines : (edit : Edit) → (after c edit).points ≡ c.points → (q : Coords) → point_birth b q ≡ renewed_point c edit front birth q
  point-lines edit same q = point-left edit q (ap (λ m. finmap.get m q) same)

-- a level is set as a point is put
pub set-point : (c : Content) (p : Coords) (z : ℤ) (front : ℕ) (birth : Mark → ℕ) (q : Coords) → renewed_point c (AddPoint p z) front birth q ≡ renewed_point c (SetLevel p z) front birth q
set-point c p z front birth q = ap (λ d. option_map (λ _. cond (is_new_level (level_of c q) (level_of d q)) front (birth (Point q))) (level_of d q)) (set-is-added c p z)

-- edits of lines leave the points
pub line-points : (c : Content) (kind : LineKind) (places : List Coords) → (after c (AddLine kind places)).points ≡ c.points
unfolding after
line-points c kind places = refl

pub unline-points : (c : Content) (id : LineId) → (after c (RemoveLine id)).points ≡ c.points
unfolding after
unline-points c id = refl

-- ---- of the facets

map-members : {X Y : Type 0} {f g : X → Y} (xs : List X) → ((x : X) → In x xs → f x ≡ g x) → map f xs ≡ map g xs
map-members [] h = refl
map-members (x ∷ xs) h = λ i. h x (inl refl) i ∷ map-members xs (λ y k. h y (inr k)) i

-- each of the facets passes its own test
is_facet-member : (c : Content) (f : Facet) → In f (tri c) → is_facet_of c f ≡ true
unfolding is_among
is_facet-member c f i = sym (is_among-tri c f) ∙ any_from (is_same_facet f) (tri c) f i (facet-itself f)

-- the first of some things that pass, where only x passes
first-birth : {X : Type 0} (g : X → ℕ) (test : X → Bool) (x : X) → ((y : X) → test y ≡ true → x ≡ y) → (ys : List X) → option_and_then (slice_get (map g ys)) (position_from test 0 ys) ≡ cond (list_any test ys) (Some (g x)) None
first-birth g test x only [] = refl
first-birth g test x only (y ∷ ys) = by_test (test y) refl (ap (option_and_then (slice_get (map g (y ∷ ys)))) (position-from test 1 ys) ∙ later (position test ys) ∙ ap (option_and_then (slice_get (map g ys))) (position_from-zero test ys) ∙ first-birth g test x only ys)
  where
    later : (o : Option ℕ) → option_and_then (slice_get (g y ∷ map g ys)) (option_map (λ k. k + 1) o) ≡ option_and_then (slice_get (map g ys)) o
    later None = refl
    later (Some k) = ap (slice_get (g y ∷ map g ys)) (plus_one k)
      where
        plus_one : (n : ℕ) → n + 1 ≡ suc n
        plus_one n = omega arith

    by_test : (t : Bool) → test y ≡ t → option_and_then (slice_get (g y ∷ map g ys)) (position_from test 1 ys) ≡ cond (list_any test ys) (Some (g x)) None
        → option_and_then (slice_get (g y ∷ map g ys)) (cond t (Some 0) (position_from test 1 ys)) ≡ cond (t || list_any test ys) (Some (g x)) None
    by_test true e rest = ap (λ z. Some (g z)) (sym (only y e))
    by_test false e rest = rest

module _ (c : Content) (birth : Mark → ℕ) (b : Births) (are : AreBirths c birth b) where
  pub facet-birth : (f : Facet) → facet_birth (tri c) b f ≡ cond (is_facet_of c f) (Some (birth (Tri f))) None
  unfolding is_among
  facet-birth f =
      ap (λ items. option_and_then (slice_get items) (position (is_same_facet f) (tri c))) are.facets
      ∙ ap (option_and_then (slice_get (map (λ g. birth (Tri g)) (tri c)))) (position_from-zero (is_same_facet f) (tri c))
      ∙ first-birth (λ g. birth (Tri g)) (is_same_facet f) f (λ g e. same-facet f g e) (tri c)
      ∙ ap (λ t. cond t (Some (birth (Tri f))) None) (is_among-tri c f)

  -- those of the facets of the content after an edit
  pub facets-renewed : (edit : Edit) (front : ℕ) → map (λ f. unwrap_or (facet_birth (tri c) b f) front) (tri (after c edit)) ≡ map (λ f. renewed c edit front birth (Tri f)) (tri (after c edit))
  facets-renewed edit front = map-members (tri (after c edit)) (λ f i.
      ap (λ o. unwrap_or o front) (facet-birth f)
      ∙ chosen f (is_facet_of c f)
      ∙ ap (λ t. cond (t && not (is_facet_of c f)) front (birth (Tri f))) (sym (is_facet-member (after c edit) f i)))
    where
      chosen : (f : Facet) (t : Bool) → unwrap_or (cond t (Some (birth (Tri f))) None) front ≡ cond (true && not t) front (birth (Tri f))
      chosen f true = refl
      chosen f false = refl

-- the births after an edit
pub births-renewed : (c : Content) (edit : Edit) (front : ℕ) (birth : Mark → ℕ) (old now : Births) → AreBirths c birth old
    → ((p : Coords) → point_birth now p ≡ renewed_point c edit front birth p) → now.facets.items ≡ map (λ f. unwrap_or (facet_birth (tri c) old f) front) (tri (after c edit))
    → AreBirths (after c edit) (renewed c edit front birth) now
births-renewed c edit front birth old now are points facets = record { points = points; facets = facets ∙ facets-renewed c birth old are edit front }

-- ---- of a history with one entry more

pub born-push : (h : List Entry) (x : Entry) (m : Mark) → born (h ++ x ∷ []) m ≡ born_after h x.edit m
unfolding born
born-push h x m =
    ap (born_by (h ++ x ∷ []) m) longer
    ∙ ap (λ t. cond t (suc (length h)) (born_by (h ++ x ∷ []) m (length h))) made
    ∙ (λ i. cond (is_made (content_of h) (after (content_of h) x.edit) m) (next i) (earlier (length h) (omega arith) i))
  where
    longer : length (h ++ x ∷ []) ≡ suc (length h)
    longer = omega (arith, length-append h (x ∷ []))

    next : suc (length h) ≡ length h + 1
    next = omega arith

    made : makes (h ++ x ∷ []) m (length h) ≡ is_made (content_of h) (after (content_of h) x.edit) m
    made = (λ i. is_made (content_of (before i)) (content_of (whole i)) m) ∙ ap (λ c. is_made (content_of h) c m) (content_of-push h x)
      where
        before : take (length h) (h ++ x ∷ []) ≡ h
        before = take-append_seam h (x ∷ [])

        whole : take (suc (length h)) (h ++ x ∷ []) ≡ h ++ x ∷ []
        whole = take_all (suc (length h)) (h ++ x ∷ []) (rw length-append (omega arith))

    earlier : (n : ℕ) → n ≤ length h → born_by (h ++ x ∷ []) m n ≡ born_by h m n
    earlier zero le = refl
    earlier (suc n) le = λ i. cond (is_made (content_of (take-append-le n h (x ∷ []) (omega (arith, le)) i)) (content_of (take-append-le (suc n) h (x ∷ []) le i)) m) (suc n) (earlier n (omega (arith, le)) i)

pub births-push : (h : List Entry) (x : Entry) (b : Births) → AreBirths (after (content_of h) x.edit) (born_after h x.edit) b → AreBirths (content_of (h ++ x ∷ [])) (born (h ++ x ∷ [])) b
births-push h x b are =
    let birth : born (h ++ x ∷ []) ≡ born_after h x.edit = λ i m. born-push h x m i in
    subst (λ c. AreBirths c (born (h ++ x ∷ [])) b) (sym (content_of-push h x)) (subst (λ f. AreBirths (after (content_of h) x.edit) f b) (sym birth) are)

-- whether something that passes has a place
is_some-placed : {X : Type 0} (test : X → Bool) (xs : List X) → is_some (position_from test 0 xs) ≡ list_any test xs
is_some-placed test [] = refl
is_some-placed test (x ∷ xs) = by_test (test x) (ap is_some (position-from test 1 xs) ∙ later (position test xs) ∙ ap is_some (position_from-zero test xs) ∙ is_some-placed test xs)
  where
    later : (o : Option ℕ) → is_some (option_map (λ k. k + 1) o) ≡ is_some o
    later None = refl
    later (Some k) = refl

    by_test : (t : Bool) → is_some (position_from test 1 xs) ≡ list_any test xs → is_some (cond t (Some 0) (position_from test 1 xs)) ≡ (t || list_any test xs)
    by_test true rest = refl
    by_test false rest = rest

-- whether a facet stands among those of a content
pub is_facet-placed : (c : Content) (f : Facet) → is_some (position (is_same_facet f) (tri c)) ≡ is_facet_of c f
unfolding is_among
is_facet-placed c f = ap is_some (position_from-zero (is_same_facet f) (tri c)) ∙ is_some-placed (is_same_facet f) (tri c) ∙ is_among-tri c f
