-- Pieces from one point: they end at the next points on the links over it.
use Rattle.std.proofs.Common.{◌≡◌, refl, sym, ap, ◌∙◌, subst, Bool, true, false, cond, [], ◌∷◌, ◌++◌, List, inl, inr, ◌⊎◌, ⊎_elim}
use Rattle.std.specs.Prelude.{pos, Option, Some, None, not, ◌&&◌, ◌||◌}
use Rattle.std.specs.List.{AllByRecursion, cons_option, filter_map, find, list_any}
use Rattle.std.specs.List.Sorted.{IsStrictlySortedBy}
use Rattle.std.specs.declared.cmp.Ordering.TheVariants.{Less}
use Rattle.std.specs.Ordering.{is_lt, is_eq}
use Rattle.std.proofs.lemmas.Bool.{and_parts, and_from, false_from_ne_true, true_from_ne_false}
use Rattle.std.proofs.lemmas.Bool.Decides.{Decides-int_eq}
use Rattle.ground_model.specs.Place.{Coords, place_cmp, is_before, is_same}
use Rattle.ground_model.specs.Side.{side, orientation, is_on_segment}
use Rattle.ground_model.specs.Line.{Line, Segment, links, has_piece}
use Rattle.ground_model.proofs.Ties.{same_of_is_same}
use Rattle.line_table.specs.Ends.{goes_on, next_on, next_points}
use Rattle.ground_model.proofs.Along.{mean_of_on, collinear_of_on, same_place}
use Rattle.ground_model.proofs.Segments.{not_after, before_trans, on_of_mean}
use Rattle.ground_model.proofs.Parts.{collinear_between, mean_inside}
use Rattle.ground_model.proofs.Elements.{In, both_true, any_gives, any_from, none_at, none_from}
use Rattle.ground_model.proofs.LinePieces.{is_same_itself, IsPiece, piece_of, has_piece_from}

-- ---- points in order

each_in : {X : Type 0} (P : X → Type 0) (xs : List X) (x : X) → AllByRecursion P xs → In x xs → P x
each_in P [] x h i = absurd i
each_in P (y ∷ ys) x h (inl same) = subst P (sym same) h.0
each_in P (y ∷ ys) x h (inr i) = each_in P ys x h.1 i

before_rest : (p : Coords) (later : List Coords) → IsStrictlySortedBy place_cmp (p ∷ later) → (q : Coords) → In q later → is_before p q ≡ true
unfolding IsStrictlySortedBy
before_rest p later h q i = ap is_lt (each_in (λ y. place_cmp p y ≡ Less) later q h.0 i)

sorted_rest : (front rest : List Coords) → IsStrictlySortedBy place_cmp (front ++ rest) → IsStrictlySortedBy place_cmp rest
unfolding IsStrictlySortedBy
sorted_rest [] rest h = h
sorted_rest (x ∷ front) rest h = sorted_rest front rest h.1

sorted_tail : (p : Coords) (later : List Coords) → IsStrictlySortedBy place_cmp (p ∷ later) → IsStrictlySortedBy place_cmp later
unfolding IsStrictlySortedBy
sorted_tail p later h = h.1

in_last : (front : List Coords) (p : Coords) (later : List Coords) → In p (front ++ p ∷ later)
in_last [] p later = inl refl
in_last (x ∷ front) p later = inr (in_last front p later)

in_later : (front : List Coords) (p : Coords) (later : List Coords) (q : Coords) → In q later → In q (front ++ p ∷ later)
in_later [] p later q i = inr i
in_later (x ∷ front) p later q i = inr (in_later front p later q i)

-- no earlier point comes after p
pub earlier_before : (front : List Coords) (p : Coords) (later : List Coords) → IsStrictlySortedBy place_cmp (front ++ p ∷ later) → (x : Coords) → In x front → is_before p x ≡ false
unfolding IsStrictlySortedBy
earlier_before [] p later h x i = absurd i
earlier_before (y ∷ front) p later h x (inl same) = not_after x p (ap (λ k. is_before k p) same ∙ ap is_lt (each_in (λ z. place_cmp y z ≡ Less) (front ++ p ∷ later) p h.0 (in_last front p later)))
earlier_before (y ∷ front) p later h x (inr i) = earlier_before front p later h.1 x i

pub not_itself : (p : Coords) → is_before p p ≡ false
not_itself p = false_from_ne_true (is_before p p) (λ h. let e = not_after p p h in cc)

-- the points after p, of all
pub record IsSplit (points : List Coords) (p : Coords) (later : List Coords) : Type 0 where
  pub here : In p points
  pub all : (q : Coords) → In q later → In q points
  pub after : (q : Coords) → In q later → is_before p q ≡ true
  pub rest : (q : Coords) → In q points → is_before p q ≡ true → In q later
  pub sorted : IsStrictlySortedBy place_cmp later

pub split_of : (front : List Coords) (p : Coords) (later : List Coords) → IsStrictlySortedBy place_cmp (front ++ p ∷ later) → IsSplit (front ++ p ∷ later) p later
split_of front p later h = record {
  here = in_last front p later;
  all = in_later front p later;
  after = before_rest p later (sorted_rest front (p ∷ later) h);
  rest = λ q i b. of_rest front (earlier_before front p later h) q i b;
  sorted = sorted_tail p later (sorted_rest front (p ∷ later) h);
}
  where
    of_rest : (xs : List Coords) → ((x : Coords) → In x xs → is_before p x ≡ false) → (q : Coords) → In q (xs ++ p ∷ later) → is_before p q ≡ true → In q later
    of_rest [] k q (inl same) b = let e = not_itself p in let f = ap (is_before p) same in cc
    of_rest [] k q (inr i) b = i
    of_rest (x ∷ xs) k q (inl same) b = let e = k q (inl same) in cc
    of_rest (x ∷ xs) k q (inr i) b = of_rest xs (λ y j. k y (inr j)) q i b

-- the first point that passes is at or before each that does
found_first : (test : Coords → Bool) (later : List Coords) → IsStrictlySortedBy place_cmp later → (r : Coords) → In r later → test r ≡ true
    → (x : Coords) × (find test later ≡ Some x) × In x later × (test x ≡ true) × ((x ≡ r) ⊎ (is_before x r ≡ true))
found_first test [] h r i e = absurd i
found_first test (y ∷ later) h r i e = by_test (test y) refl i (found_first test later (sorted_tail y later h) r)
  where
    by_test : (t : Bool) → test y ≡ t → In r (y ∷ later)
        → (In r later → test r ≡ true → (x : Coords) × (find test later ≡ Some x) × In x later × (test x ≡ true) × ((x ≡ r) ⊎ (is_before x r ≡ true)))
        → (x : Coords) × (cond (test y) (Some y) (find test later) ≡ Some x) × In x (y ∷ later) × (test x ≡ true) × ((x ≡ r) ⊎ (is_before x r ≡ true))
    by_test true f (inl same) rest = (y, ap (λ b. cond b (Some y) (find test later)) f, inl refl, f, inl (sym same))
    by_test true f (inr j) rest = (y, ap (λ b. cond b (Some y) (find test later)) f, inl refl, f, inr (before_rest y later h r j))
    by_test false f (inl same) rest = let g = ap test same in cc
    by_test false f (inr j) rest = let found = rest j e in (found.0, ap (λ b. cond b (Some y) (find test later)) f ∙ found.1, inr found.2, found.3, found.4)

-- ---- places on one link

on_by : (a b c d e : Bool) → a ≡ true → b ≡ false → c ≡ false → (a && (not b && not c || not d && not e)) ≡ true
on_by true false false d e h k l = refl
on_by true false true d e h k l = cc
on_by true true c d e h k l = cc
on_by false b c d e h k l = cc

-- of three places of a link, the middle one lies between the others
between_on : (u v p q r : Coords) → is_on_segment u v p ≡ true → is_on_segment u v q ≡ true → is_on_segment u v r ≡ true → is_before p r ≡ true → is_before r q ≡ true → is_on_segment p q r ≡ true
between_on u v p q r first last middle after before =
    on_by (is_eq (orientation p q r)) (is_before r p) (is_before q r) (is_before r q) (is_before p r)
    ((Decides-int_eq (side p q r) (pos 0)).1 (collinear_between u v p q (mean_of_on u v p first) (mean_of_on u v q last) r (collinear_of_on u v r middle)))
    (not_after p r after) (not_after r q before)

-- what lies between two places of a link lies on it
pub inside_on : (u v p q r : Coords) → is_on_segment u v p ≡ true → is_on_segment u v q ≡ true → is_on_segment p q r ≡ true → is_on_segment u v r ≡ true
inside_on u v p q r first last between = on_of_mean u v r (mean_inside u v p q (mean_of_on u v p first) (mean_of_on u v q last) r (mean_of_on p q r between))

-- an end of a link comes after each place that has a place of the link after it
end_after : (u v p q : Coords) → is_before p q ≡ true → is_on_segment u v q ≡ true → (is_before p u || is_before p v) ≡ true
end_after u v p q lt on = by_end (is_before p u) (is_before p v) refl refl
  where
    order : (not (is_before q u) && not (is_before v q) || not (is_before q v) && not (is_before u q)) ≡ true
    order = (and_parts (is_eq (orientation u v q)) (not (is_before q u) && not (is_before v q) || not (is_before q v) && not (is_before u q)) on).1

    -- w is at p or before it, and so before q
    beyond : (w : Coords) → is_before p w ≡ false → is_before w q ≡ true
    beyond w e = true_from_ne_false (is_before w q) (λ h. before_all w e h)
      where
        before_all : (w : Coords) → is_before p w ≡ false → is_before w q ≡ false → ⊥
        before_all w e h = by_place (is_before w p) refl
          where
            by_place : (t : Bool) → is_before w p ≡ t → ⊥
            by_place true f = let k = before_trans w p q f lt in cc
            by_place false f = let k = ap (λ x. is_before x q) (same_place p w e f) in cc

    clash : (a b c d : Bool) → (not a && not b || not c && not d) ≡ true → b ≡ true → d ≡ true → ⊥
    clash true b true d h k l = cc
    clash true b false false h k l = cc
    clash true b false true h k l = cc
    clash false true true d h k l = cc
    clash false true false false h k l = cc
    clash false true false true h k l = cc
    clash false false c d h k l = cc

    by_end : (s t : Bool) → is_before p u ≡ s → is_before p v ≡ t → (s || t) ≡ true
    by_end true t e f = refl
    by_end false true e f = refl
    by_end false false e f = absurd (clash (is_before q u) (is_before v q) (is_before q v) (is_before u q) order (beyond v f) (beyond u e))

-- ---- the next points

if_some : {X : Type 0} (b : Bool) (o : Option X) (x : X) → cond b o None ≡ Some x → (b ≡ true) × (o ≡ Some x)
if_some true o x h = (refl, h)
if_some false o x h = cc

in_filter_map : {X Y : Type 0} (f : X → Option Y) (xs : List X) (x : X) (y : Y) → In x xs → f x ≡ Some y → In y (filter_map f xs)
in_filter_map f [] x y i e = absurd i
in_filter_map f (z ∷ xs) x y (inl same) e = subst (λ o. In y (cons_option o (filter_map f xs))) (sym (sym (ap f same) ∙ e)) (inl refl)
in_filter_map {Y = Y} f (z ∷ xs) x y (inr i) e = later (f z) (in_filter_map f xs x y i e)
  where
    later : (o : Option Y) → In y (filter_map f xs) → In y (cons_option o (filter_map f xs))
    later None j = j
    later (Some w) j = inr j

of_filter_map : {X Y : Type 0} (f : X → Option Y) (xs : List X) (y : Y) → In y (filter_map f xs) → (x : X) × In x xs × (f x ≡ Some y)
of_filter_map f [] y i = absurd i
of_filter_map {X = X} {Y = Y} f (z ∷ xs) y i = by_image (f z) refl i (of_filter_map f xs y)
  where
    by_image : (o : Option Y) → f z ≡ o → In y (cons_option o (filter_map f xs)) → (In y (filter_map f xs) → (x : X) × In x xs × (f x ≡ Some y)) → (x : X) × In x (z ∷ xs) × (f x ≡ Some y)
    by_image None e i rest = let found = rest i in (found.0, inr found.1, found.2)
    by_image (Some w) e (inl same) rest = (z, inl refl, e ∙ ap Some (sym same))
    by_image (Some w) e (inr i) rest = let found = rest i in (found.0, inr found.1, found.2)

some_of : {X : Type 0} (x y : X) → Some x ≡ Some y → x ≡ y
some_of x y e = cc

module _ (points : List Coords) (p : Coords) (later : List Coords) (split : IsSplit points p later) (line : Line) (q : Coords) (i : In q later) where
  ends_there : has_piece points line p q ≡ true → list_any (is_same q) (next_points later p line) ≡ true
  unfolding next_points
  ends_there h =
      let w = piece_of points line p q h in
      any_from (is_same q) (filter_map (next_on later p) (links line)) q
      (in_filter_map (next_on later p) (links line) w.link q w.of
      (ap (λ b. cond b (find (is_on_segment w.link.0 w.link.1) later) None) (and_from (is_before p w.link.0 || is_before p w.link.1) (is_on_segment w.link.0 w.link.1 p) (end_after w.link.0 w.link.1 p q w.before w.last_on) w.first_on) ∙ is_next w))
      (is_same_itself q)
    where
      is_next : (w : IsPiece points line p q) → find (is_on_segment w.link.0 w.link.1) later ≡ Some q
      is_next w = by_order (found_first (is_on_segment w.link.0 w.link.1) later split.sorted q i w.last_on)
        where
          by_order : (x : Coords) × (find (is_on_segment w.link.0 w.link.1) later ≡ Some x) × In x later × (is_on_segment w.link.0 w.link.1 x ≡ true) × ((x ≡ q) ⊎ (is_before x q ≡ true)) → find (is_on_segment w.link.0 w.link.1) later ≡ Some q
          by_order found = ⊎_elim (λ same. found.1 ∙ ap Some same) (λ before. absurd (stopped found.0 found.2 found.3 before)) found.4
            where
              stopped : (x : Coords) → In x later → is_on_segment w.link.0 w.link.1 x ≡ true → is_before x q ≡ true → ⊥
              stopped x j on before =
                  let none = none_at (λ r. is_on_segment p q r && is_before p r && is_before r q) points x w.clear (split.all x j) in
                  let some = and_from (is_on_segment p q x && is_before p x) (is_before x q) (and_from (is_on_segment p q x) (is_before p x) (between_on w.link.0 w.link.1 p q x w.first_on w.last_on on (split.after x j) before) (split.after x j)) before in
                  cc

  comes_next : list_any (is_same q) (next_points later p line) ≡ true → has_piece points line p q ≡ true
  unfolding next_points
  comes_next h =
      let found = any_gives (is_same q) (filter_map (next_on later p) (links line)) h in
      let of = of_filter_map (next_on later p) (links line) found.0 found.1 in
      let is = if_some (goes_on p of.0) (find (is_on_segment of.0.0 of.0.1) later) found.0 of.2 in
      from_link of.0 of.1 (and_parts (is_before p of.0.0 || is_before p of.0.1) (is_on_segment of.0.0 of.0.1 p) is.0).1 (is.1 ∙ ap Some (sym (same_of_is_same q found.0 found.2)))
    where
      passes : (test : Coords → Bool) (xs : List Coords) (x : Coords) → find test xs ≡ Some x → test x ≡ true
      passes test [] x e = cc
      passes test (y ∷ ys) x e = by_test (test y) refl e (passes test ys x)
        where
          by_test : (t : Bool) → test y ≡ t → cond t (Some y) (find test ys) ≡ Some x → (find test ys ≡ Some x → test x ≡ true) → test x ≡ true
          by_test true f e rest = ap test (sym (some_of y x e)) ∙ f
          by_test false f e rest = rest e

      from_link : (link : Segment) → In link (links line) → is_on_segment link.0 link.1 p ≡ true → find (is_on_segment link.0 link.1) later ≡ Some q → has_piece points line p q ≡ true
      from_link link of first next = has_piece_from points line p q (record {
        before = split.after q i;
        first = split.here;
        last = split.all q i;
        clear = none_from (λ r. is_on_segment p q r && is_before p r && is_before r q) points (λ r j. false_from_ne_true _ (none r j));
        link = link;
        of = of;
        first_on = first;
        last_on = last;
      })
        where
          last : is_on_segment link.0 link.1 q ≡ true
          last = passes (is_on_segment link.0 link.1) later q next

          none : (r : Coords) → In r points → (is_on_segment p q r && is_before p r && is_before r q) ≡ true → ⊥
          none r j h =
              let b = and_parts (is_on_segment p q r && is_before p r) (is_before r q) h in
              let a = and_parts (is_on_segment p q r) (is_before p r) b.0 in
              let found = found_first (is_on_segment link.0 link.1) later split.sorted r (split.rest r j a.1) (inside_on link.0 link.1 p q r first last a.0) in
              let same = some_of q found.0 (sym next ∙ found.1) in
              let back = not_after r q b.1 in
              ⊎_elim (λ e. let f = not_itself r in let g = ap (λ k. is_before r k) (same ∙ e) in let k = b.1 in cc) (λ e. let g = ap (λ k. is_before k r) same in cc) found.4

  -- the line has a piece from p to a later point exactly where that is the next point on a link over p
  pub piece_next : has_piece points line p q ≡ list_any (is_same q) (next_points later p line)
  piece_next = both_true (has_piece points line p q) (list_any (is_same q) (next_points later p line)) ends_there comes_next

-- the next points are among the later ones
pub next_later : (later : List Coords) (p : Coords) (line : Line) (q : Coords) → list_any (is_same q) (next_points later p line) ≡ true → In q later
unfolding next_points
next_later later p line q h =
    let found = any_gives (is_same q) (filter_map (next_on later p) (links line)) h in
    let of = of_filter_map (next_on later p) (links line) found.0 found.1 in
    let is = if_some (goes_on p of.0) (find (is_on_segment of.0.0 of.0.1) later) found.0 of.2 in
    subst (λ x. In x later) (sym (same_of_is_same q found.0 found.2)) (in_find (is_on_segment of.0.0 of.0.1) later found.0 is.1)
  where
    in_find : (test : Coords → Bool) (xs : List Coords) (x : Coords) → find test xs ≡ Some x → In x xs
    in_find test [] x e = cc
    in_find test (y ∷ ys) x e = by_test (test y) e (in_find test ys x)
      where
        by_test : (t : Bool) → cond t (Some y) (find test ys) ≡ Some x → (find test ys ≡ Some x → In x ys) → In x (y ∷ ys)
        by_test true e rest = inl (sym (some_of y x e))
        by_test false e rest = inr (rest e)

-- ---- two lists in order with equal elements

pub is_first : (x : Coords) (xs : List Coords) → IsStrictlySortedBy place_cmp (x ∷ xs) → (q : Coords) → In q xs → is_before x q ≡ true
is_first x xs h q i = before_rest x xs h q i

pub in_order_after : (x : Coords) (xs : List Coords) → IsStrictlySortedBy place_cmp (x ∷ xs) → IsStrictlySortedBy place_cmp xs
in_order_after x xs h = sorted_tail x xs h
