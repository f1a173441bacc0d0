-- Elements of lists: what a search finds, and what lists made of others hold.
use Rattle.std.proofs.Common.{◌≡◌, ℕ, ◌+◌, ◌<◌, ◌≤◌, arith, Some, None, refl, sym, ap, ◌∙◌, subst, Bool, true, false, [], ◌∷◌, ◌++◌, List, inl, inr, ◌⊎◌, ⊎_elim, cond}
use Rattle.std.specs.Prelude.{map, find, count_by, length, T, ◌&&◌, ◌||◌}
use Rattle.std.specs.List.{All, list_any, list_all, filter, flat_map, position_from, enumerate_from}
use Rattle.std.proofs.lemmas.Bool.{cond-true, cond-false, and_parts, and_from, or_left, or_right, or_from, true≢false, false_from_ne_true}
use Rattle.std.proofs.lemmas.List.Elements.{All-nil, All-cons, All-head, All-tail}
use Rattle.std.proofs.lemmas.List.Sums.{sum_by-cons}
use Rattle.std.specs.Cmp.{IsTotalOrder}
use Rattle.std.specs.declared.cmp.Ordering.{Ordering}
use Rattle.std.specs.declared.cmp.Ordering.TheVariants.{Less, Equal, Greater}
use Rattle.std.specs.Ordering.{is_lt, is_eq, eq_by_cmp, ordering_reverse}
use Rattle.std.specs.FinMap as finmap
use Rattle.std.specs.FinMap.Entries.{below_all}
use Rattle.std.proofs.lemmas.Cmp.{tied_itself}
use Rattle.ground_model.specs.Line.{pairs}

-- x is an element
abbrev pub In : {X : Type 0} → X → List X → Type 0
In x [] = ⊥
In x (y ∷ ys) = (x ≡ y) ⊎ In x ys

pub both_true : (x y : Bool) → (x ≡ true → y ≡ true) → (y ≡ true → x ≡ true) → x ≡ y
both_true true y f g = sym (f refl)
both_true false true f g = g refl
both_true false false f g = refl

module _ {X : Type 0} (test : X → Bool) where
  pub any_gives : (xs : List X) → list_any test xs ≡ true → (x : X) × In x xs × (test x ≡ true)
  any_gives [] h = cc
  any_gives (x ∷ xs) h = by_test (test x) refl h (any_gives xs)
    where
      by_test : (t : Bool) → test x ≡ t → (t || list_any test xs) ≡ true → (list_any test xs ≡ true → (y : X) × In y xs × (test y ≡ true)) → (y : X) × In y (x ∷ xs) × (test y ≡ true)
      by_test true e h rest = (x, inl refl, e)
      by_test false e h rest = let found = rest h in (found.0, inr found.1, found.2)

  pub any_from : (xs : List X) (x : X) → In x xs → test x ≡ true → list_any test xs ≡ true
  any_from [] x i e = absurd i
  any_from (y ∷ ys) x (inl same) e = or_left (test y) (list_any test ys) (sym (ap test same) ∙ e)
  any_from (y ∷ ys) x (inr i) e = or_right (test y) (list_any test ys) (any_from ys x i e)

  pub none_at : (xs : List X) (x : X) → list_any test xs ≡ false → In x xs → test x ≡ false
  none_at xs x e i = false_from_ne_true (test x) (λ h. true≢false (sym (any_from xs x i h) ∙ e))

  pub none_from : (xs : List X) → ((x : X) → In x xs → test x ≡ false) → list_any test xs ≡ false
  none_from [] h = refl
  none_from (x ∷ xs) h = or_from (test x) (list_any test xs) (h x (inl refl)) (none_from xs (λ y i. h y (inr i)))

  pub all_at : (xs : List X) (x : X) → list_all test xs ≡ true → In x xs → test x ≡ true
  all_at [] x e i = absurd i
  all_at (y ∷ ys) x e (inl same) = ap test same ∙ (and_parts (test y) (list_all test ys) e).0
  all_at (y ∷ ys) x e (inr i) = all_at ys x (and_parts (test y) (list_all test ys) e).1 i

  pub all_from : (xs : List X) → ((x : X) → In x xs → test x ≡ true) → list_all test xs ≡ true
  all_from [] h = refl
  all_from (x ∷ xs) h = and_from (test x) (list_all test xs) (h x (inl refl)) (all_from xs (λ y i. h y (inr i)))

  pub of_filter : (xs : List X) (x : X) → In x (filter test xs) → In x xs × (test x ≡ true)
  of_filter [] x i = absurd i
  of_filter (y ∷ ys) x i = by_test (test y) refl i (of_filter ys x)
    where
      by_test : (t : Bool) → test y ≡ t → In x (cond t (y ∷ filter test ys) (filter test ys)) → (In x (filter test ys) → In x ys × (test x ≡ true)) → In x (y ∷ ys) × (test x ≡ true)
      by_test true e (inl same) rest = (inl same, ap test same ∙ e)
      by_test true e (inr i) rest = (inr (rest i).0, (rest i).1)
      by_test false e i rest = (inr (rest i).0, (rest i).1)

  pub in_filter : (xs : List X) (x : X) → In x xs → test x ≡ true → In x (filter test xs)
  in_filter [] x i e = absurd i
  in_filter (y ∷ ys) x (inl same) e = subst (λ t. In x (cond t (y ∷ filter test ys) (filter test ys))) (sym (sym (ap test same) ∙ e)) (inl same)
  in_filter (y ∷ ys) x (inr i) e = by_test (test y) (in_filter ys x i e)
    where
      by_test : (t : Bool) → In x (filter test ys) → In x (cond t (y ∷ filter test ys) (filter test ys))
      by_test true i = inr i
      by_test false i = i

  -- nothing is found where no element passes
  pub none_found : (xs : List X) (x : X) → find test xs ≡ None → In x xs → test x ≡ false
  none_found [] x e i = absurd i
  none_found (y ∷ ys) x e i = by_test (test y) refl e i (none_found ys x)
    where
      by_test : (t : Bool) → test y ≡ t → cond t (Some y) (find test ys) ≡ None → In x (y ∷ ys) → (find test ys ≡ None → In x ys → test x ≡ false) → test x ≡ false
      by_test true f e i rest = cc
      by_test false f e (inl same) rest = ap test same ∙ f
      by_test false f e (inr i) rest = rest e i

  pub none_placed : (n : ℕ) (xs : List X) (x : X) → position_from test n xs ≡ None → In x xs → test x ≡ false
  none_placed n [] x e i = absurd i
  none_placed n (y ∷ ys) x e i = by_test (test y) refl e i (none_placed (n + 1) ys x)
    where
      by_test : (t : Bool) → test y ≡ t → cond t (Some n) (position_from test (n + 1) ys) ≡ None → In x (y ∷ ys) → (position_from test (n + 1) ys ≡ None → In x ys → test x ≡ false) → test x ≡ false
      by_test true f e i rest = cc
      by_test false f e (inl same) rest = ap test same ∙ f
      by_test false f e (inr i) rest = rest e i

  -- a count that isn't 0 counts some element
  pub some_counted : (xs : List X) → 0 < count_by test xs → list_any test xs ≡ true
  some_counted [] lt = absurd (omega (arith, lt))
  some_counted (x ∷ xs) lt = by_test (test x) (omega (arith, lt, sum_by-cons (λ y. cond (test y) 1 0) x xs)) (some_counted xs)
    where
      by_test : (t : Bool) → 0 < cond t 1 0 + count_by test xs → (0 < count_by test xs → list_any test xs ≡ true) → (t || list_any test xs) ≡ true
      by_test true lt rest = refl
      by_test false lt rest = rest (omega (arith, lt))

pub any_agrees : {X : Type 0} (p q : X → Bool) (xs : List X) → ((x : X) → In x xs → p x ≡ q x) → list_any p xs ≡ list_any q xs
any_agrees p q [] h = refl
any_agrees p q (x ∷ xs) h = ap (λ t. t || list_any p xs) (h x (inl refl)) ∙ ap (λ t. q x || t) (any_agrees p q xs (λ y i. h y (inr i)))

-- the order of two searches doesn't matter
pub any_swapped : {X Y : Type 0} (p : X → Y → Bool) (xs : List X) (ys : List Y) → list_any (λ x. list_any (p x) ys) xs ≡ list_any (λ y. list_any (λ x. p x y) xs) ys
any_swapped p xs ys = both_true (list_any (λ x. list_any (p x) ys) xs) (list_any (λ y. list_any (λ x. p x y) xs) ys)
    (λ h. let found = any_gives (λ x. list_any (p x) ys) xs h in
    let also = any_gives (p found.0) ys found.2 in
    any_from (λ y. list_any (λ x. p x y) xs) ys also.0 also.1 (any_from (λ x. p x also.0) xs found.0 found.1 also.2))
    (λ h. let found = any_gives (λ y. list_any (λ x. p x y) xs) ys h in
    let also = any_gives (λ x. p x found.0) xs found.2 in
    any_from (λ x. list_any (p x) ys) xs also.0 also.1 (any_from (p also.0) ys found.0 found.1 also.2))

pub in_append : {X : Type 0} (xs ys : List X) (x : X) → In x (xs ++ ys) → In x xs ⊎ In x ys
in_append [] ys x i = inr i
in_append (y ∷ xs) ys x (inl e) = inl (inl e)
in_append (y ∷ xs) ys x (inr i) = ⊎_elim (λ j. inl (inr j)) (λ j. inr j) (in_append xs ys x i)

pub in_first : {X : Type 0} (xs ys : List X) (x : X) → In x xs → In x (xs ++ ys)
in_first [] ys x i = absurd i
in_first (y ∷ xs) ys x (inl e) = inl e
in_first (y ∷ xs) ys x (inr i) = inr (in_first xs ys x i)

pub in_second : {X : Type 0} (xs ys : List X) (x : X) → In x ys → In x (xs ++ ys)
in_second [] ys x i = i
in_second (y ∷ xs) ys x i = inr (in_second xs ys x i)

pub of_map : {X Y : Type 0} (f : X → Y) (xs : List X) (y : Y) → In y (map f xs) → (x : X) × In x xs × (y ≡ f x)
of_map f [] y i = absurd i
of_map f (x ∷ xs) y (inl e) = (x, inl refl, e)
of_map f (x ∷ xs) y (inr i) = let found = of_map f xs y i in (found.0, inr found.1, found.2)

pub in_map : {X Y : Type 0} (f : X → Y) (xs : List X) (x : X) → In x xs → In (f x) (map f xs)
in_map f [] x i = absurd i
in_map f (y ∷ xs) x (inl e) = inl (ap f e)
in_map f (y ∷ xs) x (inr i) = inr (in_map f xs x i)

pub of_flat_map : {X Y : Type 0} (f : X → List Y) (xs : List X) (y : Y) → In y (flat_map f xs) → (x : X) × In x xs × In y (f x)
of_flat_map f [] y i = absurd i
of_flat_map f (x ∷ xs) y i = ⊎_elim (λ j. (x, inl refl, j)) (λ j. let found = of_flat_map f xs y j in (found.0, inr found.1, found.2)) (in_append (f x) (flat_map f xs) y i)

pub in_flat_map : {X Y : Type 0} (f : X → List Y) (xs : List X) (x : X) (y : Y) → In x xs → In y (f x) → In y (flat_map f xs)
in_flat_map f [] x y i j = absurd i
in_flat_map f (z ∷ xs) x y (inl e) j = in_first (f z) (flat_map f xs) y (subst (λ k. In y (f k)) e j)
in_flat_map f (z ∷ xs) x y (inr i) j = in_second (f z) (flat_map f xs) y (in_flat_map f xs x y i j)

pub of_pairs : {X : Type 0} (xs : List X) (z : X × X) → In z (pairs xs) → In z.0 xs × In z.1 xs
of_pairs xs z i =
    let found = of_flat_map (λ x. map (λ y. (x, y)) xs) xs z i in
    let also = of_map (λ y. (found.0, y)) xs z found.2 in
    (subst (λ k. In k.0 xs) (sym also.2) found.1, subst (λ k. In k.1 xs) (sym also.2) also.1)

pub in_pairs : {X : Type 0} (xs : List X) (x y : X) → In x xs → In y xs → In (x, y) (pairs xs)
in_pairs xs x y i j = in_flat_map (λ a. map (λ b. (a, b)) xs) xs x (x, y) i (in_map (λ b. (x, b)) xs y j)

pub each_at : {X : Type 0} (P : X → Type 0) (xs : List X) (x : X) → All P xs → In x xs → P x
each_at P [] x h i = absurd i
each_at P (y ∷ ys) x h (inl e) = subst P (sym e) (All-head P y ys h)
each_at P (y ∷ ys) x h (inr i) = each_at P ys x (All-tail P y ys h) i

pub each_from : {X : Type 0} (P : X → Type 0) (xs : List X) → ((x : X) → In x xs → P x) → All P xs
each_from P [] h = All-nil P
each_from P (x ∷ xs) h = All-cons P x xs (h x (inl refl)) (each_from P xs (λ y i. h y (inr i)))

-- ---- numbered elements
pub number_of : {X : Type 0} (n : ℕ) (xs : List X) (x : X) → In x xs → (i : ℕ) × In (i, x) (enumerate_from n xs)
number_of n [] x i = absurd i
number_of n (y ∷ ys) x (inl e) = (n, inl (λ k. (n, e k)))
number_of n (y ∷ ys) x (inr i) = let found = number_of (n + 1) ys x i in (found.0, inr found.1)

number_from : {X : Type 0} (n : ℕ) (xs : List X) (z : ℕ × X) → In z (enumerate_from n xs) → n ≤ z.0
number_from n [] z i = absurd i
number_from n (y ∷ ys) z (inl e) = omega (arith, ap (λ k. k.0) e)
number_from n (y ∷ ys) z (inr i) = omega (arith, number_from (n + 1) ys z i)

-- a number is that of one element
pub one_numbered : {X : Type 0} (n : ℕ) (xs : List X) (z w : ℕ × X) → In z (enumerate_from n xs) → In w (enumerate_from n xs) → z.0 ≡ w.0 → z.1 ≡ w.1
one_numbered n [] z w i j e = absurd i
one_numbered n (y ∷ ys) z w (inl f) (inl g) e = ap (λ k. k.1) f ∙ sym (ap (λ k. k.1) g)
one_numbered n (y ∷ ys) z w (inl f) (inr j) e = absurd (omega (arith, e, ap (λ k. k.0) f, number_from (n + 1) ys w j))
one_numbered n (y ∷ ys) z w (inr i) (inl g) e = absurd (omega (arith, e, ap (λ k. k.0) g, number_from (n + 1) ys z i))
one_numbered n (y ∷ ys) z w (inr i) (inr j) e = one_numbered (n + 1) ys z w i j e

-- ---- entries of maps
pub each_of_both : (s t : Bool) → T (s && t) → T s × T t
each_of_both true t h = (tt, h)
each_of_both false t h = absurd h

pub less_of : (r : Ordering) → T (is_lt r) → r ≡ Less
less_of Less h = refl
less_of Equal h = absurd h
less_of Greater h = absurd h

equal_of : (r : Ordering) → is_eq r ≡ true → r ≡ Equal
equal_of Less h = cc
equal_of Equal h = refl
equal_of Greater h = cc

module _ {K V : Type 0} {R : K → K → Ordering} (o : IsTotalOrder R) (same : finmap.IsAntisymmetric R) where
  above : (k : K) (es : List (K × V)) (e : K × V) → T (below_all R k es) → In e es → R k e.0 ≡ Less
  above k [] e h i = absurd i
  above k (f ∷ es) e h (inl is) = ap (λ x. R k x.0) is ∙ less_of (R k f.0) (each_of_both (is_lt (R k f.0)) (below_all R k es) h).0
  above k (f ∷ es) e h (inr i) = above k es e (each_of_both (is_lt (R k f.0)) (below_all R k es) h).1 i

  found_first : (e : K × V) (es : List (K × V)) → T (finmap.is_sorted R es) → In e es → finmap.find R e.0 es ≡ Some e.1
  found_first e [] h i = absurd i
  found_first e (f ∷ es) h (inl is) =
      cond-true (eq_by_cmp R e.0 f.0) (Some f.1) (finmap.find R e.0 es) (ap (λ x. is_eq (R e.0 x.0)) (sym is) ∙ ap is_eq (tied_itself o e.0)) ∙ ap (λ x. Some x.1) (sym is)
  found_first e (f ∷ es) h (inr i) =
      let parts = each_of_both (below_all R f.0 es) (finmap.is_sorted R es) h in
      cond-false (eq_by_cmp R e.0 f.0) (Some f.1) (finmap.find R e.0 es) (ap is_eq (o.antisymm e.0 f.0) ∙ ap (λ r. is_eq (ordering_reverse r)) (above f.0 es e parts.0 i)) ∙ found_first e es parts.1 i

  pub get_of_entry : (m : finmap.FinMap R V) (e : K × V) → In e (finmap.entries m) → finmap.get m e.0 ≡ Some e.1
  get_of_entry m e i = finmap.get-entries m e.0 ∙ found_first e (finmap.entries m) (finmap.entries_sorted m) i

  found_in : (k : K) (v : V) (es : List (K × V)) → finmap.find R k es ≡ Some v → In (k, v) es
  found_in k v [] e = cc
  found_in k v (f ∷ es) e = by_test (eq_by_cmp R k f.0) refl e (found_in k v es)
    where
      by_test : (t : Bool) → eq_by_cmp R k f.0 ≡ t → cond t (Some f.1) (finmap.find R k es) ≡ Some v → (finmap.find R k es ≡ Some v → In (k, v) es) → In (k, v) (f ∷ es)
      by_test true t e rest =
          let value : f.1 ≡ v = cc in
          inl (λ i. (same k f.0 (equal_of (R k f.0) t) i, sym value i))
      by_test false t e rest = inr (rest e)

  pub entry_of_get : (m : finmap.FinMap R V) (k : K) (v : V) → finmap.get m k ≡ Some v → In (k, v) (finmap.entries m)
  entry_of_get m k v e = found_in k v (finmap.entries m) (sym (finmap.get-entries m k) ∙ e)

  -- an entry after an insert is the new one or was one before
  pub entry_of_insert : (m : finmap.FinMap R V) (k : K) (v : V) (e : K × V) → In e (finmap.entries (finmap.insert m k v)) → ((e.0 ≡ k) × (e.1 ≡ v)) ⊎ In e (finmap.entries m)
  entry_of_insert m k v e i = by_test (eq_by_cmp R e.0 k) refl (sym (finmap.get-insert o m k v e.0) ∙ get_of_entry (finmap.insert m k v) e i)
    where
      by_test : (t : Bool) → eq_by_cmp R e.0 k ≡ t → cond t (Some v) (finmap.get m e.0) ≡ Some e.1 → ((e.0 ≡ k) × (e.1 ≡ v)) ⊎ In e (finmap.entries m)
      by_test true t f = let value : e.1 ≡ v = cc in inl (same e.0 k (equal_of (R e.0 k) t), value)
      by_test false t f = inr (entry_of_get m e.0 e.1 f)

  pub entry_of_remove : (m : finmap.FinMap R V) (k : K) (e : K × V) → In e (finmap.entries (finmap.remove m k)) → In e (finmap.entries m)
  entry_of_remove m k e i = by_test (eq_by_cmp R e.0 k) (sym (finmap.get-remove o m k e.0) ∙ get_of_entry (finmap.remove m k) e i)
    where
      by_test : (t : Bool) → cond t None (finmap.get m e.0) ≡ Some e.1 → In e (finmap.entries m)
      by_test true f = cc
      by_test false f = entry_of_get m e.0 e.1 f

pub no_entry : {K V : Type 0} {R : K → K → Ordering} (m : finmap.FinMap R V) → finmap.len m ≡ 0 → (e : K × V) → In e (finmap.entries m) → ⊥
no_entry {K = K} {V = V} m none e i = nothing (finmap.entries m) (sym (finmap.len-entries m) ∙ none) i
  where
    nothing : (es : List (K × V)) → length es ≡ 0 → In e es → ⊥
    nothing [] l i = i
    nothing (f ∷ es) l i = absurd (omega (arith, l))
