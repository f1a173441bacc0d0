-- A list that is put in order is the one list in strict order with its elements.
use Rattle.std.proofs.Common.{◌≡◌, ℕ, zero, suc, ◌+◌, ◌<◌, refl, sym, ap, ◌∙◌, arith, List, [], ◌∷◌, Bool, true, false, cond, length, get_or, inl, inr, ◌⊎◌}
use Rattle.std.specs.Prelude.{All, not}
use Rattle.std.specs.List.{AllPairs, Contains, filter, sum_by}
use Rattle.std.specs.List.Sorted.{IsPermutation, IsSorted, IsStrictlySortedBy}
use Rattle.std.specs.Cmp.{IsTotalOrder}
use Rattle.std.specs.declared.cmp.Ordering.{Ordering}
use Rattle.std.specs.declared.cmp.Ordering.TheVariants.{Less, Equal, Greater}
use Rattle.std.specs.Ordering.{is_lt, ordering_reverse}
use Rattle.std.proofs.lemmas.Bool.{true≢false, cases_order}
use Rattle.std.proofs.lemmas.Cmp.{tied_itself}
use Rattle.std.proofs.lemmas.List.{get_or_default}
use Rattle.std.proofs.lemmas.List.Elements.{All-cons, All-filter, All-head, All-tail, All-contains_itself, All-from_recursion}
use Rattle.std.proofs.lemmas.List.Kept.{IsStrictlySortedBy-filter}
use Rattle.std.proofs.lemmas.List.MinMax.{ranks_by}
use Rattle.std.proofs.lemmas.List.Sorted.{All-permutation, IsPermutation-sym, sorted_far, sum_by-IsPermutation}
use Rattle.std.proofs.lemmas.List.Sums.{sum_by-cons}
use Rattle.std.proofs.lemmas.Map.Keys.{Less-from_sorted, sorted_head, sorted_tail}

-- ---- counts
tally : {X : Type 0} → (X → Bool) → X → ℕ
tally p x = cond (p x) 1 0

count : {X : Type 0} → (X → Bool) → List X → ℕ
count p xs = sum_by (tally p) xs

count-cons : {X : Type 0} (p : X → Bool) (x : X) (xs : List X) → count p (x ∷ xs) ≡ tally p x + count p xs
unfolding count
count-cons p x xs = sum_by-cons (tally p) x xs

count-nil : {X : Type 0} (p : X → Bool) → count p [] ≡ 0
unfolding count
count-nil p = refl

tally_yes : {X : Type 0} (p : X → Bool) (x : X) → p x ≡ true → tally p x ≡ 1
unfolding tally
tally_yes p x h = ap (λ t. cond t 1 0) h

tally_no : {X : Type 0} (p : X → Bool) (x : X) → p x ≡ false → tally p x ≡ 0
unfolding tally
tally_no p x h = ap (λ t. cond t 1 0) h

count_none : {X : Type 0} (p : X → Bool) (xs : List X) → All (λ x. p x ≡ false) xs → count p xs ≡ 0
count_none p [] h = count-nil p
count_none p (x ∷ xs) h =
    let rest = count_none p xs (All-tail (λ x. p x ≡ false) x xs h) in
    omega (arith, count-cons p x xs, tally_no p x (All-head (λ x. p x ≡ false) x xs h), rest)

count-filter : {X : Type 0} (p q : X → Bool) (xs : List X) → count q (filter p xs) ≡ sum_by (λ x. cond (p x) (tally q x) 0) xs
count-filter p q [] = count-nil q
count-filter {X} p q (x ∷ xs) = by_test (p x) refl (count-filter p q xs) ∙ sym (sum_by-cons (λ x. cond (p x) (tally q x) 0) x xs)
  where
    by_test : (t : Bool) → p x ≡ t → count q (filter p xs) ≡ sum_by (λ x. cond (p x) (tally q x) 0) xs → count q (cond t (x ∷ filter p xs) (filter p xs)) ≡ cond t (tally q x) 0 + sum_by (λ x. cond (p x) (tally q x) 0) xs
    by_test true e rest = count-cons q x (filter p xs) ∙ ap (λ n. tally q x + n) rest
    by_test false e rest = rest ∙ omega arith

module _ {X : Type 0} {R : X → X → Ordering} (o : IsTotalOrder R) where
  -- ---- the order
  less_or_not : (a : Ordering) → (is_lt a ≡ false → ⊥) → a ≡ Less
  less_or_not Less h = refl
  less_or_not Equal h = absurd (h refl)
  less_or_not Greater h = absurd (h refl)

  turned : (x y : X) → R x y ≡ Greater → R y x ≡ Less
  turned x y e = o.antisymm y x ∙ ap ordering_reverse e

  -- what is above x is above all that is not above x
  above_next : (k x y : X) → R k x ≡ Less → is_lt (R y x) ≡ false → R k y ≡ Less
  above_next k x y l n = less_or_not (R k y) (λ f. true≢false (ap is_lt (sym l) ∙ (ranks_by o (λ a. a)).chain k y x f n))

  -- elements that tie are one
  IsOne : List X → X → Type 0
  IsOne xs y = (i : ℕ) (d : X) → i < length xs → R (get_or xs i d) y ≡ Equal → get_or xs i d ≡ y

  never : (x y : X) → R x y ≡ Less → R x y ≡ Equal → ⊥
  never x y h k = clash (sym h ∙ k)
    where
      clash : Less ≡ Equal → ⊥
      clash e = true≢false (ap is_lt e)

  each_one : (xs : List X) → IsStrictlySortedBy R xs → All (IsOne xs) xs
  unfolding IsOne
  each_one xs s j e inside i d within tie = by_place (cases_order i j)
    where
      by_place : (i ≡ j) ⊎ ((i < j) ⊎ (j < i)) → get_or xs i d ≡ get_or xs j e
      by_place (inl same) = ap (λ k. get_or xs k d) same ∙ get_or_default xs j d e inside
      by_place (inr (inl lt)) = absurd (never (get_or xs i d) (get_or xs j e) (ap (λ k. R (get_or xs i d) k) (get_or_default xs j e d inside) ∙ Less-from_sorted R xs i j d s lt inside) tie)
      by_place (inr (inr gt)) = absurd (never (get_or xs j e) (get_or xs i d) (ap (λ k. R (get_or xs j e) k) (get_or_default xs i d e within) ∙ Less-from_sorted R xs j i e s gt within) (o.antisymm (get_or xs j e) (get_or xs i d) ∙ ap ordering_reverse tie))

  -- ---- one order
  Ascends : List X → Type 0
  Ascends ys = AllPairs (λ a b. is_lt (R b a) ≡ false) ys

  same_order : (whole xs ys : List X) → All (IsOne whole) ys → All (Contains whole) xs → IsStrictlySortedBy R xs → Ascends ys → ((p : X → Bool) → count p xs ≡ count p ys) → xs ≡ ys
  unfolding Ascends IsOne
  same_order whole [] [] one some s up alike = refl
  same_order whole [] (y ∷ ys) one some s up alike = absurd (omega (arith, alike (λ _. true), count-nil {X = X} (λ _. true), count-cons (λ _. true) y ys, tally_yes (λ _. true) y refl))
  same_order whole (x ∷ xs) [] one some s up alike = absurd (omega (arith, alike (λ _. true), count-nil {X = X} (λ _. true), count-cons (λ _. true) x xs, tally_yes (λ _. true) x refl))
  same_order whole (x ∷ xs) (y ∷ ys) one some s up alike = by_order (R x y) refl (λ fewer. same_order whole xs ys (All-tail (IsOne whole) y ys one) (All-tail (Contains whole) x xs some) (sorted_tail R x xs s) (λ i j d below inside. up (suc i) (suc j) d (omega (arith, below)) (omega (arith, inside))) fewer)
    where
      from_y : All (λ z. is_lt (R z y) ≡ false) ys
      from_y j d inside = up zero (suc j) d (omega arith) (omega (arith, inside))

      from_x : All (λ z. R x z ≡ Less) xs
      from_x = All-from_recursion (λ z. R x z ≡ Less) xs (sorted_head R x xs s)

      -- whether z is not above k
      reaches : X → X → Bool
      reaches k z = not (is_lt (R k z))

      itself : (k : X) → reaches k k ≡ true
      itself k = ap (λ t. not (is_lt t)) (tied_itself o k)

      beyond : (k z : X) → R k z ≡ Less → reaches k z ≡ false
      beyond k z h = ap (λ t. not (is_lt t)) h

      first : Contains whole x → R x y ≡ Equal → x ≡ y
      first there tie = sym there.2 ∙ All-head (IsOne whole) y ys one there.0 x there.1 (ap (λ k. R k y) there.2 ∙ tie)

      fewer : x ≡ y → (p : X → Bool) → count p xs ≡ count p ys
      fewer is p = omega (arith, alike p, count-cons p x xs, count-cons p y ys, ap (tally p) is)

      by_order : (t : Ordering) → R x y ≡ t → (((p : X → Bool) → count p xs ≡ count p ys) → xs ≡ ys) → x ∷ xs ≡ y ∷ ys
      by_order Less e later =
          let none = count_none (reaches x) (y ∷ ys) (All-cons (λ z. reaches x z ≡ false) y ys (beyond x y e) (λ j d inside. beyond x (get_or ys j d) (above_next x y (get_or ys j d) e (from_y j d inside)))) in
          absurd (omega (arith, alike (reaches x), none, count-cons (reaches x) x xs, tally_yes (reaches x) x (itself x)))
      by_order Greater e later =
          let below = turned x y e in
          let none = count_none (reaches y) (x ∷ xs) (All-cons (λ z. reaches y z ≡ false) x xs (beyond y x below) (λ j d inside. beyond y (get_or xs j d) (o.trans y x (get_or xs j d) below (from_x j d inside)))) in
          absurd (omega (arith, alike (reaches y), none, count-cons (reaches y) y ys, tally_yes (reaches y) y (itself y)))
      by_order Equal e later =
          let is : x ≡ y = first (All-head (Contains whole) x xs some) e in
          let rest = later (fewer is) in
          (λ i. is i ∷ rest i)

  -- the elements of xs that pass, put in order, where xs is in strict order and ys has its elements
  pub put_in_order : (p : X → Bool) (xs ys zs : List X) → IsStrictlySortedBy R xs → IsPermutation ys xs → IsPermutation (filter p ys) zs → IsSorted R zs → zs ≡ filter p xs
  unfolding count Ascends
  put_in_order p xs ys zs s swapped ordered up =
      let one = All-permutation (IsOne xs) (filter p ys) zs ordered (All-filter p (IsOne xs) ys (All-permutation (IsOne xs) xs ys (IsPermutation-sym ys xs swapped) (each_one xs s))) in
      sym (same_order xs (filter p xs) zs one (All-filter p (Contains xs) xs (All-contains_itself xs)) (IsStrictlySortedBy-filter R p xs s) ascends alike)
    where
      ascends : Ascends zs
      ascends i j d below inside = sorted_far _ (ranks_by o (λ a. a)) zs up i j d (omega (arith, below)) inside

      alike : (q : X → Bool) → count q (filter p xs) ≡ count q zs
      alike q = count-filter p q xs
          ∙ sum_by-IsPermutation (λ x. cond (p x) (tally q x) 0) ys xs swapped
          ∙ sym (count-filter p q ys)
          ∙ sym (sum_by-IsPermutation (tally q) (filter p ys) zs ordered)
