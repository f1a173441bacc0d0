-- An index in order, and the finite map that its pairs make.
use Rattle.std.proofs.Common.{◌≡◌, ◌≢◌, ℕ, ◌<◌, ◌≤◌, List, [], ◌∷◌, ◌++◌, nat_eq, nat_lt, Bool, true, false, cond, filter, Some, None, refl, sym, ap, ◌∙◌, subst, arith, inl, inr, append-nil}
use Rattle.std.specs.Prelude.{T, ◌&&◌}
use Rattle.std.specs.Ordering.{nat_cmp, is_eq, is_lt}
use Rattle.std.specs.Cmp.{nat_cmp_is}
use Rattle.std.specs.declared.cmp.Ordering.{Ordering}
use Rattle.std.specs.declared.cmp.Ordering.TheVariants.{Less, Equal, Greater}
use Rattle.std.specs.FinMap as finmap
use Rattle.std.specs.FinMap.Entries.{below_all as first_below_all}
use Rattle.std.specs.BTreeMap.{is_at}
use Rattle.std.specs.Map.{lookup, remove_entry}
use Rattle.std.proofs.lemmas.Bool.{cases_lt, cases_eq}
use Rattle.page_index.specs.Pairs.{Pairs, AreBelow, AreAbove, IsInOrder, above, below, put, value_of, without}
use Rattle.page_index.proofs.Order.{above_all, above_lower, above_none, above_is, below_all, below_higher, below_is, below_none, eq_false, eq_true, lt_false, lt_true}
use Rattle.page_index.proofs.Around.{value_after, value_before, value_none}

-- whether an entry is at a key
at_is : (q k : ℕ) → is_at (nat_cmp q) k ≡ nat_eq k q
at_is q k = elim (cases_lt q k) as (λ _. is_at (nat_cmp q) k ≡ nat_eq k q) [
  | inl lt ↦ ap is_eq (sym (nat_cmp_is q k Less lt)) ∙ sym (eq_false k q (λ e. omega (arith, e, lt)))
  | inr le ↦ elim (cases_eq q k) as (λ _. is_at (nat_cmp q) k ≡ nat_eq k q) [
    | inl e ↦ ap is_eq (sym (nat_cmp_is q k Equal e)) ∙ sym (eq_true k q (sym e))
    | inr ne ↦ ap is_eq (sym (nat_cmp_is q k Greater (omega (arith, le, ne)))) ∙ sym (eq_false k q (λ e. ne (sym e)))
  ]
]

both_of : (s t : Bool) → T s → T t → T (s && t)
both_of true t h k = k
both_of false t h k = absurd h

left_of : (s t : Bool) → T (s && t) → T s
left_of true t h = tt
left_of false t h = h

right_of : (s t : Bool) → T (s && t) → T t
right_of true t h = h
right_of false t h = absurd h

lt_of : (x y : ℕ) → x < y → T (is_lt (nat_cmp x y))
lt_of x y h = subst (λ o. T (is_lt o)) (nat_cmp_is x y Less h) tt

of_lt : (x y : ℕ) → T (is_lt (nat_cmp x y)) → x < y
of_lt x y h = elim (cases_lt x y) as (λ _. x < y) [
  | inl lt ↦ lt
  | inr le ↦ elim (cases_eq x y) as (λ _. x < y) [
    | inl e ↦ absurd (subst (λ o. T (is_lt o)) (sym (nat_cmp_is x y Equal e)) h)
    | inr ne ↦ absurd (subst (λ o. T (is_lt o)) (sym (nat_cmp_is x y Greater (omega (arith, le, ne)))) h)
  ]
]

-- ---- the order

to_below : {V : Type 0} → (x : ℕ) (xs : Pairs V) → AreAbove x xs → T (first_below_all nat_cmp x xs)
to_below x [] h = tt
to_below x (p ∷ xs) h = both_of (is_lt (nat_cmp x p.0)) (first_below_all nat_cmp x xs) (lt_of x p.0 h.0) (to_below x xs h.1)

of_below : {V : Type 0} → (x : ℕ) (xs : Pairs V) → T (first_below_all nat_cmp x xs) → AreAbove x xs
of_below x [] h = tt
of_below x (p ∷ xs) h = (of_lt x p.0 (left_of (is_lt (nat_cmp x p.0)) (first_below_all nat_cmp x xs) h), of_below x xs (right_of (is_lt (nat_cmp x p.0)) (first_below_all nat_cmp x xs) h))

pub sorted_is : {V : Type 0} → (xs : Pairs V) → IsInOrder xs → T (finmap.is_sorted nat_cmp xs)
sorted_is [] h = tt
sorted_is (p ∷ xs) h = both_of (first_below_all nat_cmp p.0 xs) (finmap.is_sorted nat_cmp xs) (to_below p.0 xs h.0) (sorted_is xs h.1)

pub in_order_is : {V : Type 0} → (xs : Pairs V) → T (finmap.is_sorted nat_cmp xs) → IsInOrder xs
in_order_is [] h = tt
in_order_is (p ∷ xs) h = (of_below p.0 xs (left_of (first_below_all nat_cmp p.0 xs) (finmap.is_sorted nat_cmp xs) h), in_order_is xs (right_of (first_below_all nat_cmp p.0 xs) (finmap.is_sorted nat_cmp xs) h))

-- ---- values

pub value_is : {V : Type 0} → (q : ℕ) (xs : Pairs V) → value_of q xs ≡ lookup (is_at (nat_cmp q)) xs
value_is q [] = refl
value_is q (p ∷ xs) = ap (λ b. cond b (Some p.1) (value_of q xs)) (sym (at_is q p.0)) ∙ ap (λ r. cond (is_at (nat_cmp q) p.0) (Some p.1) r) (value_is q xs)

-- a filter that keeps the pairs of a key keeps its value
value_filter : {V : Type 0} → (q : ℕ) (t : ℕ × V → Bool) → ((p : ℕ × V) → p.0 ≡ q → t p ≡ true) → (xs : Pairs V) → value_of q (filter t xs) ≡ value_of q xs
value_filter q t h [] = refl
value_filter q t h (p ∷ xs) = elim (cases_eq p.0 q) as (λ _. value_of q (filter t (p ∷ xs)) ≡ value_of q (p ∷ xs)) [
  | inl e ↦ ap (λ b. value_of q (cond b (p ∷ filter t xs) (filter t xs))) (h p e) ∙ ap (λ r. cond (nat_eq p.0 q) (Some p.1) r) (value_filter q t h xs)
  | inr ne ↦ passed (t p) ne ∙ value_filter q t h xs ∙ sym (ap (λ b. cond b (Some p.1) (value_of q xs)) (eq_false p.0 q ne))
]
  where
    passed : (b : Bool) → p.0 ≢ q → value_of q (cond b (p ∷ filter t xs) (filter t xs)) ≡ value_of q (filter t xs)
    passed true ne = ap (λ b. cond b (Some p.1) (value_of q (filter t xs))) (eq_false p.0 q ne)
    passed false ne = refl

-- the value of each key, once one has another
pub value_put : {V : Type 0} → (k : ℕ) (v : V) (xs : Pairs V) (q : ℕ) → value_of q (put k v xs) ≡ cond (nat_eq q k) (Some v) (value_of q xs)
value_put k v xs q = elim (cases_lt q k) as (λ _. value_of q (put k v xs) ≡ cond (nat_eq q k) (Some v) (value_of q xs)) [
  | inl lt ↦
      value_before q (below k xs) ((k, v) ∷ above k xs) (lt, above_lower q k (above k xs) (omega (arith, lt)) (above_is k xs))
      ∙ value_filter q (λ p. nat_lt p.0 k) (λ p e. lt_true p.0 k (omega (arith, e, lt))) xs
      ∙ sym (ap (λ b. cond b (Some v) (value_of q xs)) (eq_false q k (λ e. omega (arith, e, lt))))
  | inr le ↦
      let front = value_after q (below k xs) ((k, v) ∷ above k xs) (below_higher k q (below k xs) le (below_is k xs)) in
      elim (cases_eq k q) as (λ _. value_of q (put k v xs) ≡ cond (nat_eq q k) (Some v) (value_of q xs)) [
        | inl e ↦ front ∙ ap (λ b. cond b (Some v) (value_of q (above k xs))) (eq_true k q e) ∙ sym (ap (λ b. cond b (Some v) (value_of q xs)) (eq_true q k (sym e)))
        | inr ne ↦
            front ∙ ap (λ b. cond b (Some v) (value_of q (above k xs))) (eq_false k q ne)
            ∙ value_filter q (λ p. nat_lt k p.0) (λ p e. lt_true k p.0 (omega (arith, e, le, ne))) xs
            ∙ sym (ap (λ b. cond b (Some v) (value_of q xs)) (eq_false q k (λ e. ne (sym e))))
      ]
]

-- the value of each key, once one is taken out
pub value_without : {V : Type 0} → (k : ℕ) (xs : Pairs V) (q : ℕ) → value_of q (without k xs) ≡ cond (nat_eq q k) None (value_of q xs)
value_without k xs q = elim (cases_lt q k) as (λ _. value_of q (without k xs) ≡ cond (nat_eq q k) None (value_of q xs)) [
  | inl lt ↦
      value_before q (below k xs) (above k xs) (above_lower q k (above k xs) (omega (arith, lt)) (above_is k xs))
      ∙ value_filter q (λ p. nat_lt p.0 k) (λ p e. lt_true p.0 k (omega (arith, e, lt))) xs
      ∙ sym (ap (λ b. cond b None (value_of q xs)) (eq_false q k (λ e. omega (arith, e, lt))))
  | inr le ↦
      let front = value_after q (below k xs) (above k xs) (below_higher k q (below k xs) le (below_is k xs)) in
      elim (cases_eq k q) as (λ _. value_of q (without k xs) ≡ cond (nat_eq q k) None (value_of q xs)) [
        | inl e ↦
            front ∙ value_none q (above k xs) (above_lower q k (above k xs) (omega (arith, e)) (above_is k xs))
            ∙ sym (ap (λ b. cond b None (value_of q xs)) (eq_true q k (sym e)))
        | inr ne ↦
            front ∙ value_filter q (λ p. nat_lt k p.0) (λ p e. lt_true k p.0 (omega (arith, e, le, ne))) xs
            ∙ sym (ap (λ b. cond b None (value_of q xs)) (eq_false q k (λ e. ne (sym e))))
      ]
]

-- the same of the entries of a map
pub lookup_put : {V : Type 0} → (k : ℕ) (v : V) (xs : Pairs V) (q : ℕ) → lookup (is_at (nat_cmp q)) (put k v xs) ≡ cond (is_at (nat_cmp k) q) (Some v) (lookup (is_at (nat_cmp q)) xs)
lookup_put k v xs q =
    sym (value_is q (put k v xs)) ∙ value_put k v xs q ∙ ap (λ b. cond b (Some v) (value_of q xs)) (sym (at_is k q))
    ∙ ap (λ r. cond (is_at (nat_cmp k) q) (Some v) r) (value_is q xs)

pub lookup_without : {V : Type 0} → (k : ℕ) (xs : Pairs V) (q : ℕ) → lookup (is_at (nat_cmp q)) (without k xs) ≡ cond (is_at (nat_cmp k) q) None (lookup (is_at (nat_cmp q)) xs)
lookup_without k xs q =
    sym (value_is q (without k xs)) ∙ value_without k xs q ∙ ap (λ b. cond b None (value_of q xs)) (sym (at_is k q))
    ∙ ap (λ r. cond (is_at (nat_cmp k) q) None r) (value_is q xs)

-- ---- the pairs

pub put_last : {V : Type 0} → (k : ℕ) (v : V) (xs : Pairs V) → AreBelow k xs → put k v xs ≡ xs ++ (k, v) ∷ []
put_last k v xs h = ap (λ r. r ++ (k, v) ∷ above k xs) (below_all k xs h) ∙ ap (λ r. xs ++ (k, v) ∷ r) (above_none k xs h)

pub without_is : {V : Type 0} → (k : ℕ) (xs : Pairs V) → IsInOrder xs → without k xs ≡ remove_entry (is_at (nat_cmp k)) xs
without_is k [] order = refl
without_is k (p ∷ xs) order = elim (cases_lt p.0 k) as (λ _. without k (p ∷ xs) ≡ remove_entry (is_at (nat_cmp k)) (p ∷ xs)) [
  | inl lt ↦
      ap (λ b. cond b (p ∷ below k xs) (below k xs) ++ above k (p ∷ xs)) (lt_true p.0 k lt)
      ∙ ap (λ b. p ∷ (below k xs ++ cond b (p ∷ above k xs) (above k xs))) (lt_false k p.0 (omega (arith, lt)))
      ∙ ap (λ r. p ∷ r) (without_is k xs order.1)
      ∙ sym (ap (λ b. cond b xs (p ∷ remove_entry (is_at (nat_cmp k)) xs)) (at_is k p.0 ∙ eq_false p.0 k (λ e. omega (arith, e, lt))))
  | inr le ↦ elim (cases_eq p.0 k) as (λ _. without k (p ∷ xs) ≡ remove_entry (is_at (nat_cmp k)) (p ∷ xs)) [
    | inl e ↦
        let all : AreAbove k xs = above_lower k p.0 xs (omega (arith, e)) order.0 in
        ap (λ b. cond b (p ∷ below k xs) (below k xs) ++ above k (p ∷ xs)) (lt_false p.0 k (omega (arith, e)))
        ∙ ap (λ b. below k xs ++ cond b (p ∷ above k xs) (above k xs)) (lt_false k p.0 (omega (arith, e)))
        ∙ ap (λ r. r ++ above k xs) (below_none k xs all) ∙ above_all k xs all
        ∙ sym (ap (λ b. cond b xs (p ∷ remove_entry (is_at (nat_cmp k)) xs)) (at_is k p.0 ∙ eq_true p.0 k e))
    | inr ne ↦
        let all : AreAbove k (p ∷ xs) = (omega (arith, le, ne), above_lower k p.0 xs (omega (arith, le)) order.0) in
        let rest : xs ≡ remove_entry (is_at (nat_cmp k)) xs = sym (ap (λ r. r ++ above k xs) (below_none k xs all.1) ∙ above_all k xs all.1) ∙ without_is k xs order.1 in
        ap (λ r. r ++ above k (p ∷ xs)) (below_none k (p ∷ xs) all) ∙ above_all k (p ∷ xs) all ∙ ap (λ r. p ∷ r) rest
        ∙ sym (ap (λ b. cond b xs (p ∷ remove_entry (is_at (nat_cmp k)) xs)) (at_is k p.0 ∙ eq_false p.0 k ne))
  ]
]
