-- Pairs in order: what a filter keeps of them, and joins and cuts of their lists.
use Rattle.std.proofs.Common.{◌≡◌, ℕ, ◌+◌, ◌<◌, ◌≤◌, ◌≢◌, [], ◌∷◌, ◌++◌, length, filter, nat_eq, nat_lt, nat_le, Bool, true, false, cond, refl, sym, ap, ◌∙◌, arith, length-append, true≢false, IsSome, Some, None, is_some, inl, inr, ◌⊎◌}
use Rattle.std.proofs.lemmas.Bool.{cases_lt, cases_eq}
use Rattle.std.proofs.lemmas.Bool.Decides.{nat_tests}
use Rattle.page_index.specs.Pairs.{Pairs, Each, AreBelow, AreAbove, AreFrom, IsInOrder, below, above, from_on, put, value_of, without}

pub lt_true : (a b : ℕ) → a < b → nat_lt a b ≡ true
lt_true a b h = grind (arith, nat_tests)

pub lt_false : (a b : ℕ) → b ≤ a → nat_lt a b ≡ false
lt_false a b h = grind (arith, nat_tests)

pub le_true : (a b : ℕ) → a ≤ b → nat_le a b ≡ true
le_true a b h = grind (arith, nat_tests)

pub le_false : (a b : ℕ) → b < a → nat_le a b ≡ false
le_false a b h = grind (arith, nat_tests)

pub eq_true : (a b : ℕ) → a ≡ b → nat_eq a b ≡ true
eq_true a b h = grind (arith, nat_tests)

pub eq_false : (a b : ℕ) → a ≢ b → nat_eq a b ≡ false
eq_false a b h = grind (arith, nat_tests)

true_lt : (a b : ℕ) → nat_lt a b ≡ true → a < b
true_lt a b h = grind (arith, nat_tests)

pub each-append : {V : Type 0} → (P : ℕ × V → Type 0) (xs ys : Pairs V) → Each P xs → Each P ys → Each P (xs ++ ys)
each-append P [] ys h k = k
each-append P (p ∷ xs) ys h k = (h.0, each-append P xs ys h.1 k)

pub each_left : {V : Type 0} → (P : ℕ × V → Type 0) (xs ys : Pairs V) → Each P (xs ++ ys) → Each P xs
each_left P [] ys h = tt
each_left P (p ∷ xs) ys h = (h.0, each_left P xs ys h.1)

pub each_right : {V : Type 0} → (P : ℕ × V → Type 0) (xs ys : Pairs V) → Each P (xs ++ ys) → Each P ys
each_right P [] ys h = h
each_right P (p ∷ xs) ys h = each_right P xs ys h.1

pub each_as : {V : Type 0} → (P Q : ℕ × V → Type 0) → ((p : ℕ × V) → P p → Q p) → (xs : Pairs V) → Each P xs → Each Q xs
each_as P Q to [] h = tt
each_as P Q to (p ∷ xs) h = (to p h.0, each_as P Q to xs h.1)

pub all_kept : {V : Type 0} → (t : ℕ × V → Bool) (xs : Pairs V) → Each (λ p. t p ≡ true) xs → filter t xs ≡ xs
all_kept t [] h = refl
all_kept t (p ∷ xs) h = ap (λ b. cond b (p ∷ filter t xs) (filter t xs)) h.0 ∙ ap (λ r. p ∷ r) (all_kept t xs h.1)

pub none_kept : {V : Type 0} → (t : ℕ × V → Bool) (xs : Pairs V) → Each (λ p. t p ≡ false) xs → filter t xs ≡ []
none_kept t [] h = refl
none_kept t (p ∷ xs) h = ap (λ b. cond b (p ∷ filter t xs) (filter t xs)) h.0 ∙ none_kept t xs h.1

pub below_all : {V : Type 0} → (key : ℕ) (xs : Pairs V) → AreBelow key xs → below key xs ≡ xs
below_all key xs h = all_kept (λ p. nat_lt p.0 key) xs (each_as (λ p. p.0 < key) (λ p. nat_lt p.0 key ≡ true) (λ p i. lt_true p.0 key i) xs h)

pub below_none : {V : Type 0} → (key : ℕ) (xs : Pairs V) → AreAbove key xs → below key xs ≡ []
below_none key xs h = none_kept (λ p. nat_lt p.0 key) xs (each_as (λ p. key < p.0) (λ p. nat_lt p.0 key ≡ false) (λ p i. lt_false p.0 key (omega (arith, i))) xs h)

pub above_all : {V : Type 0} → (key : ℕ) (xs : Pairs V) → AreAbove key xs → above key xs ≡ xs
above_all key xs h = all_kept (λ p. nat_lt key p.0) xs (each_as (λ p. key < p.0) (λ p. nat_lt key p.0 ≡ true) (λ p i. lt_true key p.0 i) xs h)

pub above_none : {V : Type 0} → (key : ℕ) (xs : Pairs V) → AreBelow key xs → above key xs ≡ []
above_none key xs h = none_kept (λ p. nat_lt key p.0) xs (each_as (λ p. p.0 < key) (λ p. nat_lt key p.0 ≡ false) (λ p i. lt_false key p.0 (omega (arith, i))) xs h)

pub from_all : {V : Type 0} → (key : ℕ) (xs : Pairs V) → AreFrom key xs → from_on key xs ≡ xs
from_all key xs h = all_kept (λ p. nat_le key p.0) xs (each_as (λ p. key ≤ p.0) (λ p. nat_le key p.0 ≡ true) (λ p i. le_true key p.0 i) xs h)

pub from_none : {V : Type 0} → (key : ℕ) (xs : Pairs V) → AreBelow key xs → from_on key xs ≡ []
from_none key xs h = none_kept (λ p. nat_le key p.0) xs (each_as (λ p. p.0 < key) (λ p. nat_le key p.0 ≡ false) (λ p i. le_false key p.0 i) xs h)

pub from_above : {V : Type 0} → (key : ℕ) (xs : Pairs V) → AreAbove key xs → AreFrom key xs
from_above key xs h = each_as (λ p. key < p.0) (λ p. key ≤ p.0) (λ p i. omega (arith, i)) xs h

-- above a key is above a lower one
pub above_lower : {V : Type 0} → (low key : ℕ) (xs : Pairs V) → low ≤ key → AreAbove key xs → AreAbove low xs
above_lower low key xs le h = each_as (λ p. key < p.0) (λ p. low < p.0) (λ p i. omega (arith, i, le)) xs h

-- below a key is below a higher one
pub below_higher : {V : Type 0} → (key high : ℕ) (xs : Pairs V) → key ≤ high → AreBelow key xs → AreBelow high xs
below_higher key high xs le h = each_as (λ p. p.0 < key) (λ p. p.0 < high) (λ p i. omega (arith, i, le)) xs h

pub order_left : {V : Type 0} → (xs ys : Pairs V) → IsInOrder (xs ++ ys) → IsInOrder xs
order_left [] ys h = tt
order_left (p ∷ xs) ys h = (each_left (λ q. p.0 < q.0) xs ys h.0, order_left xs ys h.1)

pub order_right : {V : Type 0} → (xs ys : Pairs V) → IsInOrder (xs ++ ys) → IsInOrder ys
order_right [] ys h = h
order_right (p ∷ xs) ys h = order_right xs ys h.1

-- those before a pair are below its key
pub order_before : {V : Type 0} → (xs : Pairs V) (p : ℕ × V) (ys : Pairs V) → IsInOrder (xs ++ p ∷ ys) → AreBelow p.0 xs
order_before [] p ys h = tt
order_before (x ∷ xs) p ys h = ((each_right (λ q. x.0 < q.0) xs (p ∷ ys) h.0).0, order_before xs p ys h.1)

pub order_join : {V : Type 0} → (key : ℕ) (xs ys : Pairs V) → IsInOrder xs → IsInOrder ys → AreBelow key xs → AreFrom key ys → IsInOrder (xs ++ ys)
order_join key [] ys hx hy lo hi = hy
order_join key (x ∷ xs) ys hx hy lo hi = (
  each-append (λ q. x.0 < q.0) xs ys hx.0 (each_as (λ q. key ≤ q.0) (λ q. x.0 < q.0) (λ q i. omega (arith, i, lo.0)) ys hi),
  order_join key xs ys hx.1 hy lo.1 hi,
)

kept_either : {V : Type 0} → (C : Pairs V → Type 0) (b : Bool) (xs ys : Pairs V) → C xs → C ys → C (cond b xs ys)
kept_either C true xs ys hx hy = hx
kept_either C false xs ys hx hy = hy

each_filter : {V : Type 0} → (P : ℕ × V → Type 0) (t : ℕ × V → Bool) (xs : Pairs V) → Each P xs → Each P (filter t xs)
each_filter P t [] h = tt
each_filter P t (p ∷ xs) h = kept_either (Each P) (t p) (p ∷ filter t xs) (filter t xs) (h.0, each_filter P t xs h.1) (each_filter P t xs h.1)

order_filter : {V : Type 0} → (t : ℕ × V → Bool) (xs : Pairs V) → IsInOrder xs → IsInOrder (filter t xs)
order_filter t [] h = tt
order_filter t (p ∷ xs) h = kept_either IsInOrder (t p) (p ∷ filter t xs) (filter t xs) (each_filter (λ q. p.0 < q.0) t xs h.0, order_filter t xs h.1) (order_filter t xs h.1)

passes_at : {V : Type 0} → (t : ℕ × V → Bool) (p : ℕ × V) (xs : Pairs V) (b : Bool) → t p ≡ b → Each (λ q. t q ≡ true) xs → Each (λ q. t q ≡ true) (cond b (p ∷ xs) xs)
passes_at t p xs true e h = (e, h)
passes_at t p xs false e h = h

passes : {V : Type 0} → (t : ℕ × V → Bool) (xs : Pairs V) → Each (λ q. t q ≡ true) (filter t xs)
passes t [] = tt
passes t (p ∷ xs) = passes_at t p (filter t xs) (t p) refl (passes t xs)

pub below_is : {V : Type 0} → (key : ℕ) (xs : Pairs V) → AreBelow key (below key xs)
below_is key xs = each_as (λ p. nat_lt p.0 key ≡ true) (λ p. p.0 < key) (λ p i. true_lt p.0 key i) (below key xs) (passes (λ p. nat_lt p.0 key) xs)

pub above_is : {V : Type 0} → (key : ℕ) (xs : Pairs V) → AreAbove key (above key xs)
above_is key xs = each_as (λ p. nat_lt key p.0 ≡ true) (λ p. key < p.0) (λ p i. true_lt key p.0 i) (above key xs) (passes (λ p. nat_lt key p.0) xs)

pub put_in_order : {V : Type 0} → (key : ℕ) (value : V) (xs : Pairs V) → IsInOrder xs → IsInOrder (put key value xs)
put_in_order key value xs h =
    order_join key (below key xs) ((key, value) ∷ above key xs) (order_filter (λ p. nat_lt p.0 key) xs h) (above_is key xs, order_filter (λ p. nat_lt key p.0) xs h) (below_is key xs)
    (omega arith, from_above key (above key xs) (above_is key xs))

pub without_in_order : {V : Type 0} → (key : ℕ) (xs : Pairs V) → IsInOrder xs → IsInOrder (without key xs)
without_in_order key xs h =
    order_join key (below key xs) (above key xs) (order_filter (λ p. nat_lt p.0 key) xs h) (order_filter (λ p. nat_lt key p.0) xs h) (below_is key xs) (from_above key (above key xs) (above_is key xs))

-- no pair is both below and above
kept_once : {V : Type 0} → (key : ℕ) (xs : Pairs V) → length (below key xs) + length (above key xs) ≤ length xs
kept_once key [] = omega arith
kept_once key (p ∷ xs) = grind (arith, nat_tests, kept_once key xs)

-- the pair of the key is neither
pub kept_less : {V : Type 0} → (key : ℕ) (xs : Pairs V) → IsSome (value_of key xs) → length (below key xs) + length (above key xs) + 1 ≤ length xs
kept_less key [] found = absurd (true≢false (sym found))
kept_less key (p ∷ xs) found = grind (arith, nat_tests, kept_once key xs, kept_less key xs)

pub put_fits : {V : Type 0} → (limit key : ℕ) (value : V) (xs : Pairs V) → (length xs < limit) ⊎ IsSome (value_of key xs) → length xs ≤ limit → length (put key value xs) ≤ limit
put_fits limit key value xs (inl few) h = omega (arith, few, kept_once key xs, length-append (below key xs) ((key, value) ∷ above key xs))
put_fits limit key value xs (inr found) h = omega (arith, h, kept_less key xs found, length-append (below key xs) ((key, value) ∷ above key xs))

pub without_fits : {V : Type 0} → (limit key : ℕ) (xs : Pairs V) → length xs ≤ limit → length (without key xs) ≤ limit
without_fits limit key xs h = omega (arith, h, kept_once key xs, length-append (below key xs) (above key xs))

-- without a key that isn't there, a map stays as it is
pub none_out : {V : Type 0} → (key : ℕ) (xs : Pairs V) → IsInOrder xs → value_of key xs ≡ None → xs ≡ without key xs
none_out key [] order h = refl
none_out key (p ∷ xs) order h = elim (cases_lt p.0 key) as (λ _. p ∷ xs ≡ without key (p ∷ xs)) [
  | inl lt ↦
      let rest : value_of key xs ≡ None = sym (ap (λ b. cond b (Some p.1) (value_of key xs)) (eq_false p.0 key (λ e. omega (arith, e, lt)))) ∙ h in
      ap (λ r. p ∷ r) (none_out key xs order.1 rest)
      ∙ sym (ap (λ b. cond b (p ∷ below key xs) (below key xs) ++ above key (p ∷ xs)) (lt_true p.0 key lt) ∙ ap (λ b. p ∷ (below key xs ++ cond b (p ∷ above key xs) (above key xs))) (lt_false key p.0 (omega (arith, lt))))
  | inr le ↦ elim (cases_eq p.0 key) as (λ _. p ∷ xs ≡ without key (p ∷ xs)) [
    | inl e ↦ absurd (true≢false (ap is_some (sym (ap (λ b. cond b (Some p.1) (value_of key xs)) (eq_true p.0 key e)) ∙ h)))
    | inr ne ↦
        let all : AreAbove key (p ∷ xs) = (omega (arith, le, ne), above_lower key p.0 xs (omega (arith, le)) order.0) in
        sym (ap (λ r. r ++ above key (p ∷ xs)) (below_none key (p ∷ xs) all) ∙ above_all key (p ∷ xs) all)
  ]
]
