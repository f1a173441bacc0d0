-- What filters keep of entries, and of a map without a key.
use Rattle.std.proofs.Common.{◌≡◌, ◌≢◌, ℕ, ◌<◌, ◌≤◌, List, [], ◌∷◌, ◌++◌, Bool, true, false, cond, not, nat_eq, filter, Some, None, refl, sym, ap, ◌∙◌, arith, inl, inr}
use Rattle.std.specs.Prelude.{map, slice_get, option_map, find}
use Rattle.std.proofs.lemmas.Bool.{cases_lt, cases_eq}
use Rattle.page_index.specs.Pairs.{Pairs, Each, AreAbove, IsInOrder, below, above, value_of, without}
use Rattle.page_index.proofs.Order.{above_all, above_lower, all_kept, below_none, each_as, eq_false, eq_true, lt_false, lt_true}

-- ---- filters of filters

pub kept-swapped : {X : Type 0} (q r : X → Bool) (xs : List X) → filter q (filter r xs) ≡ filter r (filter q xs)
kept-swapped q r [] = refl
kept-swapped q r (x ∷ xs) = at (q x) (r x) refl refl (kept-swapped q r xs)
  where
    at : (a b : Bool) → q x ≡ a → r x ≡ b → filter q (filter r xs) ≡ filter r (filter q xs) → filter q (cond b (x ∷ filter r xs) (filter r xs)) ≡ filter r (cond a (x ∷ filter q xs) (filter q xs))
    at true true ea eb rest =
        ap (λ c. cond c (x ∷ filter q (filter r xs)) (filter q (filter r xs))) ea ∙ ap (λ ys. x ∷ ys) rest
        ∙ sym (ap (λ c. cond c (x ∷ filter r (filter q xs)) (filter r (filter q xs))) eb)
    at true false ea eb rest = rest ∙ sym (ap (λ c. cond c (x ∷ filter r (filter q xs)) (filter r (filter q xs))) eb)
    at false true ea eb rest = ap (λ c. cond c (x ∷ filter q (filter r xs)) (filter q (filter r xs))) ea ∙ rest
    at false false ea eb rest = rest

-- what the second filter drops too need not be dropped before
pub kept-once : {V : Type 0} (q r : ℕ × V → Bool) (xs : Pairs V) → Each (λ e. r e ≡ false → q e ≡ false) xs → filter q (filter r xs) ≡ filter q xs
kept-once q r [] h = refl
kept-once q r (x ∷ xs) h = at (r x) refl (kept-once q r xs h.1)
  where
    at : (b : Bool) → r x ≡ b → filter q (filter r xs) ≡ filter q xs → filter q (cond b (x ∷ filter r xs) (filter r xs)) ≡ cond (q x) (x ∷ filter q xs) (filter q xs)
    at true e rest = ap (λ ys. cond (q x) (x ∷ ys) ys) rest
    at false e rest = rest ∙ sym (ap (λ c. cond c (x ∷ filter q xs) (filter q xs)) (h.0 e))

pub kept-twice : {X : Type 0} (q : X → Bool) (xs : List X) → filter q (filter q xs) ≡ filter q xs
kept-twice q [] = refl
kept-twice q (x ∷ xs) = at (q x) refl (kept-twice q xs)
  where
    at : (b : Bool) → q x ≡ b → filter q (filter q xs) ≡ filter q xs → filter q (cond b (x ∷ filter q xs) (filter q xs)) ≡ cond b (x ∷ filter q xs) (filter q xs)
    at true e rest = ap (λ c. cond c (x ∷ filter q (filter q xs)) (filter q (filter q xs))) e ∙ ap (λ ys. x ∷ ys) rest
    at false e rest = rest

-- a filter by the keys
pub keys-kept : {V : Type 0} (t : ℕ → Bool) (xs : Pairs V) → map (λ (e : ℕ × V). e.0) (filter (λ e. t e.0) xs) ≡ filter t (map (λ (e : ℕ × V). e.0) xs)
keys-kept t [] = refl
keys-kept {V} t (x ∷ xs) = at (t x.0) (keys-kept t xs)
  where
    at : (b : Bool) → map (λ (e : ℕ × V). e.0) (filter (λ e. t e.0) xs) ≡ filter t (map (λ (e : ℕ × V). e.0) xs)
        → map (λ (e : ℕ × V). e.0) (cond b (x ∷ filter (λ e. t e.0) xs) (filter (λ e. t e.0) xs)) ≡ cond b (x.0 ∷ filter t (map (λ (e : ℕ × V). e.0) xs)) (filter t (map (λ (e : ℕ × V). e.0) xs))
    at true rest = ap (λ ys. x.0 ∷ ys) rest
    at false rest = rest

-- the first that passes is the first of those that pass
pub first-kept : {V : Type 0} (q : ℕ × V → Bool) (xs : Pairs V) → option_map (λ (e : ℕ × V). e.0) (find q xs) ≡ slice_get (map (λ (e : ℕ × V). e.0) (filter q xs)) 0
first-kept q [] = refl
first-kept {V} q (x ∷ xs) = at (q x) (first-kept q xs)
  where
    at : (b : Bool) → option_map (λ (e : ℕ × V). e.0) (find q xs) ≡ slice_get (map (λ (e : ℕ × V). e.0) (filter q xs)) 0
        → option_map (λ (e : ℕ × V). e.0) (cond b (Some x) (find q xs)) ≡ slice_get (map (λ (e : ℕ × V). e.0) (cond b (x ∷ filter q xs) (filter q xs))) 0
    at true rest = refl
    at false rest = rest

-- ---- a map without a key

without-above : {V : Type 0} (k : ℕ) (xs : Pairs V) → AreAbove k xs → without k xs ≡ xs
without-above k xs h = ap (λ r. r ++ above k xs) (below_none k xs h) ∙ above_all k xs h

kept-above : {V : Type 0} (k : ℕ) (xs : Pairs V) → AreAbove k xs → filter (λ p. not (nat_eq p.0 k)) xs ≡ xs
kept-above k xs h =
    all_kept (λ p. not (nat_eq p.0 k)) xs (each_as (λ p. k < p.0) (λ p. not (nat_eq p.0 k) ≡ true) (λ p lt. ap not (eq_false p.0 k (λ e. omega (arith, e, lt)))) xs h)

pub without-kept : {V : Type 0} (k : ℕ) (xs : Pairs V) → IsInOrder xs → without k xs ≡ filter (λ p. not (nat_eq p.0 k)) xs
without-kept k [] order = refl
without-kept k (p ∷ xs) order = elim (cases_lt p.0 k) as (λ _. without k (p ∷ xs) ≡ filter (λ q. not (nat_eq q.0 k)) (p ∷ xs)) [
  | inl lt ↦
      ap (λ b. cond b (p ∷ below k xs) (below k xs) ++ above k (p ∷ xs)) (lt_true p.0 k lt)
      ∙ ap (λ b. p ∷ (below k xs ++ cond b (p ∷ above k xs) (above k xs))) (lt_false k p.0 (omega (arith, lt)))
      ∙ ap (λ r. p ∷ r) (without-kept k xs order.1)
      ∙ sym (ap (λ b. cond (not b) (p ∷ filter (λ q. not (nat_eq q.0 k)) xs) (filter (λ q. not (nat_eq q.0 k)) xs)) (eq_false p.0 k (λ e. omega (arith, e, lt))))
  | inr le ↦ elim (cases_eq p.0 k) as (λ _. without k (p ∷ xs) ≡ filter (λ q. not (nat_eq q.0 k)) (p ∷ xs)) [
    | inl e ↦
        let all : AreAbove k xs = above_lower k p.0 xs (omega (arith, e)) order.0 in
        ap (λ b. cond b (p ∷ below k xs) (below k xs) ++ above k (p ∷ xs)) (lt_false p.0 k (omega (arith, e)))
        ∙ ap (λ b. below k xs ++ cond b (p ∷ above k xs) (above k xs)) (lt_false k p.0 (omega (arith, e)))
        ∙ without-above k xs all ∙ sym (kept-above k xs all)
        ∙ sym (ap (λ b. cond (not b) (p ∷ filter (λ q. not (nat_eq q.0 k)) xs) (filter (λ q. not (nat_eq q.0 k)) xs)) (eq_true p.0 k e))
    | inr ne ↦
        let all : AreAbove k (p ∷ xs) = (omega (arith, le, ne), above_lower k p.0 xs (omega (arith, le)) order.0) in
        without-above k (p ∷ xs) all ∙ sym (kept-above k (p ∷ xs) all)
  ]
]

some-same : {V : Type 0} (x y : V) → Some x ≡ Some y → x ≡ y
some-same x y e = cc

true_false : {X : Type 0} → true ≡ false → X
true_false e = cc

-- each entry of the key has the value that is found
pub each-found : {V : Type 0} (test : V → Bool) (k : ℕ) (v : V) (xs : Pairs V) → IsInOrder xs → value_of k xs ≡ Some v → test v ≡ false → Each (λ p. not (nat_eq p.0 k) ≡ false → test p.1 ≡ false) xs
each-found test k v [] order found lacks = tt
each-found test k v (p ∷ xs) order found lacks = elim (cases_eq p.0 k) as (λ _. Each (λ q. not (nat_eq q.0 k) ≡ false → test q.1 ≡ false) (p ∷ xs)) [
  | inl e ↦
      let same : p.1 ≡ v = some-same p.1 v (sym (ap (λ b. cond b (Some p.1) (value_of k xs)) (eq_true p.0 k e)) ∙ found) in
      let all : AreAbove k xs = above_lower k p.0 xs (omega (arith, e)) order.0 in (
        (λ _. ap test same ∙ lacks),
        each_as (λ q. k < q.0) (λ q. not (nat_eq q.0 k) ≡ false → test q.1 ≡ false) (λ q lt h. true_false (sym (ap not (eq_false q.0 k (λ i. omega (arith, i, lt)))) ∙ h)) xs all,
      )
  | inr ne ↦ (
    (λ h. true_false (sym (ap not (eq_false p.0 k ne)) ∙ h)),
    each-found test k v xs order.1 (sym (ap (λ b. cond b (Some p.1) (value_of k xs)) (eq_false p.0 k ne)) ∙ found) lacks,
  )
]
