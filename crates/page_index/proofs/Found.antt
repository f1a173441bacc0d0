-- Where a key stands among the pairs of a leaf, and what a change there makes of them.
use Rattle.std.proofs.Common.{◌≡◌, ℕ, suc, zero, ◌+◌, ◌<◌, ◌≤◌, ◌≢◌, [], ◌∷◌, ◌++◌, length, get_or, take, drop, set, insert, remove, nat_lt, nat_le, cond, Some, None, add-one, sym, ap, ◌∙◌, subst, arith}
use Rattle.std.proofs.lemmas.List.{take-append-drop, drop_more, set_split, get_or_default, take_all}
use Rattle.std.proofs.lemmas.List.Elements.{filter-append}
use Rattle.page_index.specs.Parts.{IsFront}
use Rattle.page_index.specs.Pairs.{Pairs, AreBelow, AreAbove, AreFrom, IsInOrder, IsFoundAt, IsGapAt, from_on, put, value_of, without}
use Rattle.page_index.proofs.Order.{eq_true, lt_false, order_left, order_right, order_before, each_as, above_lower, from_none, from_all}
use Rattle.page_index.proofs.Around.{value_around, put_around, without_around}

-- some pair of a list that has one
abbrev some_pair : {V : Type 0} → (xs : Pairs V) (i : ℕ) → i < length xs → ℕ × V
some_pair [] i h = absurd (omega (arith, h))
some_pair (x ∷ xs) i h = x

-- the list, cut at its i-th pair
cut : {V : Type 0} → (xs : Pairs V) (i : ℕ) (d : ℕ × V) → i < length xs → xs ≡ take i xs ++ (get_or xs i d ∷ drop (i + 1) xs)
cut xs i d h = sym (take-append-drop i xs) ∙ ap (λ r. take i xs ++ r) (drop_more xs i d h)

pub before_is : {V : Type 0} → (xs : Pairs V) (i : ℕ) (d : ℕ × V) → IsInOrder xs → i < length xs → AreBelow (get_or xs i d).0 (take i xs)
before_is xs i d order h = order_before (take i xs) (get_or xs i d) (drop (i + 1) xs) (subst IsInOrder (cut xs i d h) order)

pub after_is : {V : Type 0} → (xs : Pairs V) (i : ℕ) (d : ℕ × V) → IsInOrder xs → i < length xs → AreAbove (get_or xs i d).0 (drop (i + 1) xs)
after_is xs i d order h = (order_right (take i xs) (get_or xs i d ∷ drop (i + 1) xs) (subst IsInOrder (cut xs i d h) order)).0

pub in_order_front : {V : Type 0} → (xs : Pairs V) (i : ℕ) → IsInOrder xs → IsInOrder (take i xs)
in_order_front xs i order = order_left (take i xs) (drop i xs) (subst IsInOrder (sym (take-append-drop i xs)) order)

pub in_order_back : {V : Type 0} → (xs : Pairs V) (i : ℕ) → IsInOrder xs → IsInOrder (drop i xs)
in_order_back xs i order = order_right (take i xs) (drop i xs) (subst IsInOrder (sym (take-append-drop i xs)) order)

below_more : {V : Type 0} → (key : ℕ) (xs : Pairs V) (i : ℕ) (d : ℕ × V) → IsInOrder xs → i < length xs → (get_or xs i d).0 < key → AreBelow key (take (suc i) xs)
below_more key [] i d order h lt = absurd (omega (arith, h))
below_more key (x ∷ xs) zero d order h lt = (lt, tt)
below_more key (x ∷ xs) (suc i) d order h lt =
    let first : x.0 < (get_or xs i d).0 = (before_is (x ∷ xs) (suc i) d order h).0 in
    (omega (arith, first, lt), below_more key xs i d order.1 (omega (arith, h)) lt)

-- a step of the search, up and down
pub searched_up : {V : Type 0} → (key : ℕ) (xs : Pairs V) (i : ℕ) (d : ℕ × V) → IsInOrder xs → i < length xs → (get_or xs i d).0 < key → AreBelow key (take (i + 1) xs)
searched_up key xs i d order h lt = subst (λ n. AreBelow key (take n xs)) (sym (add-one i)) (below_more key xs i d order h lt)

pub searched_down : {V : Type 0} → (key : ℕ) (xs : Pairs V) (i : ℕ) (d : ℕ × V) → IsInOrder xs → i < length xs → key ≤ (get_or xs i d).0 → AreFrom key (drop i xs)
searched_down key xs i d order h here =
    subst (AreFrom key) (sym (drop_more xs i d h)) (here, each_as (λ q. (get_or xs i d).0 < q.0) (λ q. key ≤ q.0) (λ q j. omega (arith, j, here)) (drop (i + 1) xs) (after_is xs i d order h))

pub found : {V : Type 0} → (key : ℕ) (xs : Pairs V) (i : ℕ) (d : ℕ × V) → IsInOrder xs → i < length xs → (get_or xs i d).0 ≡ key → AreBelow key (take i xs) → IsFoundAt key xs i
found key xs i d order h same lo = record {
  there = h;
  here = λ e. ap (λ q. q.0) (get_or_default xs i e d h) ∙ same;
  below = lo;
  above = subst (λ n. AreAbove n (drop (i + 1) xs)) same (after_is xs i d order h);
}

pub gap : {V : Type 0} → (key : ℕ) (xs : Pairs V) (i : ℕ) (d : ℕ × V) → IsInOrder xs → i < length xs → (get_or xs i d).0 ≢ key → AreBelow key (take i xs) → AreFrom key (drop i xs) → IsGapAt key xs i
gap key xs i d order h apart lo hi =
    let here : key ≤ (get_or xs i d).0 = (subst (AreFrom key) (drop_more xs i d h) hi).0 in
    let lt : key < (get_or xs i d).0 = omega (arith, here, apart) in record {
      bound = omega (arith, h);
      below = lo;
      above = subst (AreAbove key) (sym (drop_more xs i d h)) (lt, above_lower key (get_or xs i d).0 (drop (i + 1) xs) (omega (arith, lt)) (after_is xs i d order h));
    }

pub shorter : {V : Type 0} → (xs : Pairs V) (k : ℕ) → length (remove xs k) ≤ length xs
shorter [] zero = omega arith
shorter [] (suc k) = omega arith
shorter (x ∷ xs) zero = omega arith
shorter (x ∷ xs) (suc k) = omega (arith, shorter xs k)

-- the pairs from a rank on are those whose keys aren't below
pub ranked : {V : Type 0} → (key : ℕ) (xs : Pairs V) (k : ℕ) → AreBelow key (take k xs) → AreFrom key (drop k xs) → from_on key xs ≡ drop k xs
ranked key xs k lo hi =
    ap (from_on key) (sym (take-append-drop k xs)) ∙ filter-append (λ p. nat_le key p.0) (take k xs) (drop k xs)
    ∙ ap (λ r. r ++ from_on key (drop k xs)) (from_none key (take k xs) lo) ∙ from_all key (drop k xs) hi

pub front_is : {V : Type 0} → (xs ys : Pairs V) → xs ≡ ys → IsFront ys xs
front_is xs ys e = record { first = ap (take (length ys)) e ∙ take_all (length ys) ys (omega arith); some = λ h. omega (arith, h, ap length e) }

-- a pair of that key alone
alone_put : {V : Type 0} → (key : ℕ) (p : ℕ × V) (value : V) → p.0 ≡ key → put key value (p ∷ []) ≡ (key, value) ∷ []
alone_put key p value e =
    ap (λ b. cond b (p ∷ []) [] ++ (key, value) ∷ cond (nat_lt key p.0) (p ∷ []) []) (lt_false p.0 key (omega (arith, e)))
    ∙ ap (λ b. (key, value) ∷ cond b (p ∷ []) []) (lt_false key p.0 (omega (arith, e)))

pub alone_without : {V : Type 0} → (key : ℕ) (p : ℕ × V) → p.0 ≡ key → without key (p ∷ []) ≡ []
alone_without key p e =
    ap (λ b. cond b (p ∷ []) [] ++ cond (nat_lt key p.0) (p ∷ []) []) (lt_false p.0 key (omega (arith, e)))
    ∙ ap (λ b. cond b (p ∷ []) []) (lt_false key p.0 (omega (arith, e)))

module _ {V : Type 0} (key : ℕ) (xs : Pairs V) (k : ℕ) (f : IsFoundAt key xs k) where
  -- the pair there
  abbrev here : ℕ × V
  here = get_or xs k (some_pair xs k f.there)

  whole : xs ≡ take k xs ++ ((here ∷ []) ++ drop (k + 1) xs)
  whole = cut xs k (some_pair xs k f.there) f.there

  pub found_value : (p : ℕ × V) → p ≡ get_or xs k p → value_of key xs ≡ Some p.1
  found_value p is =
      ap (value_of key) whole ∙ value_around key (take k xs) (here ∷ []) (drop (k + 1) xs) f.below f.above
      ∙ ap (λ b. cond b (Some (here).1) None) (eq_true (here).0 key (f.here (some_pair xs k f.there)))
      ∙ ap (λ q. Some q.1) (get_or_default xs k (some_pair xs k f.there) p f.there ∙ sym is)

  pub found_put : (value : V) → set xs k (key, value) ≡ put key value xs
  found_put value =
      set_split xs k (key, value) f.there ∙ ap (λ n. take k xs ++ (key, value) ∷ drop n xs) (sym (add-one k))
      ∙ ap (λ r. take k xs ++ (r ++ drop (k + 1) xs)) (sym (alone_put key (here) value (f.here (some_pair xs k f.there))))
      ∙ sym (ap (put key value) whole ∙ put_around key (take k xs) (here ∷ []) (drop (k + 1) xs) f.below f.above value)

  pub found_without : remove xs k ≡ without key xs
  found_without =
      ap (λ n. take k xs ++ drop n xs) (sym (add-one k))
      ∙ ap (λ r. take k xs ++ (r ++ drop (k + 1) xs)) (sym (alone_without key (here) (f.here (some_pair xs k f.there))))
      ∙ sym (ap (without key) whole ∙ without_around key (take k xs) (here ∷ []) (drop (k + 1) xs) f.below f.above)

module _ {V : Type 0} (key : ℕ) (xs : Pairs V) (k : ℕ) (f : IsGapAt key xs k) where
  parted : xs ≡ take k xs ++ ([] ++ drop k xs)
  parted = sym (take-append-drop k xs)

  pub gap_value : value_of key xs ≡ None
  gap_value = ap (value_of key) parted ∙ value_around key (take k xs) [] (drop k xs) f.below f.above

  pub gap_put : (value : V) → insert xs k (key, value) ≡ put key value xs
  gap_put value = sym (ap (put key value) parted ∙ put_around key (take k xs) [] (drop k xs) f.below f.above value)

  pub gap_without : xs ≡ without key xs
  gap_without = sym (ap (without key) parted ∙ without_around key (take k xs) [] (drop k xs) f.below f.above ∙ sym parted)
