-- Maps in order, and the one among them that a key can be in.
use Rattle.std.proofs.Common.{◌≡◌, ℕ, suc, zero, ◌+◌, ◌-◌, ◌<◌, ◌≤◌, List, [], ◌∷◌, ◌++◌, length, get_or, take, drop, set, insert, remove, slice_get, Some, None, IsSome, add-one, refl, sym, ap, ◌∙◌, subst, inl, inr, arith, append_assoc, append-nil, length-append, length-take-le, nat_lt, cond, Bool, true, false, true≢false, is_some, length-take, ◌^◌}
use Rattle.std.specs.Bool.{◌==◌}
use Rattle.std.proofs.lemmas.List.Concat.{flat_map-append}
use Rattle.std.proofs.lemmas.List.{take-append-drop, drop_more, take-set, drop-set, get_or_default, take_more, set_at, take-append-le, drop_all, nil_from_length}
use Rattle.std.proofs.lemmas.Bool.{cases_lt, cases_eq}
use Rattle.std.proofs.lemmas.Bool.Decides.{nat_tests}
use Rattle.page_index.proofs.Found.{alone_without}
use Rattle.page_index.specs.Pairs.{Pairs, AreBelow, AreAbove, IsInOrder, first_key, from_on, put, value_of, without, above, below}
use Rattle.page_index.specs.Parts.{joined, IsBetween, IsPlaceOf, StartsAtMost, StartsAbove, IsFront, AreHalves}
use Rattle.page_index.proofs.Order.{order_left, order_right, order_before, below_higher, above_lower, lt_true, from_all, from_above, eq_false, each_left}
use Rattle.page_index.proofs.Around.{value_around, put_around, without_around, from_around}

-- the whole, cut at the i-th map
pub cut : {V : Type 0} → (kids : List (Pairs V)) (i : ℕ) (d : Pairs V) → i < length kids → joined kids ≡ joined (take i kids) ++ (get_or kids i d ++ joined (drop (i + 1) kids))
cut kids i d h =
    ap joined (sym (take-append-drop i kids)) ∙ flat_map-append (λ kid. kid) (take i kids) (drop i kids)
    ∙ ap (λ r. joined (take i kids) ++ joined r) (drop_more kids i d h)

-- the whole with the i-th map written anew
pub written : {V : Type 0} → (kids : List (Pairs V)) (i : ℕ) (y : Pairs V) → i < length kids → joined (set kids i y) ≡ joined (take i kids) ++ (y ++ joined (drop (i + 1) kids))
written kids i y h =
    ap joined (sym (take-append-drop i (set kids i y))) ∙ flat_map-append (λ kid. kid) (take i (set kids i y)) (drop i (set kids i y))
    ∙ ap (λ r. joined r ++ joined (drop i (set kids i y))) (take-set kids i y)
    ∙ ap (λ r. joined (take i kids) ++ joined r) (drop-set kids i y h)

-- the whole without the i-th map
pub taken_out : {V : Type 0} → (kids : List (Pairs V)) (i : ℕ) → joined (remove kids i) ≡ joined (take i kids) ++ joined (drop (i + 1) kids)
taken_out kids i = flat_map-append (λ kid. kid) (take i kids) (drop (suc i) kids) ∙ ap (λ n. joined (take i kids) ++ joined (drop n kids)) (sym (add-one i))

front_below : {V : Type 0} → (key : ℕ) (front part back : Pairs V) → IsInOrder (front ++ (part ++ back)) → StartsAtMost key part → AreBelow key front
front_below key front [] back order s = absurd (omega (arith, s.some))
front_below key front (p ∷ part) back order s = below_higher p.0 key front s.first (order_before front p (part ++ back) order)

back_above : {V : Type 0} → (key : ℕ) (part back : Pairs V) → IsInOrder (part ++ back) → StartsAbove key part → AreAbove key (part ++ back)
back_above key [] back order s = absurd (omega (arith, s.some))
back_above key (p ∷ part) back order s = (s.first, above_lower key p.0 (part ++ back) (omega (arith, s.first)) order.0)

-- the maps before the place of a key are below it, those after it above
module _ {V : Type 0} (key : ℕ) (kids : List (Pairs V)) (k : ℕ) (order : IsInOrder (joined kids)) (at : IsPlaceOf key k kids) where
  pub there : k < length kids
  there = omega (arith, at.bound)

  ordered : IsInOrder (joined (take k kids) ++ (get_or kids k [] ++ joined (drop (k + 1) kids)))
  ordered = subst IsInOrder (cut kids k [] there) order

  pub before : AreBelow key (joined (take k kids))
  before = elim (cases_lt 0 k) as (λ _. AreBelow key (joined (take k kids))) [
    | inl some ↦ front_below key (joined (take k kids)) (get_or kids k []) (joined (drop (k + 1) kids)) ordered (at.lower [] some)
    | inr none ↦ subst (λ n. AreBelow key (joined (take n kids))) {x = 0} (omega (arith, none)) tt
  ]

  pub after : AreAbove key (joined (drop (k + 1) kids))
  after = elim (cases_lt (k + 1) (length kids)) as (λ _. AreAbove key (joined (drop (k + 1) kids))) [
    | inl some ↦
        let next = drop_more kids (k + 1) [] some in
        let rest = order_right (get_or kids k []) (joined (drop (k + 1) kids)) (order_right (joined (take k kids)) (get_or kids k [] ++ joined (drop (k + 1) kids)) ordered) in
        subst (λ r. AreAbove key (joined r)) (sym next) (back_above key (get_or kids (k + 1) []) (joined (drop (k + 1 + 1) kids)) (subst (λ r. IsInOrder (joined r)) next rest) (at.upper [] some))
    | inr none ↦ subst (λ r. AreAbove key (joined r)) (sym (drop_all (k + 1) kids none)) tt
  ]

  module _ (x : Pairs V) (is : x ≡ get_or kids k x) where
    pub whole : joined kids ≡ joined (take k kids) ++ (x ++ joined (drop (k + 1) kids))
    whole = cut kids k x there ∙ ap (λ r. joined (take k kids) ++ (r ++ joined (drop (k + 1) kids))) (sym is)

    pub part_in_order : IsInOrder x
    part_in_order = order_left x (joined (drop (k + 1) kids)) (order_right (joined (take k kids)) (x ++ joined (drop (k + 1) kids)) (subst IsInOrder whole order))

    pub value_there : value_of key (joined kids) ≡ value_of key x
    value_there = ap (value_of key) whole ∙ value_around key (joined (take k kids)) x (joined (drop (k + 1) kids)) before after

    pub put_there : (value : V) (y : Pairs V) → y ≡ put key value x → joined (set kids k y) ≡ put key value (joined kids)
    put_there value y e =
        written kids k y there ∙ ap (λ r. joined (take k kids) ++ (r ++ joined (drop (k + 1) kids))) e
        ∙ sym (ap (put key value) whole ∙ put_around key (joined (take k kids)) x (joined (drop (k + 1) kids)) before after value)

    pub without_there : (y : Pairs V) → y ≡ without key x → joined (set kids k y) ≡ without key (joined kids)
    without_there y e =
        written kids k y there ∙ ap (λ r. joined (take k kids) ++ (r ++ joined (drop (k + 1) kids))) e
        ∙ sym (ap (without key) whole ∙ without_around key (joined (take k kids)) x (joined (drop (k + 1) kids)) before after)

    pub none_there : without key x ≡ [] → joined (remove kids k) ≡ without key (joined kids)
    none_there e =
        taken_out kids k ∙ ap (λ r. joined (take k kids) ++ (r ++ joined (drop (k + 1) kids))) (sym e)
        ∙ sym (ap (without key) whole ∙ without_around key (joined (take k kids)) x (joined (drop (k + 1) kids)) before after)

    pub from_there : from_on key (joined kids) ≡ from_on key x ++ joined (drop (k + 1) kids)
    from_there = ap (from_on key) whole ∙ from_around key (joined (take k kids)) x (joined (drop (k + 1) kids)) before after

    -- its length, by that of the others
    pub part_length : length (joined kids) ≡ length (joined (take k kids)) + (length x + length (joined (drop (k + 1) kids)))
    part_length = ap length whole ∙ omega (arith, length-append (joined (take k kids)) (x ++ joined (drop (k + 1) kids)), length-append x (joined (drop (k + 1) kids)))

    pub set_length : (y : Pairs V) → length (joined (set kids k y)) ≡ length (joined (take k kids)) + (length y + length (joined (drop (k + 1) kids)))
    set_length y = ap length (written kids k y there) ∙ omega (arith, length-append (joined (take k kids)) (y ++ joined (drop (k + 1) kids)), length-append y (joined (drop (k + 1) kids)))

    pub set_fits : (value : V) → length (put key value (joined kids)) ≤ 2 ^ 24 → length (put key value x) ≤ 2 ^ 24
    set_fits value h = omega (arith, h, ap length (put_there value (put key value x) refl), set_length (put key value x))

    pub taken_length : length (joined (remove kids k)) + length x ≡ length (joined kids)
    taken_length = omega (arith, ap length (taken_out kids k), length-append (joined (take k kids)) (joined (drop (k + 1) kids)), part_length)

-- the search among the maps
pub between_all : {V : Type 0} → (key : ℕ) (kids : List (Pairs V)) (n : ℕ) → 0 < n → n ≡ length kids → IsBetween key 0 n kids
between_all key kids n some e = record {
  there = some;
  bound = omega (arith, e);
  lower = λ d h. absurd (omega (arith, h));
  upper = λ d h. absurd (omega (arith, h, e));
}

pub between_low : {V : Type 0} → (key low high : ℕ) (kids : List (Pairs V)) (i : ℕ) (x : Pairs V) → IsBetween key low high kids → i < high → x ≡ get_or kids i x → 0 < length x → first_key x ≤ key → IsBetween key i high kids
between_low key low high kids i x b h is some le = record {
  there = h;
  bound = b.bound;
  lower = λ d _. subst (StartsAtMost key) (is ∙ get_or_default kids i x d (omega (arith, h, b.bound))) (record { some = some; first = le });
  upper = b.upper;
}

pub between_high : {V : Type 0} → (key low high : ℕ) (kids : List (Pairs V)) (i : ℕ) (x : Pairs V) → IsBetween key low high kids → low < i → i < high → x ≡ get_or kids i x → 0 < length x → key < first_key x → IsBetween key low i kids
between_high key low high kids i x b l h is some lt = record {
  there = l;
  bound = omega (arith, h, b.bound);
  lower = b.lower;
  upper = λ d _. subst (StartsAbove key) (is ∙ get_or_default kids i x d (omega (arith, h, b.bound))) (record { some = some; first = lt });
}

pub between_one : {V : Type 0} → (key low high : ℕ) (kids : List (Pairs V)) → IsBetween key low high kids → high ≤ low + 1 → IsPlaceOf key low kids
between_one key low high kids b h = subst (λ n. IsBetween key low n kids) (omega (arith, h, b.there)) b

-- the first key of the whole
pub first_of : {V : Type 0} → (kids : List (Pairs V)) (x : Pairs V) → x ≡ get_or kids 0 x → 0 < length kids → 0 < length x → first_key x ≡ first_key (joined kids)
first_of [] x is some more = absurd (omega (arith, some))
first_of ([] ∷ kids) x is some more = absurd (omega (arith, more, ap length is))
first_of ((p ∷ kid) ∷ kids) x is some more = ap first_key is

-- one of two pairs in order stays
pub some_left : {V : Type 0} → (key : ℕ) (xs : Pairs V) → IsInOrder xs → 1 < length xs → 0 < length (without key xs)
some_left key [] order h = absurd (omega (arith, h))
some_left key (p ∷ []) order h = absurd (omega (arith, h))
some_left key (p ∷ q ∷ xs) order h = elim (cases_lt p.0 key) as (λ _. 0 < length (without key (p ∷ q ∷ xs))) [
  | inl lt ↦
      let kept : below key (p ∷ q ∷ xs) ≡ p ∷ below key (q ∷ xs) = ap (λ b. cond b (p ∷ below key (q ∷ xs)) (below key (q ∷ xs))) (lt_true p.0 key lt) in
      omega (arith, ap length kept, length-append (below key (p ∷ q ∷ xs)) (above key (p ∷ q ∷ xs)))
  | inr le ↦
      let kept : above key (q ∷ xs) ≡ q ∷ above key xs = ap (λ b. cond b (q ∷ above key xs) (above key xs)) (lt_true key q.0 (omega (arith, le, order.0.0))) in
      let longer : length (above key (q ∷ xs)) ≤ length (above key (p ∷ q ∷ xs)) = longer_with (nat_lt key p.0) p (above key (q ∷ xs)) in
      omega (arith, ap length kept, longer, length-append (below key (p ∷ q ∷ xs)) (above key (p ∷ q ∷ xs)))
]
  where
    longer_with : {V : Type 0} → (b : Bool) (p : ℕ × V) (xs : Pairs V) → length xs ≤ length (cond b (p ∷ xs) xs)
    longer_with true p xs = omega arith
    longer_with false p xs = omega arith

-- the only pair goes with its key
pub lone : {V : Type 0} → (key : ℕ) (xs : Pairs V) → length xs ≡ 1 → IsSome (value_of key xs) → without key xs ≡ []
lone key [] h found = absurd (omega (arith, h))
lone key (p ∷ []) h found = elim (cases_eq p.0 key) as (λ _. without key (p ∷ []) ≡ []) [
  | inl e ↦ alone_without key p e
  | inr ne ↦ absurd (true≢false (sym found ∙ ap (λ b. is_some (cond b (Some p.1) None)) (eq_false p.0 key ne)))
]
lone key (p ∷ q ∷ xs) h found = absurd (omega (arith, h))

-- the length of the maps so far
pub counted : {V : Type 0} → (kids : List (Pairs V)) (i : ℕ) (x : Pairs V) → i < length kids → x ≡ get_or kids i x → length (joined (take (i + 1) kids)) ≡ length (joined (take i kids)) + length x
counted kids i x h is =
    ap (λ r. length (joined r)) (take_more kids i x h) ∙ ap length (flat_map-append (λ kid. kid) (take i kids) (get_or kids i x ∷ []))
    ∙ omega (arith, length-append (joined (take i kids)) (joined (get_or kids i x ∷ [])), ap length (append-nil (get_or kids i x)), ap length is)

pub counted_within : {V : Type 0} → (kids : List (Pairs V)) (i : ℕ) → length (joined (take i kids)) ≤ length (joined kids)
counted_within kids i = omega (arith, ap length (ap joined (sym (take-append-drop i kids)) ∙ flat_map-append (λ kid. kid) (take i kids) (drop i kids)), length-append (joined (take i kids)) (joined (drop i kids)))

-- the pair of a rank, in the first map or in those after it
slice_get_left : {V : Type 0} → (xs ys : Pairs V) (r : ℕ) → r < length xs → slice_get (xs ++ ys) r ≡ slice_get xs r
slice_get_left [] ys r h = absurd (omega (arith, h))
slice_get_left (x ∷ xs) ys zero h = refl
slice_get_left (x ∷ xs) ys (suc r) h = slice_get_left xs ys r (omega (arith, h))

slice_get_right : {V : Type 0} → (xs ys : Pairs V) (r k : ℕ) → length xs + k ≡ r → slice_get (xs ++ ys) r ≡ slice_get ys k
slice_get_right [] ys r k h = ap (slice_get ys) (omega (arith, h))
slice_get_right (x ∷ xs) ys zero k h = absurd (omega (arith, h))
slice_get_right (x ∷ xs) ys (suc r) k h = slice_get_right xs ys r k (omega (arith, h))

pub rank_here : {V : Type 0} → (kids : List (Pairs V)) (i : ℕ) (x : Pairs V) (r : ℕ) → i < length kids → x ≡ get_or kids i x → r < length x → slice_get (joined (drop i kids)) r ≡ slice_get x r
rank_here kids i x r h is lt =
    ap (λ k. slice_get (joined k) r) (drop_more kids i x h) ∙ ap (λ y. slice_get (y ++ joined (drop (i + 1) kids)) r) (sym is) ∙ slice_get_left x (joined (drop (i + 1) kids)) r lt

pub rank_beyond : {V : Type 0} → (kids : List (Pairs V)) (i : ℕ) (x : Pairs V) (r : ℕ) → i < length kids → x ≡ get_or kids i x → length x ≤ r → slice_get (joined (drop i kids)) r ≡ slice_get (joined (drop (i + 1) kids)) (r - length x)
rank_beyond kids i x r h is le =
    ap (λ k. slice_get (joined k) r) (drop_more kids i x h) ∙ ap (λ y. slice_get (y ++ joined (drop (i + 1) kids)) r) (sym is) ∙ slice_get_right x (joined (drop (i + 1) kids)) r (r - length x) (omega (arith, le))

-- two halves in the place of one map
pub replaced : {V : Type 0} → (kids : List (Pairs V)) (k : ℕ) (lower upper : Pairs V) → k < length kids → ((d : Pairs V) → AreHalves lower upper (get_or kids k d)) → joined (set (insert kids (k + 1) upper) k lower) ≡ joined kids
replaced kids k lower upper h halves =
    let back = drop (k + 1) kids in
    let put_in : insert kids (k + 1) upper ≡ take k kids ++ (get_or kids k [] ∷ (upper ∷ back)) = ap (λ r. r ++ upper ∷ back) (take_more kids k [] h) ∙ append_assoc (take k kids) (get_or kids k [] ∷ []) (upper ∷ back) in
    ap (λ r. joined (set r k lower)) put_in
    ∙ ap joined (set_at (take k kids) (get_or kids k []) (upper ∷ back) lower k (length-take-le k kids (omega (arith, h))))
    ∙ flat_map-append (λ kid. kid) (take k kids) (lower ∷ (upper ∷ back))
    ∙ ap (λ r. joined (take k kids) ++ r) (sym (append_assoc lower upper (joined back)) ∙ ap (λ r. r ++ joined back) (sym (halves []).joined))
    ∙ sym (cut kids k [] h)

-- the first pairs of a part are those of the whole, if there are any
pub front_part : {V : Type 0} → (front xs ys : Pairs V) → IsFront front xs → 0 < length front → IsFront front (xs ++ ys)
front_part front xs ys f some = record {
  first = take-append-le (length front) xs ys (omega (arith, ap length f.first, length-take (length front) xs)) ∙ f.first;
  some = λ _. some;
}

pub front_none : {V : Type 0} → (front xs : Pairs V) → IsFront front xs → length front ≡ 0 → xs ≡ []
front_none front [] f h = refl
front_none front (p ∷ xs) f h = absurd (omega (arith, h, f.some (omega arith)))

module _ {V : Type 0} (key : ℕ) (kids : List (Pairs V)) (k : ℕ) (order : IsInOrder (joined kids)) (at : IsPlaceOf key k kids) (x : Pairs V) (is : x ≡ get_or kids k x) where
  pub run_here : (front : Pairs V) → IsFront front (from_on key x) → 0 < length front → IsFront front (from_on key (joined kids))
  run_here front f some = subst (IsFront front) (sym (from_there key kids k order at x is)) (front_part front (from_on key x) (joined (drop (k + 1) kids)) f some)

  from_after : (front : Pairs V) → IsFront front (from_on key x) → length front ≡ 0 → from_on key (joined kids) ≡ joined (drop (k + 1) kids)
  from_after front f none = from_there key kids k order at x is ∙ ap (λ r. r ++ joined (drop (k + 1) kids)) (front_none front (from_on key x) f none)

  pub run_end : (front : Pairs V) → IsFront front (from_on key x) → length front ≡ 0 → length kids ≡ k + 1 → IsFront front (from_on key (joined kids))
  run_end front f none e =
      let nothing : from_on key (joined kids) ≡ [] = from_after front f none ∙ ap joined (drop_all (k + 1) kids (omega (arith, e))) in
      subst (IsFront front) (sym nothing) (subst (λ r. IsFront r []) (sym (nil_from_length front none)) (record { first = refl; some = λ h. h }))

  pub run_next : (front : Pairs V) → IsFront front (from_on key x) → length front ≡ 0 → k + 1 < length kids → (y : Pairs V) → y ≡ get_or kids (k + 1) y → (next : Pairs V) → IsFront next (from_on key y) → IsFront next (from_on key (joined kids))
  run_next front f none more y is_y next g =
      let split = drop_more kids (k + 1) y more in
      let rest = joined (drop (k + 1 + 1) kids) in
      let back : joined (drop (k + 1) kids) ≡ y ++ rest = ap joined split ∙ ap (λ r. r ++ rest) (sym is_y) in
      let some : 0 < length y = subst (λ r. 0 < length r) (sym is_y) (at.upper y more).some in
      let all : AreAbove key y = each_left (λ p. key < p.0) y rest (subst (AreAbove key) back (after key kids k order at)) in
      let same : from_on key y ≡ y = from_all key y (from_above key y all) in
      let here : IsFront next y = subst (IsFront next) same g in
      subst (IsFront next) (sym (from_after front f none ∙ back)) (front_part next y rest here (here.some some))

-- the maps in two parts
in_parts : {V : Type 0} → (kids : List (Pairs V)) (i : ℕ) → joined kids ≡ joined (take i kids) ++ joined (drop i kids)
in_parts kids i = ap joined (sym (take-append-drop i kids)) ∙ flat_map-append (λ kid. kid) (take i kids) (drop i kids)

pub front_order : {V : Type 0} → (kids : List (Pairs V)) (i : ℕ) → IsInOrder (joined kids) → IsInOrder (joined (take i kids))
front_order kids i order = order_left (joined (take i kids)) (joined (drop i kids)) (subst IsInOrder (in_parts kids i) order)

pub back_order : {V : Type 0} → (kids : List (Pairs V)) (i : ℕ) → IsInOrder (joined kids) → IsInOrder (joined (drop i kids))
back_order kids i order = order_right (joined (take i kids)) (joined (drop i kids)) (subst IsInOrder (in_parts kids i) order)

pub back_within : {V : Type 0} → (kids : List (Pairs V)) (i : ℕ) → length (joined (drop i kids)) ≤ length (joined kids)
back_within kids i = omega (arith, ap length (in_parts kids i), length-append (joined (take i kids)) (joined (drop i kids)))

pub halved : {V : Type 0} → (kids : List (Pairs V)) (i : ℕ) (whole lower upper : Pairs V) → joined kids ≡ whole → lower ≡ joined (take i kids) → upper ≡ joined (drop i kids) → 0 < length lower → 0 < length upper → AreHalves lower upper whole
halved kids i whole lower upper v l u some_l some_u = record {
  joined = sym v ∙ in_parts kids i ∙ ap (λ r. r ++ joined (drop i kids)) (sym l) ∙ ap (λ r. lower ++ r) (sym u);
  some_lower = some_l;
  some_upper = some_u;
}

-- a map that was read twice
pub same_part : {V : Type 0} → (key : ℕ) (kids : List (Pairs V)) (k : ℕ) (order : IsInOrder (joined kids)) (at : IsPlaceOf key k kids) (x y : Pairs V) → x ≡ get_or kids k x → y ≡ get_or kids k y → x ≡ y
same_part key kids k order at x y is_x is_y = is_x ∙ get_or_default kids k x y (there key kids k order at) ∙ sym is_y

-- a list that is or isn't empty, by its length
pub some_of : (n : ℕ) → false ≡ (n == 0) → 0 < n
some_of n h = grind (arith, nat_tests)

pub none_of : (n : ℕ) → true ≡ (n == 0) → n ≡ 0
none_of n h = grind (arith, nat_tests)
