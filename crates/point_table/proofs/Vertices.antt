-- Points by the codes of their places, and the map that they make.
use Rattle.std.proofs.Common.{◌≡◌, ℕ, ◌<◌, ◌^◌, List, [], ◌∷◌, ◌++◌, Bool, true, false, cond, Some, None, refl, sym, ap, subst, ◌∙◌, arith, inl, inr, ◌⊎◌, nat_eq, filter}
use Rattle.std.specs.Prelude.{ℤ, pos, neg_ℤ, ◌<ℤ◌, ◌≤ℤ◌, T, ◌&&◌, map, option_map, Option, length, MatchOption, slice_get}
use Rattle.std.proofs.lemmas.Int.{ints, by_lt_z}
use Rattle.std.proofs.lemmas.List.{length-map}
use Rattle.std.proofs.lemmas.Option.{slice_get-map}
use Rattle.std.proofs.lemmas.Bool.{cases_lt, cases_eq}
use Rattle.std.specs.declared.cmp.Ordering.{Ordering}
use Rattle.std.specs.declared.cmp.Ordering.TheVariants.{Less, Equal, Greater}
use Rattle.std.specs.Ordering.{nat_cmp, int_cmp, is_lt, is_eq, ordering_then, eq_by_cmp}
use Rattle.std.specs.Cmp.{nat_cmp_is, int_cmp_is}
use Rattle.std.specs.FinMap as finmap
use Rattle.std.specs.FinMap.Entries.{below_all}
use Rattle.ground_model.specs.Height.{code}
use Rattle.ground_model.specs.Place.{Coords, IsPlace, place_cmp}
use Rattle.ground_model.proofs.Contents.{places_total}
use Rattle.ground_model.proofs.Lifted.{code_rises, code_rises_north}
use Rattle.page_index.specs.Pairs.{Pairs, Each, IsInOrder, AreAbove, below, above, put, value_of, without}
use Rattle.page_index.proofs.Maps.{value_put, value_without}
use Rattle.page_index.proofs.Order.{each-append, eq_false, eq_true, put_in_order, without_in_order}
use Rattle.point_table.specs.Vertices.{Levelled, levels_in, levels_by, AreKeyed, AreVertices}

-- ---- places are compared as their codes
less_first : (p q : Coords) → p.e <ℤ q.e → place_cmp p q ≡ Less
less_first p q h = ap (λ o. ordering_then o (int_cmp p.n q.n)) (sym (int_cmp_is p.e q.e Less h))

more_first : (p q : Coords) → q.e <ℤ p.e → place_cmp p q ≡ Greater
more_first p q h = ap (λ o. ordering_then o (int_cmp p.n q.n)) (sym (int_cmp_is p.e q.e Greater h))

then_north : (p q : Coords) (o : Ordering) → p.e ≡ q.e → o ≡ int_cmp p.n q.n → place_cmp p q ≡ o
then_north p q o e h = ap (λ x. ordering_then x (int_cmp p.n q.n)) (sym (int_cmp_is p.e q.e Equal e)) ∙ sym h

one_place : (p q : Coords) → p.e ≡ q.e → p.n ≡ q.n → p ≡ q
one_place p q e n = λ i. record { e = e i; n = n i }

pub by_codes : (p q : Coords) → IsPlace p → IsPlace q → place_cmp p q ≡ nat_cmp (code p) (code q)
by_codes p q h k = by_lt_z p.e q.e
    (λ lt. less_first p q lt ∙ nat_cmp_is (code p) (code q) Less (code_rises p q h k lt))
    (λ ge. by_lt_z q.e p.e
    (λ gt. more_first p q gt ∙ nat_cmp_is (code p) (code q) Greater (code_rises q p k h gt))
    (λ le. same (tied p.e q.e ge le)))
  where
    tied : (x y : ℤ) → y ≤ℤ x → x ≤ℤ y → x ≡ y
    tied x y a b = omega (arith, ints, a, b)

    same : p.e ≡ q.e → place_cmp p q ≡ nat_cmp (code p) (code q)
    same e = by_lt_z p.n q.n
        (λ lt. then_north p q Less e (int_cmp_is p.n q.n Less lt) ∙ nat_cmp_is (code p) (code q) Less (code_rises_north p q h k e lt))
        (λ ge. by_lt_z q.n p.n
        (λ gt. then_north p q Greater e (int_cmp_is p.n q.n Greater gt) ∙ nat_cmp_is (code p) (code q) Greater (code_rises_north q p k h (sym e) gt))
        (λ le. let n = tied p.n q.n ge le in then_north p q Equal e (int_cmp_is p.n q.n Equal n) ∙ nat_cmp_is (code p) (code q) Equal (ap code (one_place p q e n))))

-- ---- the order
both_of : (s t : Bool) → T s → T t → T (s && t)
both_of true t h k = k
both_of false t h k = absurd h

below_each : (x : ℕ × Levelled) (xs : Pairs Levelled) → IsPlace x.1.0 × (x.0 ≡ code x.1.0) → AreKeyed xs → AreAbove x.0 xs → T (below_all place_cmp x.1.0 (levels_in xs))
below_each x [] h k lt = tt
below_each x (y ∷ ys) h k lt = both_of (is_lt (place_cmp x.1.0 y.1.0)) (below_all place_cmp x.1.0 (levels_in ys)) first (below_each x ys h k.1 lt.1)
  where
    rises : code x.1.0 < code y.1.0
    rises = omega (arith, lt.0, h.1, k.0.1)

    first : T (is_lt (place_cmp x.1.0 y.1.0))
    first = subst (λ o. T (is_lt o)) (nat_cmp_is (code x.1.0) (code y.1.0) Less rises ∙ sym (by_codes x.1.0 y.1.0 h.0 k.0.0)) tt

sorted_each : (xs : Pairs Levelled) → IsInOrder xs → AreKeyed xs → T (finmap.is_sorted place_cmp (levels_in xs))
sorted_each [] o k = tt
sorted_each (x ∷ xs) o k = both_of (below_all place_cmp x.1.0 (levels_in xs)) (finmap.is_sorted place_cmp (levels_in xs)) (below_each x xs k.0 k.1 o.0) (sorted_each xs o.1 k.1)

pub sorted : (xs : Pairs Levelled) → AreVertices xs → T (finmap.is_sorted place_cmp (levels_in xs))
sorted xs v = sorted_each xs v.ordered v.keyed

-- ---- what is found at a place
pub place_or_not : (q : Coords) → IsPlace q ⊎ (IsPlace q → ⊥)
place_or_not q = by_lt_z q.e (neg_ℤ (pos (2 ^ 29))) (λ out. inr (λ h. less q.e (neg_ℤ (pos (2 ^ 29))) out h.west)) (λ west.
    by_lt_z (pos (2 ^ 29)) q.e (λ out. inr (λ h. less (pos (2 ^ 29)) q.e out h.east)) (λ east.
    by_lt_z q.n (neg_ℤ (pos (2 ^ 29))) (λ out. inr (λ h. less q.n (neg_ℤ (pos (2 ^ 29))) out h.south)) (λ south.
    by_lt_z (pos (2 ^ 29)) q.n (λ out. inr (λ h. less (pos (2 ^ 29)) q.n out h.north)) (λ north.
    inl (record { west = west; east = east; south = south; north = north })))))
  where
    less : (x y : ℤ) → x <ℤ y → y ≤ℤ x → ⊥
    less x y h k = omega (arith, ints, h, k)

tied_parts : (e n : Ordering) → ordering_then e n ≡ Equal → (e ≡ Equal) × (n ≡ Equal)
tied_parts Less n h = cc
tied_parts Equal n h = (refl, h)
tied_parts Greater n h = cc

-- places tie in their order only where they are one
pub places_apart : finmap.IsAntisymmetric place_cmp
places_apart p q h =
    let both = tied_parts (int_cmp p.e q.e) (int_cmp p.n q.n) h in
    one_place p q (finmap.int_cmp-IsAntisymmetric p.e q.e both.0) (finmap.int_cmp-IsAntisymmetric p.n q.n both.1)

is_tie : (o : Ordering) → is_eq o ≡ true → o ≡ Equal
is_tie Less h = cc
is_tie Equal h = refl
is_tie Greater h = cc

-- a place that is none ties with no place
none_ties : (q p : Coords) → (IsPlace q → ⊥) → IsPlace p → eq_by_cmp place_cmp q p ≡ false
none_ties q p out h = at (eq_by_cmp place_cmp q p) refl
  where
    at : (b : Bool) → eq_by_cmp place_cmp q p ≡ b → b ≡ false
    at true e = absurd (out (subst IsPlace (sym (places_apart q p (is_tie (place_cmp q p) e))) h))
    at false e = refl

tied_codes : (q p : Coords) → IsPlace q → IsPlace p → eq_by_cmp place_cmp q p ≡ nat_eq (code q) (code p)
tied_codes q p h k = ap is_eq (by_codes q p h k) ∙ tied_numbers (code q) (code p)
  where
    tied_numbers : (a b : ℕ) → is_eq (nat_cmp a b) ≡ nat_eq a b
    tied_numbers a b = elim (cases_lt a b) as (λ _. is_eq (nat_cmp a b) ≡ nat_eq a b) [
      | inl lt ↦ ap is_eq (sym (nat_cmp_is a b Less lt)) ∙ sym (eq_false a b (λ e. omega (arith, e, lt)))
      | inr le ↦ elim (cases_eq a b) as (λ _. is_eq (nat_cmp a b) ≡ nat_eq a b) [
        | inl e ↦ ap is_eq (sym (nat_cmp_is a b Equal e)) ∙ sym (eq_true a b e)
        | inr ne ↦ ap is_eq (sym (nat_cmp_is a b Greater (omega (arith, le, ne)))) ∙ sym (eq_false a b ne)
      ]
    ]

-- the level under a code
abbrev pub level_under : ℕ → Pairs Levelled → Option ℤ
level_under k xs = option_map (λ v. v.1) (value_of k xs)

found_at : (q : Coords) (xs : Pairs Levelled) → IsPlace q → AreKeyed xs → finmap.find place_cmp q (levels_in xs) ≡ level_under (code q) xs
found_at q [] h k = refl
found_at q (x ∷ xs) h k =
    ap (λ b. cond b (Some x.1.1) (finmap.find place_cmp q (levels_in xs))) (tied_codes q x.1.0 h k.0.0 ∙ turned (code q) (code x.1.0) ∙ ap (λ c. nat_eq c (code q)) (sym k.0.1))
    ∙ ap (λ o. cond (nat_eq x.0 (code q)) (Some x.1.1) o) (found_at q xs h k.1)
    ∙ at (nat_eq x.0 (code q))
  where
    turned : (a b : ℕ) → nat_eq a b ≡ nat_eq b a
    turned a b = elim (cases_eq a b) as (λ _. nat_eq a b ≡ nat_eq b a) [
      | inl e ↦ eq_true a b e ∙ sym (eq_true b a (sym e))
      | inr ne ↦ eq_false a b ne ∙ sym (eq_false b a (λ e. ne (sym e)))
    ]

    at : (b : Bool) → cond b (Some x.1.1) (level_under (code q) xs) ≡ option_map (λ v. v.1) (cond b (Some x.1) (value_of (code q) xs))
    at true = refl
    at false = refl

none_found : (q : Coords) (xs : Pairs Levelled) → (IsPlace q → ⊥) → AreKeyed xs → finmap.find place_cmp q (levels_in xs) ≡ None
none_found q [] out k = refl
none_found q (x ∷ xs) out k =
    ap (λ b. cond b (Some x.1.1) (finmap.find place_cmp q (levels_in xs))) (none_ties q x.1.0 out k.0.0) ∙ none_found q xs out k.1

pub level_at : (q : Coords) (xs : Pairs Levelled) → IsPlace q → AreVertices xs → finmap.get (levels_by xs) q ≡ level_under (code q) xs
level_at q xs h v = finmap.get-from_sorted place_cmp (levels_in xs) q (sorted xs v) ∙ found_at q xs h v.keyed

no_level : (q : Coords) (xs : Pairs Levelled) → (IsPlace q → ⊥) → AreVertices xs → finmap.get (levels_by xs) q ≡ None
no_level q xs out v = finmap.get-from_sorted place_cmp (levels_in xs) q (sorted xs v) ∙ none_found q xs out v.keyed

-- ---- the number of points, and the one at a rank
pub len_is : (xs : Pairs Levelled) → AreVertices xs → finmap.len (levels_by xs) ≡ length xs
len_is xs v = finmap.len-entries (levels_by xs) ∙ ap length (finmap.entries-from_sorted place_cmp (levels_in xs) (sorted xs v)) ∙ length-map xs (λ x. x.1)

pub at_is : (xs : Pairs Levelled) (k : ℕ) → AreVertices xs → slice_get (finmap.entries (levels_by xs)) k ≡ option_map (λ x. x.1) (slice_get xs k)
at_is xs k v = ap (λ es. slice_get es k) (finmap.entries-from_sorted place_cmp (levels_in xs) (sorted xs v)) ∙ slice_get-map (λ (x : ℕ × Levelled). x.1) xs k

pub none_is : levels_by [] ≡ finmap.empty
none_is = finmap.empty_of_len (levels_by []) (len_is [] (record { ordered = tt; keyed = tt }))

-- ---- a point set, a point taken out
kept : (t : ℕ × Levelled → Bool) (xs : Pairs Levelled) → AreKeyed xs → AreKeyed (filter t xs)
kept t [] k = tt
kept t (x ∷ xs) k = at (t x) (kept t xs k.1)
  where
    at : (b : Bool) → AreKeyed (filter t xs) → AreKeyed (cond b (x ∷ filter t xs) (filter t xs))
    at true rest = (k.0, rest)
    at false rest = rest

module _ (xs : Pairs Levelled) (p : Coords) (v : AreVertices xs) (h : IsPlace p) where
  pub vertices_put : (z : ℤ) → AreVertices (put (code p) (p, z) xs)
  vertices_put z = record {
    ordered = put_in_order (code p) (p, z) xs v.ordered;
    keyed = each-append (λ x. IsPlace x.1.0 × (x.0 ≡ code x.1.0)) (below (code p) xs) ((code p, (p, z)) ∷ above (code p) xs) (kept _ xs v.keyed) ((h, refl), kept _ xs v.keyed);
  }

  pub vertices_without : AreVertices (without (code p) xs)
  vertices_without = record {
    ordered = without_in_order (code p) xs v.ordered;
    keyed = each-append (λ x. IsPlace x.1.0 × (x.0 ≡ code x.1.0)) (below (code p) xs) (above (code p) xs) (kept _ xs v.keyed) (kept _ xs v.keyed);
  }

  pub put_is : (z : ℤ) → levels_by (put (code p) (p, z) xs) ≡ finmap.insert (levels_by xs) p z
  put_is z = finmap.same_map places_total places_apart _ _ (λ q. elim (place_or_not q) as (λ _. finmap.get (levels_by (put (code p) (p, z) xs)) q ≡ finmap.get (finmap.insert (levels_by xs) p z) q) [
    | inl k ↦ level_at q (put (code p) (p, z) xs) k (vertices_put z) ∙ ap (option_map (λ (w : Levelled). w.1)) (value_put (code p) (p, z) xs (code q)) ∙ at q (nat_eq (code q) (code p))
        ∙ ap (λ b. cond b (Some z) (level_under (code q) xs)) (sym (tied_codes q p k h)) ∙ ap (cond (eq_by_cmp place_cmp q p) (Some z)) (sym (level_at q xs k v)) ∙ sym (finmap.get-insert places_total (levels_by xs) p z q)
    | inr out ↦ no_level q (put (code p) (p, z) xs) out (vertices_put z) ∙ sym (no_level q xs out v) ∙ ap (λ b. cond b (Some z) (finmap.get (levels_by xs) q)) (sym (none_ties q p out h)) ∙ sym (finmap.get-insert places_total (levels_by xs) p z q)
  ])
    where
      at : (q : Coords) (b : Bool) → option_map (λ (w : Levelled). w.1) (cond b (Some (p, z)) (value_of (code q) xs)) ≡ cond b (Some z) (level_under (code q) xs)
      at q true = refl
      at q false = refl

  pub without_is : levels_by (without (code p) xs) ≡ finmap.remove (levels_by xs) p
  without_is = finmap.same_map places_total places_apart _ _ (λ q. elim (place_or_not q) as (λ _. finmap.get (levels_by (without (code p) xs)) q ≡ finmap.get (finmap.remove (levels_by xs) p) q) [
    | inl k ↦ level_at q (without (code p) xs) k vertices_without ∙ ap (option_map (λ (w : Levelled). w.1)) (value_without (code p) xs (code q)) ∙ at q (nat_eq (code q) (code p))
        ∙ ap (λ b. cond b None (level_under (code q) xs)) (sym (tied_codes q p k h)) ∙ ap (cond (eq_by_cmp place_cmp q p) None) (sym (level_at q xs k v)) ∙ sym (finmap.get-remove places_total (levels_by xs) p q)
    | inr out ↦ no_level q (without (code p) xs) out vertices_without ∙ sym (no_level q xs out v) ∙ ap (λ b. cond b None (finmap.get (levels_by xs) q)) (sym (none_ties q p out h)) ∙ sym (finmap.get-remove places_total (levels_by xs) p q)
  ])
    where
      at : (q : Coords) (b : Bool) → option_map (λ (w : Levelled). w.1) (cond b None (value_of (code q) xs)) ≡ cond b None (level_under (code q) xs)
      at q true = refl
      at q false = refl
