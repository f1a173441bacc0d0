-- Where an item stands in packed pieces, and what a write to one piece does to the list.
use Rattle.std.proofs.Common.{◌≡◌, ℕ, suc, zero, ◌+◌, ◌*◌, ◌-◌, ◌/◌, ◌%◌, ◌<◌, ◌≤◌, List, [], ◌∷◌, ◌++◌, length, get_or, set, take, drop, refl, sym, ap, ◌∙◌, subst, inl, inr, arith, append_assoc, length-append, length-set}
use Rattle.std.specs.List.{flat_map}
use Rattle.std.proofs.lemmas.Grind.{flat_map-append}
use Rattle.std.proofs.lemmas.Nat.{div-add-mod'}
use Rattle.std.proofs.lemmas.List.{get_or-set_same, get_or-set_other, take-append-drop, drop_more, drop_all, take-set, drop-set, append-nil, get_or_append_left, get_or_push, length_push, set-append_left, set-append_right}
use Rattle.std.proofs.Math.Nat.{suc-mul, mul-le-mul_right, mod-lt}
use Rattle.std.proofs.lemmas.Bool.{cases_lt, cases_eq}
use Rattle.std.specs.List.{AllZip}
use Rattle.std.proofs.lemmas.Slice.Zip.{AllZip-long}
use Rattle.std.proofs.lemmas.List.Elements.{AllZip-get_or}
use Rattle.std.proofs.lemmas.List.Concat.{get_or-flat_map}
use Rattle.page_vec.specs.Packed.{IsPacked}

module _ {X T : Type 0} (f : X → List T) where
  -- the list, cut at piece i
  pub cut : (xs : List X) (i : ℕ) (d : X) → i < length xs → flat_map f xs ≡ flat_map f (take i xs) ++ (f (get_or xs i d) ++ flat_map f (drop (i + 1) xs))
  cut xs i d h =
      ap (flat_map f) (sym (take-append-drop i xs)) ∙ flat_map-append f (take i xs) (drop i xs)
      ∙ ap (λ r. flat_map f (take i xs) ++ flat_map f r) (drop_more xs i d h)

  -- the list with piece i written anew
  pub written : (xs : List X) (i : ℕ) (y : X) → i < length xs → flat_map f (set xs i y) ≡ flat_map f (take i xs) ++ (f y ++ flat_map f (drop (i + 1) xs))
  written xs i y h =
      ap (flat_map f) (sym (take-append-drop i (set xs i y))) ∙ flat_map-append f (take i (set xs i y)) (drop i (set xs i y))
      ∙ ap (λ r. flat_map f r ++ flat_map f (drop i (set xs i y))) (take-set xs i y)
      ∙ ap (λ r. flat_map f (take i xs) ++ flat_map f r) (drop-set xs i y h)

  -- a piece that stands for the same items leaves the list
  pub same_piece : (xs : List X) (i : ℕ) (y d : X) → i < length xs → f y ≡ f (get_or xs i d) → flat_map f (set xs i y) ≡ flat_map f xs
  same_piece xs i y d h e =
      written xs i y h ∙ ap (λ r. flat_map f (take i xs) ++ (r ++ flat_map f (drop (i + 1) xs))) e ∙ sym (cut xs i d h)

  -- an item at the end of the last piece is one at the end of the list
  pub grown : (xs : List X) (i : ℕ) (y d : X) (v : T) → i + 1 ≡ length xs → f y ≡ f (get_or xs i d) ++ v ∷ [] → flat_map f (set xs i y) ≡ flat_map f xs ++ v ∷ []
  grown xs i y d v h e =
      let h1 : i < length xs = omega (arith, h) in
      let past : drop (i + 1) xs ≡ [] = drop_all (i + 1) xs (omega (arith, h)) in
      written xs i y h1
      ∙ ap (λ r. flat_map f (take i xs) ++ (f y ++ flat_map f r)) past
      ∙ ap (λ r. flat_map f (take i xs) ++ r) (append-nil (f y) ∙ e)
      ∙ sym (append_assoc (flat_map f (take i xs)) (f (get_or xs i d)) (v ∷ []))
      ∙ ap (λ r. r ++ v ∷ []) (ap (λ r. flat_map f (take i xs) ++ r) (sym (append-nil (f (get_or xs i d))))
      ∙ ap (λ r. flat_map f (take i xs) ++ (f (get_or xs i d) ++ flat_map f r)) (sym past) ∙ sym (cut xs i d h1))

  -- a new piece of one item
  pub added : (xs : List X) (y : X) (v : T) → f y ≡ v ∷ [] → flat_map f (xs ++ y ∷ []) ≡ flat_map f xs ++ v ∷ []
  added xs y v e = flat_map-append f xs (y ∷ []) ∙ ap (λ r. flat_map f xs ++ r) (append-nil (f y) ∙ e)

  module _ (room : ℕ) where
    rest : (x : X) (xs : List X) → IsPacked f room (x ∷ xs) → IsPacked f room xs
    rest x xs p = record {
      some = λ i d h. p.some (suc i) d (omega (arith, h));
      few = λ i d h. p.few (suc i) d (omega (arith, h));
      full = λ i d h. p.full (suc i) d (omega (arith, h));
    }

    -- the pieces before piece i are full
    pub before : (xs : List X) → IsPacked f room xs → (i : ℕ) → i < length xs → length (flat_map f (take i xs)) ≡ i * room
    before [] p i h = absurd (omega (arith, h))
    before (x ∷ xs) p zero h = omega arith
    before (x ∷ xs) p (suc i) h =
        let here : length (f x) ≡ room = p.full 0 x (omega (arith, h)) in
        let there : length (flat_map f (take i xs)) ≡ i * room = before xs (rest x xs p) i (omega (arith, h)) in
        omega (arith, here, there, suc-mul i room, length-append (f x) (flat_map f (take i xs)))

    pub bound : (xs : List X) → IsPacked f room xs → length (flat_map f xs) ≤ length xs * room
    bound [] p = omega arith
    bound (x ∷ xs) p =
        let here : length (f x) ≤ room = p.few 0 x (omega arith) in
        omega (arith, here, bound xs (rest x xs p), suc-mul (length xs) room, length-append (f x) (flat_map f xs))

    -- the length, by the last piece
    pub by_last : (xs : List X) (d : X) → IsPacked f room xs → (i : ℕ) → i + 1 ≡ length xs → length (flat_map f xs) ≡ i * room + length (f (get_or xs i d))
    by_last xs d p i h =
        let h1 : i < length xs = omega (arith, h) in
        let past : length (flat_map f (drop (i + 1) xs)) ≡ 0 = ap (λ r. length (flat_map f r)) (drop_all (i + 1) xs (omega (arith, h))) in
        omega (
          arith,
          ap length (cut xs i d h1),
          past,
          before xs p i h1,
          length-append (flat_map f (take i xs)) (f (get_or xs i d) ++ flat_map f (drop (i + 1) xs)),
          length-append (f (get_or xs i d)) (flat_map f (drop (i + 1) xs)),
        )

    module _ (xs : List X) (p : IsPacked f room xs) (some_room : 0 < room) (k : ℕ) (within : k < length (flat_map f xs)) where
      -- the item at index k lies in piece k / room
      pub in_piece : k / room < length xs
      in_piece = elim (cases_lt (k / room) (length xs)) as (λ _. k / room < length xs) [
        | inl h ↦ h
        | inr h ↦ absurd (omega (arith, mul-le-mul_right room h, div-add-mod' k room, bound xs p, within))
      ]

      -- there, at index k % room
      pub in_range : (d : X) → k % room < length (f (get_or xs (k / room) d))
      in_range d =
          let small : k % room < room = mod-lt k some_room in
          let h = in_piece in
          elim (cases_lt (k / room + 1) (length xs)) as (λ _. k % room < length (f (get_or xs (k / room) d))) [
            | inl more ↦ omega (arith, small, p.full (k / room) d more)
            | inr last ↦ omega (arith, div-add-mod' k room, within, by_last xs d p (k / room) (omega (arith, h, last)))
          ]

      -- what stands there
      pub at_index : (d : X) (e : T) → get_or (flat_map f xs) k e ≡ get_or (f (get_or xs (k / room) d)) (k % room) e
      at_index d e =
          ap (λ n. get_or (flat_map f xs) n e) (sym (div-add-mod' k room) ∙ ap (λ n. n + k % room) (sym (before xs p (k / room) in_piece)))
          ∙ get_or-flat_map f xs (k / room) (k % room) d e in_piece (in_range d)

      -- a write there
      pub put_index : (y d : X) (v : T) → f y ≡ set (f (get_or xs (k / room) d)) (k % room) v → flat_map f (set xs (k / room) y) ≡ set (flat_map f xs) k v
      put_index y d v e =
          let i = k / room in
          let front = flat_map f (take i xs) in
          let old = f (get_or xs i d) in
          let back = flat_map f (drop (i + 1) xs) in
          let long : length front ≡ i * room = before xs p i in_piece in
          let here : k - length front ≡ k % room = omega (arith, long, div-add-mod' k room) in
          written xs i y in_piece
          ∙ ap (λ r. front ++ (r ++ back)) e
          ∙ ap (λ r. front ++ r) (sym (set-append_left old back (k % room) v (in_range d)))
          ∙ ap (λ n. front ++ set (old ++ back) n v) (sym here)
          ∙ sym (set-append_right front (old ++ back) (length front) k v refl (omega (arith, long, div-add-mod' k room)))
          ∙ ap (λ r. set r k v) (sym (cut xs i d in_piece))

    -- a piece written anew
    pub packed_put : (xs : List X) (i : ℕ) (y : X) → i < length xs → IsPacked f room xs → 0 < length (f y) → length (f y) ≤ room → (i + 1 < length xs → length (f y) ≡ room) → IsPacked f room (set xs i y)
    packed_put xs i y h p some few full = record {
      some = λ j d hj. elim (cases_eq j i) as (λ _. 0 < length (f (get_or (set xs i y) j d))) [
        | inl e ↦ subst (λ n. 0 < length (f (get_or (set xs i y) n d))) (sym e) (subst (λ x. 0 < length (f x)) (sym (get_or-set_same xs i y d h)) some)
        | inr n ↦ subst (λ x. 0 < length (f x)) (sym (get_or-set_other xs i j y d n)) (p.some j d (omega (arith, hj, length-set xs i y)))
      ];
      few = λ j d hj. elim (cases_eq j i) as (λ _. length (f (get_or (set xs i y) j d)) ≤ room) [
        | inl e ↦ subst (λ n. length (f (get_or (set xs i y) n d)) ≤ room) (sym e) (subst (λ x. length (f x) ≤ room) (sym (get_or-set_same xs i y d h)) few)
        | inr n ↦ subst (λ x. length (f x) ≤ room) (sym (get_or-set_other xs i j y d n)) (p.few j d (omega (arith, hj, length-set xs i y)))
      ];
      full = λ j d hj. elim (cases_eq j i) as (λ _. length (f (get_or (set xs i y) j d)) ≡ room) [
        | inl e ↦ subst (λ n. length (f (get_or (set xs i y) n d)) ≡ room) (sym e) (subst (λ x. length (f x) ≡ room) (sym (get_or-set_same xs i y d h)) (full (omega (arith, hj, e, length-set xs i y))))
        | inr n ↦ subst (λ x. length (f x) ≡ room) (sym (get_or-set_other xs i j y d n)) (p.full j d (omega (arith, hj, length-set xs i y)))
      ];
    }

    -- a piece that has as many items
    pub packed_same : (xs : List X) (i : ℕ) (y d : X) → i < length xs → IsPacked f room xs → length (f y) ≡ length (f (get_or xs i d)) → IsPacked f room (set xs i y)
    packed_same xs i y d h p e = packed_put xs i y h p (omega (arith, e, p.some i d h)) (omega (arith, e, p.few i d h)) (λ m. e ∙ p.full i d m)

    -- one more piece, where the others are full
    pub packed_more : (xs : List X) (y : X) → IsPacked f room xs → ((i : ℕ) (d : X) → i < length xs → length (f (get_or xs i d)) ≡ room) → 0 < length (f y) → length (f y) ≤ room → IsPacked f room (xs ++ y ∷ [])
    packed_more xs y p all some few = record {
      some = λ j d hj. elim (cases_lt j (length xs)) as (λ _. 0 < length (f (get_or (xs ++ y ∷ []) j d))) [
        | inl h ↦ subst (λ x. 0 < length (f x)) (sym (get_or_append_left xs (y ∷ []) d j h)) (p.some j d h)
        | inr h ↦ subst (λ x. 0 < length (f x)) (sym (get_or_push xs y d j (omega (arith, h, hj, length_push xs y)))) some
      ];
      few = λ j d hj. elim (cases_lt j (length xs)) as (λ _. length (f (get_or (xs ++ y ∷ []) j d)) ≤ room) [
        | inl h ↦ subst (λ x. length (f x) ≤ room) (sym (get_or_append_left xs (y ∷ []) d j h)) (p.few j d h)
        | inr h ↦ subst (λ x. length (f x) ≤ room) (sym (get_or_push xs y d j (omega (arith, h, hj, length_push xs y)))) few
      ];
      full = λ j d hj.
          let h : j < length xs = omega (arith, hj, length_push xs y) in
          subst (λ x. length (f x) ≡ room) (sym (get_or_append_left xs (y ∷ []) d j h)) (all j d h);
    }

    -- where the last piece is full, all are
    pub all_full : (xs : List X) → IsPacked f room xs → ((i : ℕ) (d : X) → i + 1 ≡ length xs → room ≤ length (f (get_or xs i d))) → (i : ℕ) (d : X) → i < length xs → length (f (get_or xs i d)) ≡ room
    all_full xs p last i d h = elim (cases_lt (i + 1) (length xs)) as (λ _. length (f (get_or xs i d)) ≡ room) [
      | inl m ↦ p.full i d m
      | inr m ↦ omega (arith, p.few i d h, last i d (omega (arith, h, m)))
    ]

-- a copy of the pieces stands for the same list
pub zipped : {X T : Type 0} (f : X → List T) (xs ys : List X) → AllZip (λ x y. f y ≡ f x) xs ys → flat_map f ys ≡ flat_map f xs
zipped f [] [] z = refl
zipped f [] (y ∷ ys) z = absurd z
zipped f (x ∷ xs) [] z = absurd z
zipped f (x ∷ xs) (y ∷ ys) z = ap (λ r. r ++ flat_map f ys) z.0 ∙ ap (λ r. f x ++ r) (zipped f xs ys z.1)

pub packed_zipped : {X T : Type 0} (f : X → List T) (room : ℕ) (xs ys : List X) → AllZip (λ x y. f y ≡ f x) xs ys → IsPacked f room xs → IsPacked f room ys
packed_zipped f room xs ys z p =
    let long : length ys ≡ length xs = AllZip-long (λ x y. f y ≡ f x) xs ys z in
    record {
      some = λ i d h. subst (λ r. 0 < length r) (sym (AllZip-get_or (λ x y. f y ≡ f x) xs ys i d d z (omega (arith, h, long)))) (p.some i d (omega (arith, h, long)));
      few = λ i d h. subst (λ r. length r ≤ room) (sym (AllZip-get_or (λ x y. f y ≡ f x) xs ys i d d z (omega (arith, h, long)))) (p.few i d (omega (arith, h, long)));
      full = λ i d h. subst (λ r. length r ≡ room) (sym (AllZip-get_or (λ x y. f y ≡ f x) xs ys i d d z (omega (arith, h, long)))) (p.full i d (omega (arith, h, long)));
    }

-- copies that are equal in what they stand for
pub loose : {X Y T : Type 0} (v : X → Y) (f : Y → List T) (xs ys : List X) → AllZip (λ x y. v y ≡ v x) xs ys → AllZip (λ x y. f (v y) ≡ f (v x)) xs ys
loose v f [] [] z = tt
loose v f [] (y ∷ ys) z = absurd z
loose v f (x ∷ xs) [] z = absurd z
loose v f (x ∷ xs) (y ∷ ys) z = (ap f z.0, loose v f xs ys z.1)
