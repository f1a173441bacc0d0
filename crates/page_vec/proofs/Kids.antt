-- The lemmas of Pieces in the words of the calls: l is the list that the pieces xs stand for, r the room as the code has it, x the piece that was read.
use Rattle.std.proofs.Common.{◌≡◌, ℕ, ◌+◌, ◌/◌, ◌%◌, ◌<◌, List, [], ◌∷◌, ◌++◌, length, get_or, set, sym, ap, ◌∙◌, subst, arith}
use Rattle.std.specs.List.{flat_map}
use Rattle.std.proofs.lemmas.List.{length_push}
use Rattle.page_vec.specs.Packed.{IsPacked}
use Rattle.page_vec.proofs.Pieces.{in_piece, in_range, at_index, put_index, same_piece, packed_same, packed_put, grown}

module _ {X T : Type 0} {f : X → List T} {room : ℕ} {xs : List X} (p : IsPacked f room xs) where
  within : (l : List T) (k : ℕ) → flat_map f xs ≡ l → k < length l → k < length (flat_map f xs)
  within l k v h = subst (λ r. k < length r) (sym v) h

  pub kid_there : (some : 0 < room) (l : List T) (k r : ℕ) → flat_map f xs ≡ l → k < length l → r ≡ room → k / r < length xs
  kid_there some l k r v h e = subst (λ n. k / n < length xs) (sym e) (in_piece f room xs p some k (within l k v h))

  pub item_there : (some : 0 < room) (l : List T) (k r : ℕ) (x : X) → flat_map f xs ≡ l → k < length l → r ≡ room → x ≡ get_or xs (k / r) x → k % r < length (f x)
  item_there some l k r x v h e is =
      let at : x ≡ get_or xs (k / room) x = is ∙ ap (λ n. get_or xs (k / n) x) e in
      subst (λ n. k % n < length (f x)) (sym e) (subst (λ y. k % room < length (f y)) (sym at) (in_range f room xs p some k (within l k v h) x))

  pub item_read : (some : 0 < room) (l : List T) (k r : ℕ) (x : X) (w : T) → flat_map f xs ≡ l → k < length l → r ≡ room → x ≡ get_or xs (k / r) x → w ≡ get_or (f x) (k % r) w → w ≡ get_or l k w
  item_read some l k r x w v h e is got =
      let at : x ≡ get_or xs (k / room) x = is ∙ ap (λ n. get_or xs (k / n) x) e in
      got ∙ ap (λ n. get_or (f x) (k % n) w) e ∙ ap (λ y. get_or (f y) (k % room) w) at
      ∙ sym (at_index f room xs p some k (within l k v h) x w) ∙ ap (λ r. get_or r k w) v

  pub item_put : (some : 0 < room) (l : List T) (k r : ℕ) (x y : X) (w : T) → flat_map f xs ≡ l → k < length l → r ≡ room → x ≡ get_or xs (k / r) x → f y ≡ set (f x) (k % r) w → flat_map f (set xs (k / r) y) ≡ set l k w
  item_put some l k r x y w v h e is done =
      let at : x ≡ get_or xs (k / room) x = is ∙ ap (λ n. get_or xs (k / n) x) e in
      ap (λ n. flat_map f (set xs (k / n) y)) e
      ∙ put_index f room xs p some k (within l k v h) y x w (done ∙ ap (λ n. set (f x) (k % n) w) e ∙ ap (λ z. set (f z) (k % room) w) at)
      ∙ ap (λ r. set r k w) v

  -- one piece, the i-th, is y in place of x
  pub kept : (l : List T) (i : ℕ) (x y : X) → flat_map f xs ≡ l → i < length xs → x ≡ get_or xs i x → f y ≡ f x → flat_map f (set xs i y) ≡ l
  kept l i x y v h is same = same_piece f xs i y x h (same ∙ ap f is) ∙ v

  pub packed : (i : ℕ) (x y : X) → i < length xs → x ≡ get_or xs i x → length (f y) ≡ length (f x) → IsPacked f room (set xs i y)
  packed i x y h is long = packed_same f room xs i y x h p (long ∙ ap (λ z. length (f z)) is)

  -- the last piece x has one more item in y
  pub longer : (l : List T) (i : ℕ) (x y : X) (w : T) → flat_map f xs ≡ l → i + 1 ≡ length xs → x ≡ get_or xs i x → f y ≡ f x ++ w ∷ [] → flat_map f (set xs i y) ≡ l ++ w ∷ []
  longer l i x y w v h is more = grown f xs i y x w h (more ∙ ap (λ z. f z ++ w ∷ []) is) ∙ ap (λ r. r ++ w ∷ []) v

  pub packed_longer : (i : ℕ) (x y : X) (w : T) → i + 1 ≡ length xs → x ≡ get_or xs i x → length (f x) < room → f y ≡ f x ++ w ∷ [] → IsPacked f room (set xs i y)
  packed_longer i x y w h is free more =
      let long : length (f y) ≡ length (f x) + 1 = ap length more ∙ length_push (f x) w in
      packed_put f room xs i y (omega (arith, h)) p (omega (arith, long)) (omega (arith, long, free)) (λ m. absurd (omega (arith, m, h)))
