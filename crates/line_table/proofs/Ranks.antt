-- The elements of a list from one rank on and below another, from either end.
use Rattle.std.proofs.Common.{◌≡◌, ℕ, ◌+◌, ◌-◌, ◌<◌, ◌≤◌, List, [], ◌∷◌, ◌++◌, length, get_or, take, drop, Some, None, suc, refl, sym, ap, ◌∙◌, subst, arith, length-drop, inl, inr}
use Rattle.std.specs.Prelude.{slice_get, nat_le}
use Rattle.std.specs.List.{All}
use Rattle.std.proofs.lemmas.List.{take-append-drop, take_all, take_more, drop_more, drop-append-le, drop-take, length-take-le}
use Rattle.std.proofs.lemmas.List.Elements.{All-get_or, filter-append}
use Rattle.std.proofs.lemmas.Option.{slice_get_cases, slice_get_within, get_or_from_slice_get}
use Rattle.page_index.specs.Pairs.{Pairs, IsInOrder, from_on}
use Rattle.page_index.specs.Parts.{IsFront}
use Rattle.page_index.proofs.Order.{from_above, from_all, from_none}
use Rattle.page_index.proofs.Found.{after_is, before_is}

module _ {X : Type 0} (xs : List X) where
  pub all_of : (n : ℕ) → n ≡ length xs → take (n - 0) xs ≡ xs
  all_of n e = take_all (n - 0) xs (omega (arith, e))

  pub none_of : (f b : ℕ) → f ≡ b → take (b - f) (drop f xs) ≡ []
  none_of f b e = ap (λ n. take n (drop f xs)) {x = b - f} {y = 0} (omega (arith, e))

  -- ---- from the front: some elements in a row from rank f on

  heads : (f : ℕ) (x : X) (rest : List X) → f < length xs → take (length (x ∷ rest)) (drop f xs) ≡ x ∷ rest → get_or xs f x ∷ take (length rest) (drop (f + 1) xs) ≡ x ∷ rest
  heads f x rest lt first = sym (ap (take (length (x ∷ rest))) (drop_more xs f x lt)) ∙ first

  pub here_of : (f : ℕ) (x : X) (rest : List X) → f < length xs → take (length (x ∷ rest)) (drop f xs) ≡ x ∷ rest → get_or xs f x ≡ x
  here_of f x rest lt first = let e : get_or xs f x ∷ take (length rest) (drop (f + 1) xs) ≡ x ∷ rest = heads f x rest lt first in cc

  pub rest_of : (f : ℕ) (x : X) (rest : List X) → f < length xs → take (length (x ∷ rest)) (drop f xs) ≡ x ∷ rest → take (length rest) (drop (f + 1) xs) ≡ rest
  rest_of f x rest lt first = let e : get_or xs f x ∷ take (length rest) (drop (f + 1) xs) ≡ x ∷ rest = heads f x rest lt first in cc

  -- the first of those at hand, and the others
  pub walked : (run rest : List X) (f : ℕ) (x : X) → f < length xs → run ≡ x ∷ rest → take (length run) (drop f xs) ≡ run → (get_or xs f x ≡ x) × (take (length rest) (drop (f + 1) xs) ≡ rest)
  walked run rest f x lt is at_hand =
      let first : take (length (x ∷ rest)) (drop f xs) ≡ x ∷ rest = subst (λ (ys : List X). take (length ys) (drop f xs) ≡ ys) is at_hand in
      (here_of f x rest lt first, rest_of f x rest lt first)

  pub first_of : (f b : ℕ) (x : X) → f < b → f < length xs → get_or xs f x ≡ x → take (b - f) (drop f xs) ≡ x ∷ take (b - (f + 1)) (drop (f + 1) xs)
  first_of f b x lt within here =
      ap (take (b - f)) (drop_more xs f x within)
      ∙ ap (λ n. take n (get_or xs f x ∷ drop (f + 1) xs)) {x = b - f} {y = suc (b - (f + 1))} (omega (arith, lt))
      ∙ ap (λ y. y ∷ take (b - (f + 1)) (drop (f + 1) xs)) here

  -- ---- from the back

  pub last_of : (f b : ℕ) (x : X) → f < b → slice_get xs (b - 1) ≡ Some x → take (b - f) (drop f xs) ≡ take ((b - 1) - f) (drop f xs) ++ x ∷ []
  last_of f b x lt at =
      let within : b - 1 < length xs = slice_get_within xs (b - 1) x at in
      let ends : take b xs ≡ take (b - 1) xs ++ x ∷ [] =
      ap (λ n. take n xs) {x = b} {y = b - 1 + 1} (omega (arith, lt)) ∙ take_more xs (b - 1) x within
      ∙ ap (λ y. take (b - 1) xs ++ y ∷ []) (get_or_from_slice_get xs (b - 1) x x at) in
      let most : length (take (b - 1) xs) ≡ b - 1 = length-take-le (b - 1) xs (omega (arith, within)) in
      sym (drop-take f (b - f) xs) ∙ ap (λ n. drop f (take n xs)) {x = f + (b - f)} {y = b} (omega (arith, lt)) ∙ ap (drop f) ends
      ∙ drop-append-le f (take (b - 1) xs) (x ∷ []) (omega (arith, lt, most))
      ∙ ap (λ n. drop f (take n xs) ++ x ∷ []) {x = b - 1} {y = f + ((b - 1) - f)} (omega (arith, lt)) ∙ ap (λ r. r ++ x ∷ []) (drop-take f ((b - 1) - f) xs)

  -- ---- what is true of each

  pub each_at : (P : X → Type 0) (k : ℕ) (x : X) → All P xs → k < length xs → get_or xs k x ≡ x → P x
  each_at P k x all within here = subst P here (All-get_or P xs k x within all)

  pub each_of : (P : X → Type 0) (k : ℕ) (x : X) → All P xs → slice_get xs k ≡ Some x → P x
  each_of P k x all at = subst P (get_or_from_slice_get xs k x x at) (All-get_or P xs k x (slice_get_within xs k x at) all)

-- ---- in an index, from a rank on is from its key on

from_rank : {V : Type 0} → (xs : Pairs V) (f : ℕ) (d : ℕ × V) → IsInOrder xs → f < length xs → from_on (get_or xs f d).0 xs ≡ drop f xs
from_rank xs f d order lt =
    ap (from_on (get_or xs f d).0) (sym (take-append-drop f xs))
    ∙ filter-append (λ p. nat_le (get_or xs f d).0 p.0) (take f xs) (drop f xs)
    ∙ ap (λ r. r ++ from_on (get_or xs f d).0 (drop f xs)) (from_none (get_or xs f d).0 (take f xs) (before_is xs f d order lt))
    ∙ ap (from_on (get_or xs f d).0) (drop_more xs f d lt)
    ∙ from_all (get_or xs f d).0 (get_or xs f d ∷ drop (f + 1) xs) (omega arith, from_above (get_or xs f d).0 (drop (f + 1) xs) (after_is xs f d order lt))
    ∙ sym (drop_more xs f d lt)

pub front_at : {V : Type 0} → (xs run : Pairs V) (f : ℕ) (p : ℕ × V) → IsInOrder xs → slice_get xs f ≡ Some p → IsFront run (from_on p.0 xs) → IsFront run (drop f xs)
front_at xs run f p order at front =
    let lt : f < length xs = slice_get_within xs f p at in
    subst (IsFront run) (ap (λ q. from_on q.0 xs) (sym (get_or_from_slice_get xs f p p at)) ∙ from_rank xs f p order lt) front

pub front_none : {V : Type 0} → (xs : Pairs V) (f : ℕ) → slice_get xs f ≡ None → IsFront [] (drop f xs)
front_none xs f none = elim (slice_get_cases xs f).1 as (λ _. IsFront [] (drop f xs)) [
  | inl w ↦ let e : Some w.0 ≡ None = sym w.2 ∙ none in cc
  | inr h ↦ record {
    first = refl;
    some = λ more. absurd (omega (arith, h.0, more, length-drop f xs));
  }
]
