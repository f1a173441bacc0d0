-- How a text falls into words.
use Rattle.std.proofs.Common.{◌≡◌, ℕ, ◌+◌, ◌<◌, ◌≤◌, Bool, true, false, cond, List, [], ◌∷◌, length, take, drop, None, Some, refl, subst, arith}
use Rattle.std.specs.List.{position, position_or_len, onto_first}
use Rattle.std.proofs.lemmas.List.Splits.{slice_split_first, slice_split_none}
use Rattle.std.proofs.lemmas.Bool.{ltb-true, ltb-false}
use Rattle.std.proofs.lemmas.List.Sums.{fails_before_first}
use Rattle.line_protocol.specs.Grammar.{words_of, is_space, place, spot, level}

found_at : (b : Bool) (k at : ℕ) → cond b (Some k) None ≡ Some at → (b ≡ true) × (k ≡ at)
found_at true k at e = (refl, cc)
found_at false k at e = cc

none_at : (b : Bool) (k : ℕ) → cond b (Some k) None ≡ None → b ≡ false
none_at true k e = cc
none_at false k e = refl

pub words_found : (xs : List ℕ) (at : ℕ) → position is_space xs ≡ Some at → (at < length xs) × (words_of xs ≡ take at xs ∷ words_of (drop (at + 1) xs))
words_found xs at e =
    let h = found_at _ (position_or_len is_space xs) at e in
    let below : position_or_len is_space xs < length xs = ltb-true _ _ h.0 in
    (subst (λ (k : ℕ). k < length xs) h.1 below, subst (λ (k : ℕ). words_of xs ≡ take k xs ∷ words_of (drop (k + 1) xs)) h.1 (slice_split_first is_space xs 0 below))

pub words_single : (xs : List ℕ) → position is_space xs ≡ None → words_of xs ≡ xs ∷ []
words_single xs e =
    let past : length xs ≤ position_or_len is_space xs = ltb-false _ _ (none_at _ (position_or_len is_space xs) e) in
    slice_split_none is_space xs (λ k d h. fails_before_first is_space xs k d (omega arith))

onto_some : (x : ℕ) (ws : List (List ℕ)) → (w : List ℕ) × (vs : List (List ℕ)) × (onto_first x ws ≡ w ∷ vs)
onto_some x [] = (x ∷ [], [], refl)
onto_some x (w ∷ ws) = (x ∷ w, ws, refl)

-- a text has at least one word
pub words_some : (xs : List ℕ) → (w : List ℕ) × (ws : List (List ℕ)) × (words_of xs ≡ w ∷ ws)
words_some [] = ([], [], refl)
words_some (x ∷ xs) = elim (is_space x) as (λ t. (w : List ℕ) × (ws : List (List ℕ)) × (cond t ([] ∷ words_of xs) (onto_first x (words_of xs)) ≡ w ∷ ws)) [
  | true ↦ ([], words_of xs, refl)
  | false ↦ onto_some x (words_of xs)
]

pub more_than_two : (a b xs : List ℕ) → place (a ∷ b ∷ words_of xs) ≡ None
more_than_two a b xs = rw (words_some xs).2 refl

pub more_than_three : (a b c xs : List ℕ) → spot (a ∷ b ∷ c ∷ words_of xs) ≡ None
more_than_three a b c xs = rw (words_some xs).2 refl

pub more_than_one : (a xs : List ℕ) → level (a ∷ words_of xs) ≡ None
more_than_one a xs = rw (words_some xs).2 refl
