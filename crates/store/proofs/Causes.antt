-- Causes in their order, and the places of the first of something.
use Rattle.std.proofs.Common.{◌≡◌, ℕ, ◌+◌, ◌<◌, ◌≤◌, ◌++◌, refl, sym, ap, ◌∙◌, arith, List, [], ◌∷◌, Bool, true, false, cond, Some, None, length}
use Rattle.std.specs.Prelude.{Option, option_map, nat_lt, take, drop}
use Rattle.std.specs.List.{position, position_or_len, position_from}
use Rattle.std.proofs.lemmas.Bool.{ltb-true}
use Rattle.std.proofs.lemmas.Slice.Zip.{length-zip}
use Rattle.std.proofs.lemmas.Iterator.Adapters.{position_from-zero}
use Rattle.ground_model.specs.declared.refusal.Refusal.{Refusal}
use Rattle.ground_model.specs.Line.{Line, links}
use Rattle.ground_model.specs.Kind.{is_ring}
use Rattle.ground_model.specs.Refusal.{first_of}

-- ---- the first of some causes

pub first_alone : (o : Option Refusal) → first_of (o ∷ []) ≡ o
first_alone None = refl
first_alone (Some cause) = refl

pub one_found : (a : Option Refusal) (rest : List (Option Refusal)) (cause : Refusal) → Some cause ≡ a → Some cause ≡ first_of (a ∷ rest)
one_found None rest cause e = cc
one_found (Some other) rest cause e = e

pub one_passed : (a : Option Refusal) (rest : List (Option Refusal)) → None ≡ a → first_of rest ≡ first_of (a ∷ rest)
one_passed None rest e = refl
one_passed (Some other) rest e = cc

pub two_found : (a b : Option Refusal) (rest : List (Option Refusal)) (cause : Refusal) → Some cause ≡ first_of (a ∷ b ∷ []) → Some cause ≡ first_of (a ∷ b ∷ rest)
two_found None None rest cause e = cc
two_found None (Some other) rest cause e = e
two_found (Some other) b rest cause e = e

pub two_passed : (a b : Option Refusal) (rest : List (Option Refusal)) → None ≡ first_of (a ∷ b ∷ []) → first_of rest ≡ first_of (a ∷ b ∷ rest)
two_passed None None rest e = refl
two_passed None (Some other) rest e = cc
two_passed (Some other) b rest e = cc

-- ---- the first that passes

shifted : {X : Type 0} (test : X → Bool) (n i : ℕ) (xs : List X) → position_from test (i + n) xs ≡ option_map (λ k. k + n) (position_from test i xs)
shifted test n i [] = refl
shifted test n i (x ∷ xs) = at (test x) (ap (λ m. position_from test m xs) (omega arith) ∙ shifted test n (i + 1) xs)
  where
    at : (b : Bool) → position_from test (i + n + 1) xs ≡ option_map (λ k. k + n) (position_from test (i + 1) xs) → cond b (Some (i + n)) (position_from test (i + n + 1) xs) ≡ option_map (λ k. k + n) (cond b (Some i) (position_from test (i + 1) xs))
    at true e = refl
    at false e = e

-- counted from n instead of 0
pub position-from : {X : Type 0} (test : X → Bool) (n : ℕ) (xs : List X) → position_from test n xs ≡ option_map (λ k. k + n) (position test xs)
position-from test n xs = ap (λ m. position_from test m xs) (omega arith) ∙ shifted test n 0 xs ∙ ap (option_map (λ k. k + n)) (sym (position_from-zero test xs))

-- what was found, where the list that was searched equals another
pub placed : {X : Type 0} (test : X → Bool) (seen xs : List X) (found : Option ℕ) → found ≡ position test seen → seen ≡ xs → position_from test 1 xs ≡ option_map (λ k. k + 1) found
placed test seen xs found is same = position-from test 1 xs ∙ ap (option_map (λ k. k + 1)) (sym (is ∙ ap (position test) same))

some_of : {X : Type 0} (x y : X) → Some x ≡ Some y → x ≡ y
some_of x y e = cc

pub position-within : {X : Type 0} (test : X → Bool) (xs : List X) (k : ℕ) → Some k ≡ position test xs → k < length xs
position-within test xs k e = within (nat_lt (position_or_len test xs) (length xs)) refl e
  where
    within : (b : Bool) → nat_lt (position_or_len test xs) (length xs) ≡ b → Some k ≡ cond b (Some (position_or_len test xs)) None → k < length xs
    within true h e = omega (arith, some_of k (position_or_len test xs) e, ltb-true (position_or_len test xs) (length xs) h)
    within false h e = cc

-- a line has no more links than places
pub links-few : (line : Line) → length (links line) ≤ length line.places
links-few line = rw (length-zip line.places (drop 1 line.places ++ cond (is_ring line.kind) (take 1 line.places) [])) (omega arith)
