-- How many slots are taken.
use Rattle.std.proofs.Common.{◌≤◌, ℕ, suc, Some, None, List, [], ◌∷◌, length, arith}
use Rattle.tri_pages.specs.Slots.{State, taken, taken_from}

length-taken_from : (n : ℕ) (states : List State) → length (taken_from n states) ≤ length states
length-taken_from n [] = omega arith
length-taken_from n (None ∷ states) = let h = length-taken_from (suc n) states in omega (arith, h)
length-taken_from n (Some o ∷ states) = let h = length-taken_from (suc n) states in omega (arith, h)

-- no more are taken than there are
pub length_taken : (pages : List State) → length (taken pages) ≤ length pages
length_taken pages = length-taken_from 0 pages
