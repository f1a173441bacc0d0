-- Odd counts.
use Rattle.std.proofs.Common.{◌≡◌, ℕ, ◌+◌, ◌%◌, arith, refl, ap, ◌∙◌, List, [], ◌∷◌, Bool, true, false, cond, nat_eq, length, zero-add, rules}
use Rattle.std.specs.Prelude.{not, fold, filter, count_by}
use Rattle.std.proofs.lemmas.List.Sums.{length-filter}

one_more : (odd : Bool) (n : ℕ) → (cond (not odd) 1 0 + n) % 2 ≡ (cond odd 1 0 + (n + 1)) % 2
one_more true n = omega arith
one_more false n = omega arith

turned_over : {X : Type 0} (odd : Bool) (xs : List X) → fold (λ a _. not a) odd xs ≡ nat_eq ((cond odd 1 0 + length xs) % 2) 1
turned_over true [] = refl
turned_over false [] = refl
turned_over odd (x ∷ xs) = turned_over (not odd) xs ∙ ap (λ n. nat_eq n 1) (one_more odd (length xs) ∙ ap (λ n. (cond odd 1 0 + n) % 2) (search rules))

-- what is turned over at each element that passes ends at whether their number is odd
pub odd_count : {X : Type 0} (test : X → Bool) (xs : List X) → fold (λ a _. not a) false (filter test xs) ≡ nat_eq (count_by test xs % 2) 1
odd_count test xs = turned_over false (filter test xs) ∙ ap (λ n. nat_eq (n % 2) 1) (zero-add (length (filter test xs)) ∙ length-filter test xs)
