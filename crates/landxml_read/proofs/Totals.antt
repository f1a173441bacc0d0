-- How many faults of a list pass a test.
use Rattle.std.proofs.Common.{◌≡◌, ℕ, ◌+◌, Bool, cond, List, [], ◌∷◌, ◌++◌, flat_map, refl, ◌∙◌, ap, arith}
use Rattle.landxml_read.specs.Faults.{Fault}

-- how many pass the test
abbrev pub total : (Fault → Bool) → List Fault → ℕ
total p [] = 0
total p (f ∷ fs) = cond (p f) 1 0 + total p fs

-- how many of those of some things do
abbrev pub totals : {A : Type 0} → (Fault → Bool) → (A → List Fault) → List A → ℕ
totals p f [] = 0
totals p f (x ∷ xs) = total p (f x) + totals p f xs

pub total_more : (p : Fault → Bool) (xs ys : List Fault) → total p (xs ++ ys) ≡ total p xs + total p ys
total_more p [] ys = omega arith
total_more p (x ∷ xs) ys = let e = total_more p xs ys in omega (arith, e)

pub totals_more : {A : Type 0} (p : Fault → Bool) (f : A → List Fault) (xs ys : List A) → totals p f (xs ++ ys) ≡ totals p f xs + totals p f ys
totals_more p f [] ys = omega arith
totals_more p f (x ∷ xs) ys = let e = totals_more p f xs ys in omega (arith, e)

pub total_flat : {A : Type 0} (p : Fault → Bool) (f : A → List Fault) (xs : List A) → total p (flat_map f xs) ≡ totals p f xs
total_flat p f [] = refl
total_flat p f (x ∷ xs) = total_more p (f x) (flat_map f xs) ∙ ap (λ n. total p (f x) + n) (total_flat p f xs)
