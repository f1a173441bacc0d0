-- Searches of a list, and of its pairs.
use Rattle.std.proofs.Common.{◌≡◌, refl, ap, ◌∙◌, List, [], ◌∷◌, Bool, true, false, cond}
use Rattle.std.specs.Prelude.{map, Option, Some, None, option_map, find}
use Rattle.std.specs.List.{All, flat_map}
use Rattle.std.specs.Option.{option_or}
use Rattle.std.proofs.lemmas.List.Folds.{find-append}
use Rattle.std.proofs.lemmas.List.Elements.{All-head, All-tail, All-cons, All-nil}

-- ---- one element

pub found-alike : {X : Type 0} (f g : X → Bool) (xs : List X) → All (λ x. f x ≡ g x) xs → find f xs ≡ find g xs
found-alike f g [] h = refl
found-alike f g (x ∷ xs) h =
    ap (λ b. cond b (Some x) (find f xs)) (All-head (λ x. f x ≡ g x) x xs h) ∙ ap (cond (g x) (Some x)) (found-alike f g xs (All-tail (λ x. f x ≡ g x) x xs h))

pub found-none : {X : Type 0} (f : X → Bool) (xs : List X) → All (λ x. f x ≡ false) xs → find f xs ≡ None
found-none f [] h = refl
found-none f (x ∷ xs) h = ap (λ b. cond b (Some x) (find f xs)) (All-head (λ x. f x ≡ false) x xs h) ∙ found-none f xs (All-tail (λ x. f x ≡ false) x xs h)

pub all-always : {X : Type 0} (P : X → Type 0) → ((x : X) → P x) → (xs : List X) → All P xs
all-always P h [] = All-nil P
all-always P h (x ∷ xs) = All-cons P x xs (h x) (all-always P h xs)

-- what is true of each image is true at each element
pub all-of_map : {X Y : Type 0} (P : Y → Type 0) (f : X → Y) (xs : List X) → All P (map f xs) → All (λ x. P (f x)) xs
all-of_map P f [] h = All-nil (λ x. P (f x))
all-of_map P f (x ∷ xs) h = All-cons (λ x. P (f x)) x xs (All-head P (f x) (map f xs) h) (all-of_map P f xs (All-tail P (f x) (map f xs) h))

-- ---- a pair

-- the first pair that passes, of one of xs and one of ys
unfoldable pub first_pair : {X : Type 0} → (X → X → Bool) → List X → List X → Option (X × X)
first_pair test ys [] = None
first_pair test ys (x ∷ xs) = option_or (option_map (λ y. (x, y)) (find (test x) ys)) (first_pair test ys xs)

found-map : {X Y : Type 0} (p : Y → Bool) (g : X → Y) (xs : List X) → find p (map g xs) ≡ option_map g (find (λ x. p (g x)) xs)
found-map p g [] = refl
found-map p g (x ∷ xs) = at (p (g x)) (found-map p g xs)
  where
    at : (b : Bool) → find p (map g xs) ≡ option_map g (find (λ x. p (g x)) xs) → cond b (Some (g x)) (find p (map g xs)) ≡ option_map g (cond b (Some x) (find (λ x. p (g x)) xs))
    at true h = refl
    at false h = h

pub pairs-first : {X : Type 0} (test : X → X → Bool) (ys xs : List X) → find (λ pair. test pair.0 pair.1) (flat_map (λ x. map (λ y. (x, y)) ys) xs) ≡ first_pair test ys xs
unfolding first_pair
pairs-first test ys [] = refl
pairs-first test ys (x ∷ xs) =
    find-append (λ pair. test pair.0 pair.1) (map (λ y. (x, y)) ys) (flat_map (λ x. map (λ y. (x, y)) ys) xs)
    ∙ ap (λ o. option_or o (find (λ pair. test pair.0 pair.1) (flat_map (λ x. map (λ y. (x, y)) ys) xs))) (found-map (λ pair. test pair.0 pair.1) (λ y. (x, y)) ys)
    ∙ ap (option_or (option_map (λ y. (x, y)) (find (test x) ys))) (pairs-first test ys xs)

pub first_pair-alike : {X : Type 0} (f g : X → X → Bool) (ys xs : List X) → All (λ x. All (λ y. f x y ≡ g x y) ys) xs → first_pair f ys xs ≡ first_pair g ys xs
unfolding first_pair
first_pair-alike f g ys [] h = refl
first_pair-alike f g ys (x ∷ xs) h =
    ap (λ o. option_or (option_map (λ y. (x, y)) o) (first_pair f ys xs)) (found-alike (f x) (g x) ys (All-head (λ x. All (λ y. f x y ≡ g x y) ys) x xs h))
    ∙ ap (option_or (option_map (λ y. (x, y)) (find (g x) ys))) (first_pair-alike f g ys xs (All-tail (λ x. All (λ y. f x y ≡ g x y) ys) x xs h))

-- where the first of xs has a partner, they are the pair
pub first_pair-some : {X : Type 0} (test : X → X → Bool) (ys : List X) (x : X) (xs : List X) (y : X) → find (test x) ys ≡ Some y → first_pair test ys (x ∷ xs) ≡ Some (x, y)
unfolding first_pair
first_pair-some test ys x xs y h = ap (λ o. option_or (option_map (λ y. (x, y)) o) (first_pair test ys xs)) h

-- and else it doesn't count
pub first_pair-none : {X : Type 0} (test : X → X → Bool) (ys : List X) (x : X) (xs : List X) → find (test x) ys ≡ None → first_pair test ys (x ∷ xs) ≡ first_pair test ys xs
unfolding first_pair
first_pair-none test ys x xs h = ap (λ o. option_or (option_map (λ y. (x, y)) o) (first_pair test ys xs)) h

pub first_pair-nil : {X : Type 0} (test : X → X → Bool) (ys : List X) → first_pair test ys [] ≡ None
unfolding first_pair
first_pair-nil test ys = refl
