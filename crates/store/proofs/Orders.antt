-- Lists in strict order, and lists made of them.
use Rattle.std.proofs.Common.{◌≡◌, refl, List, [], ◌∷◌, ◌++◌, Bool, true, false, cond}
use Rattle.std.specs.Prelude.{map}
use Rattle.std.specs.List.{AllByRecursion, filter, flat_map}
use Rattle.std.specs.List.Sorted.{IsStrictlySortedBy}
use Rattle.std.specs.declared.cmp.Ordering.{Ordering}
use Rattle.std.specs.declared.cmp.Ordering.TheVariants.{Less}

-- ---- what holds of each

pub each-always : {X : Type 0} (P : X → Type 0) → ((x : X) → P x) → (xs : List X) → AllByRecursion P xs
each-always P h [] = tt
each-always P h (x ∷ xs) = (h x, each-always P h xs)

pub each-implied : {X : Type 0} (P Q : X → Type 0) → ((x : X) → P x → Q x) → (xs : List X) → AllByRecursion P xs → AllByRecursion Q xs
each-implied P Q f [] h = tt
each-implied P Q f (x ∷ xs) h = (f x h.0, each-implied P Q f xs h.1)

pub each-append : {X : Type 0} (P : X → Type 0) (xs ys : List X) → AllByRecursion P xs → AllByRecursion P ys → AllByRecursion P (xs ++ ys)
each-append P [] ys h k = k
each-append P (x ∷ xs) ys h k = (h.0, each-append P xs ys h.1 k)

pub each-map : {X Y : Type 0} (P : Y → Type 0) (g : X → Y) (xs : List X) → AllByRecursion (λ x. P (g x)) xs → AllByRecursion P (map g xs)
each-map P g [] h = tt
each-map P g (x ∷ xs) h = (h.0, each-map P g xs h.1)

pub each-flat_map : {X Y : Type 0} (P : Y → Type 0) (g : X → List Y) → ((x : X) → AllByRecursion P (g x)) → (xs : List X) → AllByRecursion P (flat_map g xs)
each-flat_map P g h [] = tt
each-flat_map P g h (x ∷ xs) = each-append P (g x) (flat_map g xs) (h x) (each-flat_map P g h xs)

-- what is kept passes the test
pub each-filter : {X : Type 0} (p : X → Bool) (xs : List X) → AllByRecursion (λ x. p x ≡ true) (filter p xs)
each-filter p [] = tt
each-filter {X} p (x ∷ xs) = by_test (p x) refl (each-filter p xs)
  where
    by_test : (t : Bool) → p x ≡ t → AllByRecursion (λ y. p y ≡ true) (filter p xs) → AllByRecursion (λ y. p y ≡ true) (cond t (x ∷ filter p xs) (filter p xs))
    by_test true e rest = (e, rest)
    by_test false e rest = rest

-- what holds of each holds of those that are kept
pub each-kept : {X : Type 0} (P : X → Type 0) (p : X → Bool) (xs : List X) → AllByRecursion P xs → AllByRecursion P (filter p xs)
each-kept P p [] h = tt
each-kept {X} P p (x ∷ xs) h = by_test (p x) (each-kept P p xs h.1)
  where
    by_test : (t : Bool) → AllByRecursion P (filter p xs) → AllByRecursion P (cond t (x ∷ filter p xs) (filter p xs))
    by_test true rest = (h.0, rest)
    by_test false rest = rest

-- ---- strict order

pub sorted-map : {X Y : Type 0} (R : Y → Y → Ordering) (g : X → Y) (xs : List X) → IsStrictlySortedBy (λ x y. R (g x) (g y)) xs → IsStrictlySortedBy R (map g xs)
unfolding IsStrictlySortedBy
sorted-map R g [] h = tt
sorted-map R g (x ∷ xs) h = (each-map (λ y. R (g x) y ≡ Less) g xs h.0, sorted-map R g xs h.1)

pub sorted-implied : {X : Type 0} (R S : X → X → Ordering) → ((x y : X) → R x y ≡ Less → S x y ≡ Less) → (xs : List X) → IsStrictlySortedBy R xs → IsStrictlySortedBy S xs
unfolding IsStrictlySortedBy
sorted-implied R S f [] h = tt
sorted-implied R S f (x ∷ xs) h = (each-implied (λ y. R x y ≡ Less) (λ y. S x y ≡ Less) (λ y l. f x y l) xs h.0, sorted-implied R S f xs h.1)

pub sorted-append : {X : Type 0} (R : X → X → Ordering) (xs ys : List X) → IsStrictlySortedBy R xs → IsStrictlySortedBy R ys → AllByRecursion (λ x. AllByRecursion (λ y. R x y ≡ Less) ys) xs → IsStrictlySortedBy R (xs ++ ys)
unfolding IsStrictlySortedBy
sorted-append R [] ys h k before = k
sorted-append R (x ∷ xs) ys h k before = (each-append (λ y. R x y ≡ Less) xs ys h.0 before.0, sorted-append R xs ys h.1 k before.1)

-- y, of the list of x, comes before all of the lists of these
before_all : {X Y : Type 0} (S : X → X → Ordering) (R : Y → Y → Ordering) (M : X → Y → Type 0) (g : X → List Y) → ((x : X) → AllByRecursion (M x) (g x)) → ((x z : X) (y w : Y) → S x z ≡ Less → M x y → M z w → R y w ≡ Less)
    → (x : X) (y : Y) → M x y → (zs : List X) → AllByRecursion (λ z. S x z ≡ Less) zs → AllByRecursion (λ w. R y w ≡ Less) (flat_map g zs)
before_all S R M g has less x y m [] h = tt
before_all S R M g has less x y m (z ∷ zs) h =
    each-append (λ w. R y w ≡ Less) (g z) (flat_map g zs) (each-implied (M z) (λ w. R y w ≡ Less) (λ w n. less x z y w h.0 m n) (g z) (has z)) (before_all S R M g has less x y m zs h.1)

-- lists in order, one after another: M says of what list an element is
pub sorted-flat_map : {X Y : Type 0} (S : X → X → Ordering) (R : Y → Y → Ordering) (M : X → Y → Type 0) (g : X → List Y) → ((x : X) → IsStrictlySortedBy R (g x)) → ((x : X) → AllByRecursion (M x) (g x)) → ((x z : X) (y w : Y) → S x z ≡ Less → M x y → M z w → R y w ≡ Less)
    → (xs : List X) → IsStrictlySortedBy S xs → IsStrictlySortedBy R (flat_map g xs)
unfolding IsStrictlySortedBy
sorted-flat_map S R M g each has less [] h = tt
sorted-flat_map S R M g each has less (x ∷ xs) h =
    sorted-append R (g x) (flat_map g xs) (each x) (sorted-flat_map S R M g each has less xs h.1)
    (each-implied (M x) (λ y. AllByRecursion (λ w. R y w ≡ Less) (flat_map g xs)) (λ y m. before_all S R M g has less x y m xs h.0) (g x) (has x))
