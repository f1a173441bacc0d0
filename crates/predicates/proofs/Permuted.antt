-- Two lists that have each element equally often have equal sums; so a list that has each element as often as its opposite sums to 0.
use Rattle.std.proofs.Common.{◌≡◌, refl, sym, ap, ◌∙◌, arith, List, [], ◌∷◌, map}
use Rattle.std.specs.Prelude.{ℤ, pos, ◌+ℤ◌, ◌<ℤ◌, ◌≤ℤ◌, Bool, true, false, cond}
use Rattle.std.proofs.lemmas.Int.{ints}
use Rattle.predicates.specs.Sums.{total}
use Rattle.predicates.specs.HalfOpen.{indicate}
use Rattle.predicates.proofs.Sums.{total-map, total-same, total-opposite}

-- how often x occurs
abbrev pub times : {X : Type 0} → (X → X → Bool) → X → List X → ℤ
times same x xs = total (λ y. indicate (same x y)) xs

-- a test of equality
pub record TellsEqual {X : Type 0} (same : X → X → Bool) : Type 0 where
  pub equal : (x y : X) → same x y ≡ true → x ≡ y
  pub self : (x : X) → same x x ≡ true

-- the list without its first x
abbrev pub erase : {X : Type 0} → (X → X → Bool) → X → List X → List X
erase same x [] = []
erase same x (y ∷ ys) = cond (same x y) ys (y ∷ erase same x ys)

indicated : (b : Bool) → pos 0 ≤ℤ indicate b
indicated true = omega (arith, ints)
indicated false = omega (arith, ints)

pub total-indicate : {X : Type 0} (p : X → Bool) (xs : List X) → pos 0 ≤ℤ total (λ x. indicate (p x)) xs
total-indicate p [] = omega (arith, ints)
total-indicate p (x ∷ xs) = sum (indicate (p x)) (total (λ y. indicate (p y)) xs) (indicated (p x)) (total-indicate p xs)
  where
    sum : (a b : ℤ) → pos 0 ≤ℤ a → pos 0 ≤ℤ b → pos 0 ≤ℤ (a +ℤ b)
    sum a b h k = omega (arith, ints, h, k)

pub total-erase : {X : Type 0} (same : X → X → Bool) → TellsEqual same → (f : X → ℤ) (x : X) (ys : List X) → pos 0 <ℤ times same x ys → total f ys ≡ f x +ℤ total f (erase same x ys)
total-erase same is f x [] h = absurd (omega (arith, ints, h))
total-erase {X} same is f x (y ∷ ys) h = step (same x y) refl (total-erase same is f x ys)
  where
    later : (b : Bool) (t : ℤ) → b ≡ false → pos 0 <ℤ (indicate b +ℤ t) → pos 0 <ℤ t
    later true t e k = cc
    later false t e k = omega (arith, ints, k)

    past : (a b s t : ℤ) → s ≡ b +ℤ t → a +ℤ s ≡ b +ℤ (a +ℤ t)
    past a b s t e = omega (arith, ints, e)

    step : (b : Bool) → same x y ≡ b → (pos 0 <ℤ times same x ys → total f ys ≡ f x +ℤ total f (erase same x ys)) → total f (y ∷ ys) ≡ f x +ℤ total f (cond b ys (y ∷ erase same x ys))
    step true e rest = ap (λ k. f k +ℤ total f ys) (sym (is.equal x y e))
    step false e rest = past (f y) (f x) (total f ys) (total f (erase same x ys)) (rest (later (same x y) (times same x ys) e h))

pub total-permuted : {X : Type 0} (same : X → X → Bool) → TellsEqual same → (f : X → ℤ) (xs ys : List X) → ((z : X) → times same z xs ≡ times same z ys) → total f xs ≡ total f ys
total-permuted same is f [] [] often = refl
total-permuted same is f [] (y ∷ ys) often = absurd (none (same y y) (times same y ys) (is.self y) (total-indicate (same y) ys) (often y))
  where
    none : (b : Bool) (t : ℤ) → b ≡ true → pos 0 ≤ℤ t → pos 0 ≡ indicate b +ℤ t → ⊥
    none true t e h k = omega (arith, ints, h, k)
    none false t e h k = cc
total-permuted {X} same is f (x ∷ xs) ys often =
    ap (λ k. f x +ℤ k) (total-permuted same is f xs (erase same x ys) fewer) ∙ sym (total-erase same is f x ys there)
  where
    some : (b : Bool) (t u : ℤ) → b ≡ true → pos 0 ≤ℤ t → indicate b +ℤ t ≡ u → pos 0 <ℤ u
    some true t u e h k = omega (arith, ints, h, k)
    some false t u e h k = cc

    there : pos 0 <ℤ times same x ys
    there = some (same x x) (times same x xs) (times same x ys) (is.self x) (total-indicate (same x) xs) (often x)

    cancelled : (a t u v : ℤ) → a +ℤ t ≡ u → u ≡ a +ℤ v → t ≡ v
    cancelled a t u v h k = omega (arith, ints, h, k)

    fewer : (z : X) → times same z xs ≡ times same z (erase same x ys)
    fewer z = cancelled (indicate (same z x)) (times same z xs) (times same z ys) (times same z (erase same x ys)) (often z) (total-erase same is (λ y. indicate (same z y)) x ys there)

-- a list with each element as often as its opposite, where opposite elements have opposite values
pub total-cancel : {X : Type 0} (same : X → X → Bool) → TellsEqual same → (back : X → X) → ((x y : X) → same (back x) y ≡ same x (back y))
    → (f : X → ℤ) → ((x : X) → f x +ℤ f (back x) ≡ pos 0) → (xs : List X) → ((x : X) → times same x xs ≡ times same (back x) xs) → total f xs ≡ pos 0
total-cancel {X} same is back turned f opposite xs matched =
    halves (total f xs) (total (λ x. f (back x)) xs) (total-permuted same is f xs (map back xs) often ∙ total-map f back xs) (total-opposite f (λ x. f (back x)) opposite xs)
  where
    often : (z : X) → times same z xs ≡ times same z (map back xs)
    often z =
        matched z
        ∙ total-same (λ y. indicate (same (back z) y)) (λ y. indicate (same z (back y))) (λ y. ap indicate (turned z y)) xs
        ∙ sym (total-map (λ y. indicate (same z y)) back xs)

    halves : (s t : ℤ) → s ≡ t → s +ℤ t ≡ pos 0 → s ≡ pos 0
    halves s t e h = omega (arith, ints, e, h)
