-- Zeros and ones that sum to 1 have exactly one 1.
use Rattle.std.proofs.Common.{◌≡◌, ℕ, zero, suc, ◌⊎◌, inl, inr, refl, ap, ◌∙◌, arith, List, [], ◌∷◌}
use Rattle.std.specs.Prelude.{ℤ, pos, ◌+ℤ◌, ◌≤ℤ◌, Some, slice_get}
use Rattle.std.proofs.lemmas.Int.{ints}
use Rattle.predicates.specs.Sums.{total}

abbrev pub IsBit : ℤ → Type 0
IsBit z = (z ≡ pos 0) ⊎ (z ≡ pos 1)

-- each value is a bit
pub record AreBits {X : Type 0} (f : X → ℤ) (xs : List X) : Type 0 where
  pub bit : (k : ℕ) (x : X) → slice_get xs k ≡ Some x → IsBit (f x)

-- the one element whose value is 1
pub record TheOne {X : Type 0} (f : X → ℤ) (xs : List X) : Type 0 where
  pub index : ℕ
  pub item : X
  pub at : slice_get xs index ≡ Some item
  pub one : f item ≡ pos 1
  pub alone : (k : ℕ) (y : X) → slice_get xs k ≡ Some y → f y ≡ pos 1 → k ≡ index

AreBits-rest : {X : Type 0} (f : X → ℤ) (x : X) (xs : List X) → AreBits f (x ∷ xs) → AreBits f xs
AreBits-rest f x xs h = record { bit = λ k y at. h.bit (suc k) y at }

bits-nonneg : {X : Type 0} (f : X → ℤ) (xs : List X) → AreBits f xs → pos 0 ≤ℤ total f xs
bits-nonneg f [] h = omega (arith, ints)
bits-nonneg f (x ∷ xs) h = sum (f x) (total f xs) (h.bit zero x refl) (bits-nonneg f xs (AreBits-rest f x xs h))
  where
    sum : (a b : ℤ) → IsBit a → pos 0 ≤ℤ b → pos 0 ≤ℤ (a +ℤ b)
    sum a b (inl e) k = omega (arith, ints, e, k)
    sum a b (inr e) k = omega (arith, ints, e, k)

none_of : {X : Type 0} (f : X → ℤ) (xs : List X) → AreBits f xs → total f xs ≡ pos 0 → (k : ℕ) (y : X) → slice_get xs k ≡ Some y → f y ≡ pos 1 → ⊥
none_of f [] h e k y at one = cc
none_of {X} f (x ∷ xs) h e zero y at one =
    let same : x ≡ y = cc in
    too_much (f x) (total f xs) (bits-nonneg f xs (AreBits-rest f x xs h)) e (ap f same ∙ one)
  where
    too_much : (a b : ℤ) → pos 0 ≤ℤ b → a +ℤ b ≡ pos 0 → a ≡ pos 1 → ⊥
    too_much a b k e one = omega (arith, ints, k, e, one)
none_of f (x ∷ xs) h e (suc k) y at one =
    let bits = AreBits-rest f x xs h in
    none_of f xs bits (rest (f x) (total f xs) (h.bit zero x refl) (bits-nonneg f xs bits) e) k y at one
  where
    rest : (a b : ℤ) → IsBit a → pos 0 ≤ℤ b → a +ℤ b ≡ pos 0 → b ≡ pos 0
    rest a b (inl z) k e = omega (arith, ints, z, k, e)
    rest a b (inr z) k e = absurd (omega (arith, ints, z, k, e))

pub one_of : {X : Type 0} (f : X → ℤ) (xs : List X) → AreBits f xs → total f xs ≡ pos 1 → TheOne f xs
one_of f [] h e = absurd (omega (arith, ints, e))
one_of {X} f (x ∷ xs) h e = by (h.bit zero x refl) (one_of f xs bits)
  where
    bits : AreBits f xs
    bits = AreBits-rest f x xs h

    after_zero : (a b : ℤ) → a ≡ pos 0 → a +ℤ b ≡ pos 1 → b ≡ pos 1
    after_zero a b z e = omega (arith, ints, z, e)

    after_one : (a b : ℤ) → a ≡ pos 1 → a +ℤ b ≡ pos 1 → b ≡ pos 0
    after_one a b z e = omega (arith, ints, z, e)

    differ : (a : ℤ) → a ≡ pos 0 → a ≡ pos 1 → ⊥
    differ a z o = omega (arith, ints, z, o)

    later : TheOne f xs → f x ≡ pos 0 → (k : ℕ) (y : X) → slice_get (x ∷ xs) k ≡ Some y → f y ≡ pos 1 → (t : TheOne f xs) → ((j : ℕ) → slice_get xs j ≡ Some y → j ≡ t.index) → k ≡ suc t.index
    later r z zero y at one t same = let e : x ≡ y = cc in absurd (differ (f x) z (ap f e ∙ one))
    later r z (suc k) y at one t same = ap suc (same k at)

    first : f x ≡ pos 1 → (k : ℕ) (y : X) → slice_get (x ∷ xs) k ≡ Some y → f y ≡ pos 1 → k ≡ zero
    first o zero y at one = refl
    first o (suc k) y at one = absurd (none_of f xs bits (after_one (f x) (total f xs) o e) k y at one)

    by : IsBit (f x) → (total f xs ≡ pos 1 → TheOne f xs) → TheOne f (x ∷ xs)
    by (inl z) rest =
        let r = rest (after_zero (f x) (total f xs) z e) in
        record { index = suc r.index; item = r.item; at = r.at; one = r.one; alone = λ k y at one. later r z k y at one r (λ j there. r.alone j y there one) }
    by (inr o) rest = record { index = zero; item = x; at = refl; one = o; alone = first o }
