-- A map as the list of its pairs, a key and its value, in the order of the keys.
use Rattle.std.specs.Prelude.{◌≡◌, ℕ, ◌<◌, ◌≤◌, List, [], ◌∷◌, ◌++◌, length, filter, Option, Some, None, nat_eq, nat_lt, nat_le, cond, ⊤, ◌+◌, get_or, take, drop}

-- a key, then its value
abbrev pub Pairs : Type 0 → Type 0
Pairs V = List (ℕ × V)

-- the fact holds of each pair
abbrev pub Each : {V : Type 0} → (ℕ × V → Type 0) → Pairs V → Type 0
Each P [] = ⊤
Each P (p ∷ xs) = P p × Each P xs

-- each key is below the given one
abbrev pub AreBelow : {V : Type 0} → ℕ → Pairs V → Type 0
AreBelow key = Each (λ p. p.0 < key)

-- each key is above the given one
abbrev pub AreAbove : {V : Type 0} → ℕ → Pairs V → Type 0
AreAbove key = Each (λ p. key < p.0)

-- no key is below the given one
abbrev pub AreFrom : {V : Type 0} → ℕ → Pairs V → Type 0
AreFrom key = Each (λ p. key ≤ p.0)

-- each key is below those after it
abbrev pub IsInOrder : {V : Type 0} → Pairs V → Type 0
IsInOrder [] = ⊤
IsInOrder (p ∷ xs) = AreAbove p.0 xs × IsInOrder xs

-- the pairs whose keys are below the given one
abbrev pub below : {V : Type 0} → ℕ → Pairs V → Pairs V
below key = filter (λ p. nat_lt p.0 key)

-- the pairs whose keys are above the given one
abbrev pub above : {V : Type 0} → ℕ → Pairs V → Pairs V
above key = filter (λ p. nat_lt key p.0)

-- the pairs whose keys aren't below the given one
abbrev pub from_on : {V : Type 0} → ℕ → Pairs V → Pairs V
from_on key = filter (λ p. nat_le key p.0)

-- the value of a key, if it is there
abbrev pub value_of : {V : Type 0} → ℕ → Pairs V → Option V
value_of key [] = None
value_of key (p ∷ xs) = cond (nat_eq p.0 key) (Some p.1) (value_of key xs)

-- the map with the key at that value
abbrev pub put : {V : Type 0} → ℕ → V → Pairs V → Pairs V
put key value xs = below key xs ++ (key, value) ∷ above key xs

-- the map without the key
abbrev pub without : {V : Type 0} → ℕ → Pairs V → Pairs V
without key xs = below key xs ++ above key xs

-- the first key
abbrev pub first_key : {V : Type 0} → Pairs V → ℕ
first_key [] = 0
first_key (p ∷ xs) = p.0

-- the k-th pair has the key, so those before it are below and those after it above
pub record IsFoundAt {V : Type 0} (key : ℕ) (xs : Pairs V) (k : ℕ) : Type 0 where
  pub there : k < length xs
  pub here : (d : ℕ × V) → (get_or xs k d).0 ≡ key
  pub below : AreBelow key (take k xs)
  pub above : AreAbove key (drop (k + 1) xs)

-- no pair has the key, and the k-th is the first above it
pub record IsGapAt {V : Type 0} (key : ℕ) (xs : Pairs V) (k : ℕ) : Type 0 where
  pub bound : k ≤ length xs
  pub below : AreBelow key (take k xs)
  pub above : AreAbove key (drop k xs)
