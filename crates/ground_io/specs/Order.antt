-- In which order an object's reads and writes came, and what each moved.
use Rattle.std.specs.Prelude.{◌≡◌, ◌≤◌, ◌++◌, ◌∷◌, [], ⊤, ℕ, List, length, map, take, MatchResult}
use Rattle.std.specs.List.{concat}
use Rattle.std.specs.declared.result.Result.{Result}
use Rattle.std.specs.declared.option.Option.{Option}
use Rattle.std.specs.declared.option.Option.TheVariants.{None, Some}

-- a call that didn't fail: a read that gave these bytes, none at the end, or a write that took these
pub data Event : Type 0 where
  Received : List ℕ → Event
  Sent : List ℕ → Event

-- a known order goes on with these events
abbrev pub GoesOnWith : Option (List Event) → Option (List Event) → List Event → Type 0
GoesOnWith None new events = ⊤
GoesOnWith (Some xs) None events = ⊥
GoesOnWith (Some xs) (Some ys) events = ys ≡ xs ++ events

-- a known order stays as it was
abbrev pub KeepsOrder : Option (List Event) → Option (List Event) → Type 0
KeepsOrder None new = ⊤
KeepsOrder (Some xs) None = ⊥
KeepsOrder (Some xs) (Some ys) = ys ≡ xs

-- a read that gave n bytes is the next event, and one that failed is none
abbrev pub AddsRead : {E : Type 0} → Option (List Event) → Option (List Event) → Result ℕ E → List ℕ → Type 0
AddsRead old new r buf = MatchResult r (λ n. GoesOnWith old new (Received (take n buf) ∷ [])) (λ _. KeepsOrder old new)

-- a write that took n bytes is the next event, and one that failed is none
abbrev pub AddsWrite : {E : Type 0} → Option (List Event) → Option (List Event) → Result ℕ E → List ℕ → Type 0
AddsWrite old new r piece = MatchResult r (λ n. GoesOnWith old new (Sent (take n piece) ∷ [])) (λ _. KeepsOrder old new)

-- the next events are writes alone, which together took this text
abbrev pub SendsAll : Option (List Event) → Option (List Event) → List ℕ → Type 0
SendsAll old new text = (pieces : List (List ℕ)) × GoesOnWith old new (map Sent pieces) × (concat pieces ≡ text)

-- the next events are writes alone, which together took a beginning of this text
abbrev pub SendsSome : Option (List Event) → Option (List Event) → List ℕ → Type 0
SendsSome old new text = (n : ℕ) × (n ≤ length text) × SendsAll old new (take n text)

-- at Ok writes took the whole text, and else a beginning of it, and nothing was read between
abbrev pub SendsText : {T E : Type 0} → Option (List Event) → Option (List Event) → Result T E → List ℕ → Type 0
SendsText old new r text = MatchResult r (λ _. SendsAll old new text) (λ _. SendsSome old new text)
