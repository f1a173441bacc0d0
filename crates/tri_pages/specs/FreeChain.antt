-- The chain of the free slots, from a head to the end mark: what the pages keep.
use Rattle.std.specs.Prelude.{◌≡◌, ℕ, Some, List, [], ◌∷◌}
use Rattle.std.specs.List.{slice_get}
use Rattle.tri_pages.specs.declared.entry.Entry.{Entry}
use Rattle.tri_pages.specs.declared.entry.Entry.TheVariants.{Free, Taken, Written}
use Rattle.tri_pages.specs.Slots.{State, free, blank, holding}

-- the state that an entry stands for
abbrev pub state : Entry → State
state (Free next) = free
state Taken = blank
state (Written triangle) = holding triangle

-- the mark after the last free slot
abbrev pub end : ℕ
end = 4294967295

-- a slot is none of these
abbrev pub IsApartFrom : ℕ → List ℕ → Type 0
IsApartFrom slot [] = Unit {0}
IsApartFrom slot (k ∷ ks) = (slot ≡ k → ⊥) × IsApartFrom slot ks

-- no slot stands twice in the chain
abbrev pub IsApart : List ℕ → Type 0
IsApart [] = Unit {0}
IsApart (k ∷ ks) = IsApartFrom k ks × IsApart ks

-- from the head on, each free slot names the next
abbrev pub IsLinked : List Entry → ℕ → List ℕ → Type 0
IsLinked entries head [] = head ≡ end
IsLinked entries head (k ∷ ks) = (head ≡ k) × ((next : ℕ) × (slice_get entries k ≡ Some (Free next)) × IsLinked entries next ks)

-- the free slots are those of the chain from the head
pub record HasChain (entries : List Entry) (head : ℕ) : Type 0 where
  pub chain : List ℕ
  pub linked : IsLinked entries head chain
  pub apart : IsApart chain
  pub whole : (k next : ℕ) → slice_get entries k ≡ Some (Free next) → IsApartFrom k chain → ⊥
