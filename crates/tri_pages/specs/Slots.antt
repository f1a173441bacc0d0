-- Slots: a list of states, that of slot k at index k, stands for the map from slots to triangles and for the list of the taken slots.
use Rattle.std.specs.Prelude.{ℕ, suc, Option, Some, None, List, [], ◌∷◌, ◌++◌, length, if◌then◌else◌, ◌==◌, slice_set}
use Rattle.std.specs.List.{slice_get}
use Rattle.std.specs.Option.{IsSome}
use Rattle.tri_pages.specs.declared.tri_slot.TriSlot.{TriSlot}

-- what a slot is in: free; or taken, with the triangle that was written, if one was
abbrev pub State : Type 0
State = Option (Option TriSlot)

abbrev pub free : State
free = None

-- taken and not yet written
abbrev pub blank : State
blank = Some None

abbrev pub holding : TriSlot → State
holding triangle = Some (Some triangle)

abbrev pub joined : {X : Type 0} → Option (Option X) → Option X
joined None = None
joined (Some o) = o

-- the state of a slot; a slot beyond the pages is free
abbrev pub state_at : List State → ℕ → State
state_at pages slot = joined (slice_get pages slot)

-- the map: a slot that is free, or taken and not yet written, has no triangle
abbrev pub triangle_at : List State → ℕ → Option TriSlot
triangle_at pages slot = joined (state_at pages slot)

abbrev pub IsTaken : List State → ℕ → Type 0
IsTaken pages slot = IsSome (state_at pages slot)

-- the taken ones of the slots from `slot` on, whose states are these
abbrev pub taken_from : ℕ → List State → List ℕ
taken_from slot [] = []
taken_from slot (None ∷ states) = taken_from (suc slot) states
taken_from slot (Some o ∷ states) = slot ∷ taken_from (suc slot) states

-- the list of the taken slots, the least first
abbrev pub taken : List State → List ℕ
taken pages = taken_from 0 pages

-- the slots, one of them now in this state; it may be the first beyond the pages
abbrev pub put : List State → ℕ → State → List State
put pages slot state = if slot == length pages then pages ++ state ∷ [] else slice_set pages slot state
