-- A triangle's stamp is set.
use Rattle.std.specs.Prelude.{◌≡◌, ℕ, Some, List}
use Rattle.tri_pages.specs.declared.tri_slot.TriSlot.{TriSlot}
use Rattle.tri_pages.specs.Slots.{State, triangle_at}
use Rattle.mesh.specs.Net.{slots_of}

-- the triangle with another stamp
abbrev pub stamped : TriSlot → ℕ → TriSlot
stamped t front = record { corners = t.corners; counts = t.counts; next = t.next; stamp = front }

-- the triangle in slot s has this stamp, and nothing else changes
pub record IsStamped (old new : List State) (s front : ℕ) : Type 0 where
  pub tri : TriSlot
  pub was : triangle_at old s ≡ Some tri
  pub in_s : slots_of new s ≡ Some (stamped tri front)
  pub rest : (i : ℕ) → (i ≡ s → ⊥) → slots_of new i ≡ slots_of old i
