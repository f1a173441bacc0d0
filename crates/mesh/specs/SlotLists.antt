-- Slots are taken and given back, by the list.
use Rattle.std.specs.Prelude.{◌≡◌, ◌<◌, ◌≤◌, ◌^◌, ℕ, Some, List, length}
use Rattle.std.specs.List.{slice_get}
use Rattle.tri_pages.specs.declared.tri_slot.TriSlot.{TriSlot}
use Rattle.tri_pages.specs.Slots.{State, state_at, triangle_at, blank, free}
use Rattle.mesh.specs.Net.{outside}

-- the number is none of these
abbrev pub IsKept : List ℕ → ℕ → Type 0
IsKept old s = (i : ℕ) → slice_get old i ≡ Some s → ⊥

-- no slot stands twice in the list
abbrev pub AreApart : List ℕ → Type 0
AreApart slots = (i j s : ℕ) → slice_get slots i ≡ Some s → slice_get slots j ≡ Some s → i ≡ j

-- free slots are taken, these, and the others are as before
pub record IsTakingMany (old new : List State) (slots : List ℕ) : Type 0 where
  pub was_free : (i s : ℕ) → slice_get slots i ≡ Some s → state_at old s ≡ free
  pub is_blank : (i s : ℕ) → slice_get slots i ≡ Some s → state_at new s ≡ blank
  pub live : (i s : ℕ) → slice_get slots i ≡ Some s → s ≡ outside → ⊥
  pub apart : AreApart slots
  pub rest : (s : ℕ) → IsKept slots s → state_at new s ≡ state_at old s
  pub few : length new ≤ 2 ^ 30

-- the first n of the old slots were given back, and their triangles are known; the others are as before
pub record IsGivingBack (old new : List State) (slots : List ℕ) (was : List TriSlot) (n : ℕ) : Type 0 where
  pub as_many : length was ≡ n
  pub read : (i s : ℕ) (t : TriSlot) → slice_get slots i ≡ Some s → slice_get was i ≡ Some t → triangle_at old s ≡ Some t
  pub is_free : (i s : ℕ) → i < n → slice_get slots i ≡ Some s → state_at new s ≡ free
  pub rest : (s : ℕ) → ((i : ℕ) → i < n → slice_get slots i ≡ Some s → ⊥) → state_at new s ≡ state_at old s
  pub same_length : length new ≡ length old
