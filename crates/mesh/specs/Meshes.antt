-- Meshes: slots whose triangles are a net.
use Rattle.std.specs.Prelude.{◌≡◌, ◌≤◌, ◌^◌, ◌+◌, ◌-◌, ℕ, Some, List, [], ◌∷◌, length, min}
use Rattle.std.specs.Option.{IsSome}
use Rattle.ground_model.specs.declared.corner.Corner.{Corner}
use Rattle.tri_pages.specs.declared.tri_slot.TriSlot.{TriSlot}
use Rattle.tri_pages.specs.Slots.{State, state_at, triangle_at, blank}
use Rattle.mesh.specs.Net.{Side, first, second, third, corner_at, slots_of, IsNet}
use Rattle.mesh.specs.Corners.{Distinct}

-- what is seen of a mesh: the states of its slots, and how many mesh steps were made
pub record MeshView : Type 0 where
  pub slots : List State
  pub turns : ℕ

-- a triangle stands in the slot
abbrev pub IsLive : List State → ℕ → Type 0
IsLive slots s = IsSome (triangle_at slots s)

-- the triangle's three corners
abbrev pub corners_of : TriSlot → List Corner
corners_of t = corner_at t first ∷ corner_at t second ∷ corner_at t third ∷ []

-- no triangle has the corner
abbrev pub HasNoCorner : List State → Corner → Type 0
HasNoCorner slots p = (s : ℕ) (t : TriSlot) (k : Side) → slots_of slots s ≡ Some t → corner_at t k ≡ p → ⊥

-- the triangles are a net, each of three corners, and each taken slot has one
pub record IsMesh (slots : List State) : Type 0 where
  pub net : IsNet (slots_of slots)
  pub distinct : (s : ℕ) (t : TriSlot) → slots_of slots s ≡ Some t → Distinct (corners_of t)
  pub whole : (s : ℕ) → state_at slots s ≡ blank → ⊥
  pub few : length slots ≤ 2 ^ 30

-- a count of steps, raised by one; at the end of its type it stays
abbrev pub raised : ℕ → ℕ
raised turns = min (turns + 1) (2 ^ 64 - 1)
