-- Faces: triangles without their neighbours.
use Rattle.std.specs.Prelude.{◌≡◌, ℕ, Option, List, length}
use Rattle.std.specs.Option.{option_map}
use Rattle.ground_model.specs.declared.corner.Corner.{Corner}
use Rattle.tri_pages.specs.declared.tri_slot.TriSlot.{TriSlot}
use Rattle.tri_pages.specs.Slots.{State, state_at, blank}
use Rattle.mesh.specs.Net.{slots_of}

-- the corners, the counts of the edges and the stamp
pub record Face : Type 0 where
  pub corners : List Corner
  pub counts : List ℕ
  pub stamp : ℕ

-- the face of a triangle
abbrev pub face : TriSlot → Face
face t = record { corners = t.corners; counts = t.counts; stamp = t.stamp }

-- the face of the triangle in a slot
abbrev pub face_at : (ℕ → Option TriSlot) → ℕ → Option Face
face_at at s = option_map face (at s)

-- each slot keeps its face, and there are as many; none becomes blank
pub record KeepsFaces (old new : List State) : Type 0 where
  pub faces : (s : ℕ) → face_at (slots_of new) s ≡ face_at (slots_of old) s
  pub blanks : (s : ℕ) → state_at new s ≡ blank → state_at old s ≡ blank
  pub len : length new ≡ length old
