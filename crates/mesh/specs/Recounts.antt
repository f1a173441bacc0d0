-- The count of an edge is changed.
use Rattle.std.specs.Prelude.{◌≡◌, ℕ, Some, List, [], ◌∷◌}
use Rattle.tri_pages.specs.declared.tri_slot.TriSlot.{TriSlot}
use Rattle.tri_pages.specs.Slots.{State, triangle_at}
use Rattle.mesh.specs.Acrosses.{apex, IsAcross}
use Rattle.mesh.specs.Faces.{Face, face_at}
use Rattle.mesh.specs.Net.{Side, after, corner_at, count_at, next_at, slots_of}

-- the triangle t from its side k on, with the count m there and the slot y beyond
abbrev pub recounted : TriSlot → Side → ℕ → ℕ → TriSlot
recounted t k m y = record {
  corners = corner_at t k ∷ corner_at t (after k) ∷ apex t k ∷ [];
  counts = m ∷ count_at t (after k) ∷ count_at t (after (after k)) ∷ [];
  next = y ∷ next_at t (after k) ∷ next_at t (after (after k)) ∷ [];
  stamp = 0;
}

-- its face
abbrev pub recounted_face : TriSlot → Side → ℕ → Face
recounted_face t k m = record { corners = corner_at t k ∷ corner_at t (after k) ∷ apex t k ∷ []; counts = m ∷ count_at t (after k) ∷ count_at t (after (after k)) ∷ []; stamp = 0 }

-- the triangles in s and n have the count m at their common edge; all others keep their faces
pub record IsRecounted (old new : List State) (s : ℕ) (k : Side) (n m : ℕ) : Type 0 where
  pub tri : TriSlot
  pub beyond : TriSlot
  pub back : Side
  pub here : triangle_at old s ≡ Some tri
  pub across : IsAcross old tri k n beyond back
  pub in_s : face_at (slots_of new) s ≡ Some (recounted_face tri k m)
  pub in_n : face_at (slots_of new) n ≡ Some (recounted_face beyond back m)
  pub rest : (i : ℕ) → (i ≡ s → ⊥) → (i ≡ n → ⊥) → face_at (slots_of new) i ≡ face_at (slots_of old) i
