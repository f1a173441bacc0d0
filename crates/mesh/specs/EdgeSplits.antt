-- An edge is split at a corner within it.
use Rattle.std.specs.Prelude.{◌≡◌, ℕ, Some, List, [], ◌∷◌}
use Rattle.ground_model.specs.declared.corner.Corner.{Corner}
use Rattle.tri_pages.specs.declared.tri_slot.TriSlot.{TriSlot}
use Rattle.tri_pages.specs.Slots.{State, state_at, triangle_at, free}
use Rattle.mesh.specs.Acrosses.{apex, IsAcross}
use Rattle.mesh.specs.Faces.{Face, face_at}
use Rattle.mesh.specs.Net.{Side, after, corner_at, count_at, next_at, slots_of}

-- of abc from its side k on: apc, with y beyond ap and z beyond pc
abbrev pub start_part : TriSlot → Side → Corner → ℕ → ℕ → TriSlot
start_part t k p y z = record { corners = corner_at t k ∷ p ∷ apex t k ∷ []; counts = count_at t k ∷ 0 ∷ count_at t (after (after k)) ∷ []; next = y ∷ z ∷ next_at t (after (after k)) ∷ []; stamp = 0 }

-- and pbc, with y beyond pb and z beyond cp
abbrev pub end_part : TriSlot → Side → Corner → ℕ → ℕ → TriSlot
end_part t k p y z = record { corners = p ∷ corner_at t (after k) ∷ apex t k ∷ []; counts = count_at t k ∷ count_at t (after k) ∷ 0 ∷ []; next = y ∷ next_at t (after k) ∷ z ∷ []; stamp = 0 }

-- the face of apc: both parts of ab keep its count
abbrev pub start_face : TriSlot → Side → Corner → Face
start_face t k p = record { corners = corner_at t k ∷ p ∷ apex t k ∷ []; counts = count_at t k ∷ 0 ∷ count_at t (after (after k)) ∷ []; stamp = 0 }

-- the face of pbc
abbrev pub end_face : TriSlot → Side → Corner → Face
end_face t k p = record { corners = p ∷ corner_at t (after k) ∷ apex t k ∷ []; counts = count_at t k ∷ count_at t (after k) ∷ 0 ∷ []; stamp = 0 }

-- the triangles abc in s and bad across its edge in n give way to apc in s, pbc in f, bpd in n and pad in g, which were free; all others keep their faces
pub record IsEdgeSplit (old new : List State) (s : ℕ) (k : Side) (p : Corner) (n f g : ℕ) : Type 0 where
  pub tri : TriSlot
  pub beyond : TriSlot
  pub back : Side
  pub here : triangle_at old s ≡ Some tri
  pub across : IsAcross old tri k n beyond back
  pub f_free : state_at old f ≡ free
  pub g_free : state_at old g ≡ free
  pub apart : f ≡ g → ⊥
  pub in_s : face_at (slots_of new) s ≡ Some (start_face tri k p)
  pub in_f : face_at (slots_of new) f ≡ Some (end_face tri k p)
  pub in_n : face_at (slots_of new) n ≡ Some (start_face beyond back p)
  pub in_g : face_at (slots_of new) g ≡ Some (end_face beyond back p)
  pub rest : (i : ℕ) → (i ≡ s → ⊥) → (i ≡ n → ⊥) → (i ≡ f → ⊥) → (i ≡ g → ⊥) → face_at (slots_of new) i ≡ face_at (slots_of old) i
