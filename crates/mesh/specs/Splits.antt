-- A triangle is split at a corner within it.
use Rattle.std.specs.Prelude.{◌≡◌, ℕ, Some, List, [], ◌∷◌}
use Rattle.ground_model.specs.declared.corner.Corner.{Corner}
use Rattle.tri_pages.specs.declared.tri_slot.TriSlot.{TriSlot}
use Rattle.tri_pages.specs.Slots.{State, state_at, triangle_at, free}
use Rattle.mesh.specs.Net.{Side, first, second, third, after, corner_at, count_at, next_at, slots_of}
use Rattle.mesh.specs.Faces.{Face, face_at}

-- the triangle of the edge k of t and the corner p, with y and z beyond its other edges
abbrev pub split_part : TriSlot → Side → Corner → ℕ → ℕ → TriSlot
split_part t k p y z = record { corners = corner_at t k ∷ corner_at t (after k) ∷ p ∷ []; counts = count_at t k ∷ 0 ∷ 0 ∷ []; next = next_at t k ∷ y ∷ z ∷ []; stamp = 0 }

-- its face
abbrev pub split_face : TriSlot → Side → Corner → Face
split_face t k p = record { corners = corner_at t k ∷ corner_at t (after k) ∷ p ∷ []; counts = count_at t k ∷ 0 ∷ 0 ∷ []; stamp = 0 }

-- the triangle in slot s gives way to three, in s and two slots that were free; all others keep their faces
pub record IsSplit (old new : List State) (s f g : ℕ) (p : Corner) : Type 0 where
  pub tri : TriSlot
  pub was : triangle_at old s ≡ Some tri
  pub f_free : state_at old f ≡ free
  pub g_free : state_at old g ≡ free
  pub in_s : face_at (slots_of new) s ≡ Some (split_face tri first p)
  pub in_f : face_at (slots_of new) f ≡ Some (split_face tri second p)
  pub in_g : face_at (slots_of new) g ≡ Some (split_face tri third p)
  pub apart : f ≡ g → ⊥
  pub rest : (i : ℕ) → (i ≡ s → ⊥) → (i ≡ f → ⊥) → (i ≡ g → ⊥) → face_at (slots_of new) i ≡ face_at (slots_of old) i
