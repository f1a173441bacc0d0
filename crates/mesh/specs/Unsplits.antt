-- The three triangles round a corner give way to one.
use Rattle.std.specs.Prelude.{◌≡◌, ℕ, Some, List, [], ◌∷◌}
use Rattle.tri_pages.specs.declared.tri_slot.TriSlot.{TriSlot}
use Rattle.tri_pages.specs.Slots.{State, state_at, triangle_at, free}
use Rattle.mesh.specs.Acrosses.{apex, IsAcross, IsInner}
use Rattle.mesh.specs.Faces.{Face, face_at}
use Rattle.mesh.specs.Meshes.{IsLive}
use Rattle.mesh.specs.Net.{Side, after, corner_at, count_at, next_at, slots_of}

-- t is abp from its side k on, u is pbc from its side j on, v is apc from its side l on: abc takes their place
abbrev pub whole : TriSlot → Side → TriSlot → Side → TriSlot → Side → TriSlot
whole t k u j v l = record {
  corners = corner_at t k ∷ corner_at t (after k) ∷ apex u j ∷ [];
  counts = count_at t k ∷ count_at u (after j) ∷ count_at v (after (after l)) ∷ [];
  next = next_at t k ∷ next_at u (after j) ∷ next_at v (after (after l)) ∷ [];
  stamp = 0;
}

-- its face
abbrev pub whole_face : TriSlot → Side → TriSlot → Side → TriSlot → Side → Face
whole_face t k u j v l = record { corners = corner_at t k ∷ corner_at t (after k) ∷ apex u j ∷ []; counts = count_at t k ∷ count_at u (after j) ∷ count_at v (after (after l)) ∷ []; stamp = 0 }

-- what stands across the two edges of t at its apex p
pub record AreAround (slots : List State) (t : TriSlot) (k : Side) (f : ℕ) (u : TriSlot) (j : Side) (g : ℕ) (v : TriSlot) (l : Side) : Type 0 where
  pub ahead : IsAcross slots t (after k) f u j
  pub before : IsAcross slots t (after (after k)) g v l

-- the apex of the edge k of slot s has three triangles round it, and its edges have no count
pub record IsUnsplittable (slots : List State) (s : ℕ) (k : Side) : Type 0 where
  pub live : IsLive slots s
  pub inner : IsInner slots s (after k)
  pub inner_back : IsInner slots s (after (after k))
  pub three : (t : TriSlot) (f : ℕ) (u : TriSlot) (j : Side) (g : ℕ) (v : TriSlot) (l : Side) → triangle_at slots s ≡ Some t → AreAround slots t k f u j g v l → apex v l ≡ apex u j
  pub uncounted : (t : TriSlot) → triangle_at slots s ≡ Some t → (count_at t (after k) ≡ 0) × (count_at t (after (after k)) ≡ 0)
  pub uncounted_third : (t : TriSlot) (f : ℕ) (u : TriSlot) (j : Side) → triangle_at slots s ≡ Some t → IsAcross slots t (after k) f u j → count_at u (after (after j)) ≡ 0

-- the triangles in s, f and g give way to one in s; the others are free, and all further slots keep their faces
pub record IsUnsplit (old new : List State) (s : ℕ) (k : Side) (f g : ℕ) : Type 0 where
  pub tri : TriSlot
  pub ahead : TriSlot
  pub ahead_side : Side
  pub before : TriSlot
  pub before_side : Side
  pub here : triangle_at old s ≡ Some tri
  pub around : AreAround old tri k f ahead ahead_side g before before_side
  pub in_s : face_at (slots_of new) s ≡ Some (whole_face tri k ahead ahead_side before before_side)
  pub f_free : state_at new f ≡ free
  pub g_free : state_at new g ≡ free
  pub rest : (i : ℕ) → (i ≡ s → ⊥) → (i ≡ f → ⊥) → (i ≡ g → ⊥) → face_at (slots_of new) i ≡ face_at (slots_of old) i
