-- The common edge of two triangles is turned to the other diagonal.
use Rattle.std.specs.Prelude.{◌≡◌, ℕ, Some, List, [], ◌∷◌}
use Rattle.tri_pages.specs.declared.tri_slot.TriSlot.{TriSlot}
use Rattle.tri_pages.specs.Slots.{State, triangle_at}
use Rattle.mesh.specs.Acrosses.{apex, IsAcross, IsInner, HasTwoApexes, AreUnjoined}
use Rattle.mesh.specs.Faces.{Face, face_at}
use Rattle.mesh.specs.Meshes.{IsLive}
use Rattle.mesh.specs.Net.{Side, after, corner_at, count_at, next_at, slots_of}

-- t is abc from its side k on, u is bad from its side j on: adc, which takes the place s
abbrev pub flip_one : TriSlot → Side → TriSlot → Side → ℕ → TriSlot
flip_one t k u j n = record {
  corners = corner_at t k ∷ apex u j ∷ apex t k ∷ [];
  counts = count_at u (after j) ∷ 0 ∷ count_at t (after (after k)) ∷ [];
  next = next_at u (after j) ∷ n ∷ next_at t (after (after k)) ∷ [];
  stamp = 0;
}

-- dbc, which takes the place n
abbrev pub flip_two : TriSlot → Side → TriSlot → Side → ℕ → TriSlot
flip_two t k u j s = record {
  corners = apex u j ∷ corner_at t (after k) ∷ apex t k ∷ [];
  counts = count_at u (after (after j)) ∷ count_at t (after k) ∷ 0 ∷ [];
  next = next_at u (after (after j)) ∷ next_at t (after k) ∷ s ∷ [];
  stamp = 0;
}

-- the face of adc
abbrev pub flip_face_one : TriSlot → Side → TriSlot → Side → Face
flip_face_one t k u j = record { corners = corner_at t k ∷ apex u j ∷ apex t k ∷ []; counts = count_at u (after j) ∷ 0 ∷ count_at t (after (after k)) ∷ []; stamp = 0 }

-- the face of dbc
abbrev pub flip_face_two : TriSlot → Side → TriSlot → Side → Face
flip_face_two t k u j = record { corners = apex u j ∷ corner_at t (after k) ∷ apex t k ∷ []; counts = count_at u (after (after j)) ∷ count_at t (after k) ∷ 0 ∷ []; stamp = 0 }

-- the edge k of the triangle in slot s has no count and isn't one of the far triangle's; the apexes on both sides are two corners, which no edge joins
pub record IsFlippable (slots : List State) (s : ℕ) (k : Side) : Type 0 where
  pub live : IsLive slots s
  pub inner : IsInner slots s k
  pub uncounted : (t : TriSlot) → triangle_at slots s ≡ Some t → count_at t k ≡ 0
  pub two : HasTwoApexes slots s k
  pub unjoined : AreUnjoined slots s k

-- the triangles in s and n give way to those on the other diagonal; all others keep their faces
pub record IsFlipped (old new : List State) (s : ℕ) (k : Side) (n : ℕ) : Type 0 where
  pub tri : TriSlot
  pub beyond : TriSlot
  pub back : Side
  pub here : triangle_at old s ≡ Some tri
  pub across : IsAcross old tri k n beyond back
  pub in_s : face_at (slots_of new) s ≡ Some (flip_face_one tri k beyond back)
  pub in_n : face_at (slots_of new) n ≡ Some (flip_face_two tri k beyond back)
  pub rest : (i : ℕ) → (i ≡ s → ⊥) → (i ≡ n → ⊥) → face_at (slots_of new) i ≡ face_at (slots_of old) i
