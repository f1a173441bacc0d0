-- An edge is looked for among triangles.
use Rattle.std.specs.Prelude.{◌≡◌, ◌<◌, ℕ, Some, List}
use Rattle.std.specs.List.{slice_get}
use Rattle.ground_model.specs.declared.corner.Corner.{Corner}
use Rattle.tri_pages.specs.declared.tri_slot.TriSlot.{TriSlot}
use Rattle.mesh.specs.Net.{Side, after, corner_at}

-- the edge k of the triangle at an index of the list goes from a to b
pub record IsEdgeAt (tris : List TriSlot) (i : ℕ) (k : Side) (a b : Corner) : Type 0 where
  pub tri : TriSlot
  pub there : slice_get tris i ≡ Some tri
  pub tail : corner_at tri k ≡ a
  pub head : corner_at tri (after k) ≡ b

-- no edge of the triangle does
abbrev pub HasNoSide : TriSlot → Corner → Corner → Type 0
HasNoSide t a b = (k : Side) → corner_at t k ≡ a → corner_at t (after k) ≡ b → ⊥

-- no edge of the triangles before an index does
abbrev pub HasNoneBefore : List TriSlot → ℕ → Corner → Corner → Type 0
HasNoneBefore tris n a b = (i : ℕ) (k : Side) → i < n → IsEdgeAt tris i k a b → ⊥

-- no edge of the triangles does
abbrev pub HasNone : List TriSlot → Corner → Corner → Type 0
HasNone tris a b = (i : ℕ) (k : Side) → IsEdgeAt tris i k a b → ⊥
