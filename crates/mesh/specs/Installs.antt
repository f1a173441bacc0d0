-- Triangles of a mesh give way to others.
use Rattle.std.specs.Prelude.{◌≡◌, ◌⊎◌, ℕ, Some, List, [], ◌∷◌, get_or, length}
use Rattle.std.specs.List.{slice_get}
use Rattle.ground_model.specs.declared.corner.Corner.{Corner}
use Rattle.ground_model.specs.declared.corner.Corner.TheVariants.{Far}
use Rattle.tri_pages.specs.declared.tri_slot.TriSlot.{TriSlot}
use Rattle.tri_pages.specs.Slots.{State, state_at, free}
use Rattle.mesh.specs.declared.patch.Patch.{Patch}
use Rattle.mesh.specs.Corners.{Distinct}
use Rattle.mesh.specs.Faces.{Face, face_at}
use Rattle.mesh.specs.Meshes.{IsLive}
use Rattle.mesh.specs.Net.{Side, first, second, third, after, place, Edge, edges_of, slots_of, outside}
use Rattle.mesh.specs.Sheets.{IsTurned}
use Rattle.mesh.specs.SlotLists.{IsKept, AreApart}

abbrev pub patch_corner : Patch → Side → Corner
patch_corner p k = get_or p.corners (place k) (Far 0)

abbrev pub patch_count : Patch → Side → ℕ
patch_count p k = get_or p.counts (place k) 0

-- a triangle of the patch that leads nowhere yet
abbrev pub bare : Patch → TriSlot
bare p = record { corners = p.corners; counts = p.counts; next = outside ∷ outside ∷ outside ∷ []; stamp = 0 }

-- the triangle is one of places or far corners, counterclockwise, and an edge with a far corner has no count
abbrev pub IsTurnedPatch : Patch → Type 0
IsTurnedPatch p = IsTurned (bare p)

-- a triangle of the patch has the directed edge from a to b
pub record HasEdge (patch : List Patch) (a b : Corner) : Type 0 where
  pub index : ℕ
  pub tri : Patch
  pub side : Side
  pub there : slice_get patch index ≡ Some tri
  pub tail : patch_corner tri side ≡ a
  pub head : patch_corner tri (after side) ≡ b

-- the edge from b back to a, with this count, is of the patch
pub record PatchBack (patch : List Patch) (a b : Corner) (count : ℕ) : Type 0 where
  pub is : HasEdge patch b a
  pub same_count : patch_count is.tri is.side ≡ count

-- or of a triangle that stays
pub record KeptBack (slots : List State) (old : List ℕ) (a b : Corner) (count : ℕ) : Type 0 where
  pub slot : ℕ
  pub side : Side
  pub edge : Edge
  pub kept : IsKept old slot
  pub there : edges_of (slots_of slots) slot side ≡ Some edge
  pub tail : edge.tail ≡ b
  pub head : edge.head ≡ a
  pub same_count : edge.count ≡ count

-- the new triangles are those that stay and those of the patch: each directed edge occurs once among them, and with it its reverse, with the same count
pub record Fits (slots : List State) (old : List ℕ) (patch : List Patch) : Type 0 where
  pub live : (i s : ℕ) → slice_get old i ≡ Some s → IsLive slots s
  pub apart : AreApart old
  pub distinct : (i : ℕ) (p : Patch) → slice_get patch i ≡ Some p → Distinct (patch_corner p first ∷ patch_corner p second ∷ patch_corner p third ∷ [])
  pub once : (a b : Corner) (x y : HasEdge patch a b) → (x.index ≡ y.index) × (x.side ≡ y.side)
  pub fresh : (a b : Corner) → HasEdge patch a b → (s : ℕ) (k : Side) (e : Edge) → IsKept old s → edges_of (slots_of slots) s k ≡ Some e → e.tail ≡ a → e.head ≡ b → ⊥
  pub closed : (a b : Corner) (x : HasEdge patch a b) → PatchBack patch a b (patch_count x.tri x.side) ⊎ KeptBack slots old a b (patch_count x.tri x.side)
  pub closed_kept : (s : ℕ) (k : Side) (e : Edge) → IsKept old s → edges_of (slots_of slots) s k ≡ Some e → PatchBack patch e.tail e.head e.count ⊎ KeptBack slots old e.tail e.head e.count

-- the face of a triangle of the patch
abbrev pub patch_face : Patch → ℕ → Face
patch_face p front = record { corners = p.corners; counts = p.counts; stamp = front }

-- each triangle of the patch has a slot, with this stamp; a further old slot is free, and a further other slot keeps its face
pub record IsInstalled (old_slots new_slots : List State) (old : List ℕ) (patch : List Patch) (front : ℕ) : Type 0 where
  pub slots : List ℕ
  pub as_many : length slots ≡ length patch
  pub apart : AreApart slots
  pub placed : (i s : ℕ) (p : Patch) → slice_get slots i ≡ Some s → slice_get patch i ≡ Some p → face_at (slots_of new_slots) s ≡ Some (patch_face p front)
  pub gone : (i s : ℕ) → slice_get old i ≡ Some s → IsKept slots s → state_at new_slots s ≡ free
  pub rest : (s : ℕ) → IsKept old s → IsKept slots s → face_at (slots_of new_slots) s ≡ face_at (slots_of old_slots) s
