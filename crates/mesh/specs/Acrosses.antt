-- What stands across an edge.
use Rattle.std.specs.Prelude.{◌≡◌, ℕ, Some, List}
use Rattle.ground_model.specs.declared.corner.Corner.{Corner}
use Rattle.tri_pages.specs.declared.tri_slot.TriSlot.{TriSlot}
use Rattle.tri_pages.specs.Slots.{State, triangle_at}
use Rattle.mesh.specs.Net.{Side, Edge, after, corner_at, count_at, next_at, edges_of, slots_of, outside}

-- the corner that isn't on the edge
abbrev pub apex : TriSlot → Side → Corner
apex t k = corner_at t (after (after k))

-- the slot n, which isn't outside, has the triangle u beyond the edge k of t: it has the edge the other way as its edge j, with the same count
pub record IsAcross (slots : List State) (t : TriSlot) (k : Side) (n : ℕ) (u : TriSlot) (j : Side) : Type 0 where
  pub slot_is : n ≡ next_at t k
  pub there : triangle_at slots n ≡ Some u
  pub starts : corner_at u j ≡ corner_at t (after k)
  pub ends : corner_at u (after j) ≡ corner_at t k
  pub same_count : count_at u j ≡ count_at t k

-- no edge goes from the one corner to the other
abbrev pub HasNoEdge : List State → Corner → Corner → Type 0
HasNoEdge slots a b = (s : ℕ) (k : Side) (e : Edge) → edges_of (slots_of slots) s k ≡ Some e → e.tail ≡ a → e.head ≡ b → ⊥

-- the edge k of the triangle in slot s isn't one of the far triangle's
abbrev pub IsInner : List State → ℕ → Side → Type 0
IsInner slots s k = (t : TriSlot) → triangle_at slots s ≡ Some t → next_at t k ≡ outside → ⊥

-- the apexes on the two sides of the edge are two corners
abbrev pub HasTwoApexes : List State → ℕ → Side → Type 0
HasTwoApexes slots s k = (t : TriSlot) (n : ℕ) (u : TriSlot) (j : Side) → triangle_at slots s ≡ Some t → IsAcross slots t k n u j → apex t k ≡ apex u j → ⊥

-- no edge goes from the one apex to the other
abbrev pub AreUnjoined : List State → ℕ → Side → Type 0
AreUnjoined slots s k = (t : TriSlot) (n : ℕ) (u : TriSlot) (j : Side) → triangle_at slots s ≡ Some t → IsAcross slots t k n u j → HasNoEdge slots (apex t k) (apex u j)
