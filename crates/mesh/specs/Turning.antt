-- The neighbours of new triangles are turned to them.
use Rattle.std.specs.Prelude.{◌≡◌, ◌⊎◌, ℕ, Option, Some, None, List}
use Rattle.ground_model.specs.declared.corner.Corner.{Corner}
use Rattle.tri_pages.specs.declared.tri_slot.TriSlot.{TriSlot}
use Rattle.mesh.specs.EdgeSearch.{IsEdgeAt}
use Rattle.mesh.specs.Laying.{Layout, LeadsInside}
use Rattle.mesh.specs.Net.{Side, after, Edge, corner_at, next_at, outside}

-- f is the edge e, and beyond it is what was, or where its reverse is laid
pub record IsLedOn (lay : Layout) (e f : Edge) : Type 0 where
  pub same_tail : f.tail ≡ e.tail
  pub same_head : f.head ≡ e.head
  pub same_count : f.count ≡ e.count
  pub beyond : LeadsInside lay f.tail f.head f.next ⊎ (f.next ≡ e.next)

-- where the one slot has an edge, the other has it led on
abbrev pub LedOn : Layout → Option Edge → Option Edge → Type 0
LedOn lay None None = Unit {0}
LedOn lay None (Some f) = ⊥
LedOn lay (Some e) None = ⊥
LedOn lay (Some e) (Some f) = IsLedOn lay e f

-- all edges are as before, but beyond one may be where its reverse is laid
abbrev pub AreLedOn : Layout → (ℕ → Side → Option Edge) → (ℕ → Side → Option Edge) → Type 0
AreLedOn lay ed new = (s : ℕ) (k : Side) → LedOn lay (ed s k) (new s k)

-- the directed edge occurs once among the triangles
abbrev pub AreOnce : List TriSlot → Type 0
AreOnce tris = (i j : ℕ) (k l : Side) (a b : Corner) → IsEdgeAt tris i k a b → IsEdgeAt tris j l a b → (i ≡ j) × (k ≡ l)

-- where a new and an old triangle have the edge from a to b: what stood beyond the old one leads to the new one
abbrev pub IsTurnedAt : Layout → (ℕ → Side → Option Edge) → Corner → Corner → Type 0
IsTurnedAt lay ed a b = (i j : ℕ) (k l : Side) (x : IsEdgeAt lay.news i k a b) (y : IsEdgeAt lay.was j l a b) (s : ℕ) (m : Side) (f : Edge)
    → s ≡ next_at y.tri l → (s ≡ outside → ⊥) → ed s m ≡ Some f → f.tail ≡ b → f.head ≡ a → LeadsInside lay f.tail f.head f.next

-- so at each edge of the triangle
abbrev pub IsTurnedRound : Layout → (ℕ → Side → Option Edge) → TriSlot → Type 0
IsTurnedRound lay ed t = (k : Side) → IsTurnedAt lay ed (corner_at t k) (corner_at t (after k))
