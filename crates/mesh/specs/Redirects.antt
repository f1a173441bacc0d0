-- The slot beyond one directed edge is set.
use Rattle.std.specs.Prelude.{◌≡◌, ◌⊎◌, ℕ, Option, Some, None}
use Rattle.ground_model.specs.declared.corner.Corner.{Corner}
use Rattle.tri_pages.specs.declared.tri_slot.TriSlot.{TriSlot}
use Rattle.mesh.specs.Net.{Side, after, Edge, corner_at, next_at, outside}

-- n is q if the edge ab is the edge pr, else the old one
abbrev pub Chosen : Corner → Corner → Corner → Corner → ℕ → ℕ → ℕ → Type 0
Chosen a b p r q old n = ((a ≡ p) × (b ≡ r) × (n ≡ q)) ⊎ ((a ≡ p → b ≡ r → ⊥) × (n ≡ old))

-- the edge f of slot s is e, but beyond it may be q, and is if e is the edge from p to r in slot m
pub record IsTurned (m q s : ℕ) (p r : Corner) (e f : Edge) : Type 0 where
  pub same_tail : f.tail ≡ e.tail
  pub same_head : f.head ≡ e.head
  pub same_count : f.count ≡ e.count
  pub beyond : ((e.tail ≡ p) × (e.head ≡ r) × (f.next ≡ q)) ⊎ ((s ≡ m → (m ≡ outside → ⊥) → e.tail ≡ p → e.head ≡ r → ⊥) × (f.next ≡ e.next))

-- where the one slot has an edge, the other has it turned
abbrev pub Turned : ℕ → ℕ → Corner → Corner → ℕ → Option Edge → Option Edge → Type 0
Turned m q p r s None None = Unit {0}
Turned m q p r s None (Some f) = ⊥
Turned m q p r s (Some e) None = ⊥
Turned m q p r s (Some e) (Some f) = IsTurned m q s p r e f

-- all edges are as before, but beyond the edge from p to r of slot m is q
abbrev pub IsRedirected : ℕ → ℕ → Corner → Corner → (ℕ → Side → Option Edge) → (ℕ → Side → Option Edge) → Type 0
IsRedirected m q p r ed new = (s : ℕ) (k : Side) → Turned m q p r s (ed s k) (new s k)

-- w is t with q as the slot beyond its edge from p to r, if it has one
pub record IsTurnedTri (p r : Corner) (q : ℕ) (t w : TriSlot) : Type 0 where
  pub corners : w.corners ≡ t.corners
  pub counts : w.counts ≡ t.counts
  pub stamp : w.stamp ≡ t.stamp
  pub beyond : (k : Side) → Chosen (corner_at t k) (corner_at t (after k)) p r q (next_at t k) (next_at w k)
