-- New triangles are laid into slots that were taken for them.
use Rattle.std.specs.Prelude.{◌≡◌, ◌⊎◌, ◌<◌, ℕ, Some, List, length}
use Rattle.std.specs.List.{slice_get}
use Rattle.ground_model.specs.declared.corner.Corner.{Corner}
use Rattle.tri_pages.specs.declared.tri_slot.TriSlot.{TriSlot}
use Rattle.tri_pages.specs.Slots.{State, state_at, holding}
use Rattle.mesh.specs.EdgeSearch.{IsEdgeAt, HasNone}
use Rattle.mesh.specs.Net.{Side, after, corner_at, next_at}

-- new triangles with the slots that were taken for them, and the old triangles
pub record Layout : Type 0 where
  pub news : List TriSlot
  pub slots : List ℕ
  pub was : List TriSlot

abbrev pub layout : List TriSlot → List ℕ → List TriSlot → Layout
layout news slots was = record { news = news; slots = slots; was = was }

-- the slot where the reverse of the edge from a to b is laid
pub record LeadsInside (lay : Layout) (a b : Corner) (next : ℕ) : Type 0 where
  pub index : ℕ
  pub side : Side
  pub is : IsEdgeAt lay.news index side b a
  pub slot : slice_get lay.slots index ≡ Some next

-- what was beyond the edge from a to b, as an edge of an old triangle
pub record LeadsOutside (was : List TriSlot) (a b : Corner) (next : ℕ) : Type 0 where
  pub index : ℕ
  pub side : Side
  pub is : IsEdgeAt was index side a b
  pub next_is : next ≡ next_at is.tri side

-- what is beyond the edge from a to b of a new triangle: inside, else outside, else anything
abbrev pub IsLead : Layout → Corner → Corner → ℕ → Type 0
IsLead lay a b next = LeadsInside lay a b next ⊎ (HasNone lay.news b a × (LeadsOutside lay.was a b next ⊎ HasNone lay.was a b))

-- w is t with this stamp, and leads beyond each of its edges
pub record IsLed (lay : Layout) (front : ℕ) (t w : TriSlot) : Type 0 where
  pub corners : w.corners ≡ t.corners
  pub counts : w.counts ≡ t.counts
  pub stamp : w.stamp ≡ front
  pub leads : (k : Side) → IsLead lay (corner_at t k) (corner_at t (after k)) (next_at w k)

-- a slot holds the triangle with its leads
pub record IsLaid (lay : Layout) (front : ℕ) (pages : List State) (s : ℕ) (t : TriSlot) : Type 0 where
  pub tri : TriSlot
  pub holds : state_at pages s ≡ holding tri
  pub led : IsLed lay front t tri

-- the first n of the new triangles are laid, each into its slot; the other slots are as before
pub record IsLaying (old new : List State) (lay : Layout) (front n : ℕ) : Type 0 where
  pub laid : (i s : ℕ) (t : TriSlot) → i < n → slice_get lay.slots i ≡ Some s → slice_get lay.news i ≡ Some t → IsLaid lay front new s t
  pub rest : (s : ℕ) → ((i : ℕ) → i < n → slice_get lay.slots i ≡ Some s → ⊥) → state_at new s ≡ state_at old s
  pub same_length : length new ≡ length old
