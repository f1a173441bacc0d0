-- Where a place lies in a mesh.
use Rattle.std.specs.Prelude.{◌≡◌, ◌<◌, ℕ, Some, None, List}
use Rattle.ground_model.specs.declared.corner.Corner.TheVariants.{At}
use Rattle.ground_model.specs.Place.{Coords}
use Rattle.tri_pages.specs.Slots.{State, triangle_at}
use Rattle.tri_pages.specs.declared.tri_slot.TriSlot.{TriSlot}
use Rattle.mesh.specs.Insides.{IsInSlot, IsOnSlot}
use Rattle.mesh.specs.Meshes.{IsLive}
use Rattle.mesh.specs.Net.{Side, corner_at, next_at, side}
use Rattle.locate.specs.Parts.{IsBeyond}
use Rattle.locate.specs.declared.scan.Look.{Look}
use Rattle.locate.specs.declared.scan.Look.TheVariants.{Here, Next, Free}
use Rattle.locate.specs.declared.spot.Spot.{Spot}
use Rattle.locate.specs.declared.spot.Spot.TheVariants.{Inside, OnEdge, Corner}

-- the corner k of slot s is the place
abbrev pub IsAtCorner : List State → ℕ → Side → Coords → Type 0
IsAtCorner slots s k p = (t : TriSlot) → triangle_at slots s ≡ Some t → corner_at t k ≡ At p

-- where the place lies in the mesh: in the triangle of a live slot, strictly inside, on an edge or at a corner
abbrev pub IsSpot : List State → Coords → Spot → Type 0
IsSpot slots p (Inside s) = IsLive slots s × IsInSlot slots s p
IsSpot slots p (OnEdge s k) = IsLive slots s × (k < 3) × IsOnSlot slots s (side k) p
IsSpot slots p (Corner s k) = IsLive slots s × (k < 3) × IsAtCorner slots s (side k) p

-- the place lies beyond an edge of the slot's triangle, and beyond that edge stands the slot n
pub record IsOver (slots : List State) (s : ℕ) (p : Coords) (n : ℕ) : Type 0 where
  pub tri : TriSlot
  pub side : Side
  pub there : triangle_at slots s ≡ Some tri
  pub beyond : IsBeyond tri side p
  pub next_is : n ≡ next_at tri side

-- what a look at the triangle of slot s tells
abbrev pub IsLook : List State → ℕ → Coords → Look → Type 0
IsLook slots s p (Here spot) = IsSpot slots p spot
IsLook slots s p (Next n) = IsOver slots s p n
IsLook slots s p Free = triangle_at slots s ≡ None

-- the triangle of slot s has the place beyond an edge
pub record IsMissed (t : TriSlot) (p : Coords) : Type 0 where
  pub side : Side
  pub beyond : IsBeyond t side p

-- so has each of the slots before an index
abbrev pub HasNoneBefore : List State → ℕ → Coords → Type 0
HasNoneBefore slots n p = (s : ℕ) (t : TriSlot) → s < n → triangle_at slots s ≡ Some t → IsMissed t p
