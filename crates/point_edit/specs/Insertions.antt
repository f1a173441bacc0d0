-- A point is put into a mesh.
use Rattle.std.specs.Prelude.{◌≡◌, ℕ, Some, List, [], ⊤}
use Rattle.ground_model.specs.declared.corner.Corner.TheVariants.{At}
use Rattle.ground_model.specs.Place.{Coords}
use Rattle.predicates.specs.Net.{Net}
use Rattle.tri_pages.specs.Slots.{State, triangle_at}
use Rattle.tri_pages.specs.declared.tri_slot.TriSlot.{TriSlot}
use Rattle.mesh.specs.FlipRuns.{FlipRun}
use Rattle.mesh.specs.Meshes.{MeshView, raised}
use Rattle.mesh.specs.Net.{after, corner_at, side}
use Rattle.mesh.specs.NetChanges.{HasOneMore, HaveSameCounts, HasSplitEdge}
use Rattle.mesh.specs.Steps.{SplitStep, EdgeSplitStep}
use Rattle.locate.specs.declared.spot.Spot.{Spot}
use Rattle.locate.specs.declared.spot.Spot.TheVariants.{Inside, OnEdge, Corner}

-- the spot is no corner, so no point stands there
abbrev pub IsNoCorner : Spot → Type 0
IsNoCorner (Inside s) = ⊤
IsNoCorner (OnEdge s k) = ⊤
IsNoCorner (Corner s k) = ⊥

-- the other net has the further point p, which has its spot in the mesh of the first: within a triangle the pieces stay; the edge on which it lies is split, and both parts have its count
abbrev pub IsPutIn : List State → Spot → Coords → Net → Net → Type 0
IsPutIn slots (Inside s) p net other = HasOneMore net other p × HaveSameCounts net other
IsPutIn slots (OnEdge s k) p net other = (t : TriSlot) → triangle_at slots s ≡ Some t → HasSplitEdge net other (corner_at t (side k)) (corner_at t (after (side k))) p
IsPutIn slots (Corner s k) p net other = ⊥

-- the triangle or the edge at the spot is split at p, and these slots are named
abbrev pub IsPlaced : List State → List State → Spot → Coords → List ℕ → Type 0
IsPlaced old new (Inside s) p named = SplitStep old new s (At p) [] named
IsPlaced old new (OnEdge s k) p named = EdgeSplitStep old new s (side k) (At p) [] named
IsPlaced old new (Corner s k) p named = ⊥

-- a split at the spot, and then Lawson's flips; each is counted, and the script names the slots of all
pub record Insertion (old new : MeshView) (spot : Spot) (p : Coords) (script : List ℕ) : Type 0 where
  pub mid : MeshView
  pub named : List ℕ
  pub placed : IsPlaced old.slots mid.slots spot p named
  pub counted : mid.turns ≡ raised old.turns
  pub flips : FlipRun mid new named script
