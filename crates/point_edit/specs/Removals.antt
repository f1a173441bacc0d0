-- A point is taken out of a mesh.
use Rattle.std.specs.Prelude.{◌≡◌, ◌⊎◌, ◌<◌, ◌+◌, ◌-◌, ◌/◌, ◌%◌, ◌^◌, ◌++◌, pos, ℕ, Some, List, [], ◌∷◌, length, min}
use Rattle.ground_model.specs.declared.corner.Corner.{Corner}
use Rattle.ground_model.specs.declared.corner.Corner.TheVariants.{At}
use Rattle.ground_model.specs.Place.{Coords}
use Rattle.ground_model.specs.Side.{side}
use Rattle.predicates.specs.Net.{Net}
use Rattle.tri_pages.specs.Slots.{State, triangle_at}
use Rattle.tri_pages.specs.declared.tri_slot.TriSlot.{TriSlot}
use Rattle.mesh.specs.Acrosses.{apex, IsAcross}
use Rattle.mesh.specs.FlipRuns.{Flip, FlipRun, slots_named}
use Rattle.mesh.specs.Flips.{IsFlipped}
use Rattle.mesh.specs.Meshes.{MeshView, raised}
use Rattle.mesh.specs.Net.{Side, after, corner_at, count_at}
use Rattle.mesh.specs.NetChanges.{HasOneMore, HaveSameCounts, HasSplitEdge}
use Rattle.mesh.specs.Sheets.{IsSheetMesh, HasCorner}
use Rattle.mesh.specs.StepLaws.{CanFlip}
use Rattle.mesh.specs.Steps.{UnsplitStep}
use Rattle.mesh.specs.Straights.{EdgeUnsplitStep}
use Rattle.mesh.specs.Unsplits.{AreAround}
use Rattle.locate.specs.Facets.{IsCornerOf}

-- the number is one of the place p: a live slot and its corner that p is
abbrev pub IsPointOf : List State → ℕ → Coords → Type 0
IsPointOf slots number p = IsCornerOf slots (number / 4) (number % 4) p

-- the number is one of a place
abbrev pub IsLivePoint : List State → ℕ → Type 0
IsLivePoint slots number = (p : Coords) × IsPointOf slots number p

-- the piece from p to q goes straight on beyond p, with the same count
pub record GoesOn (net : Net) (p q : Coords) : Type 0 where
  pub other : Coords
  pub apart : other ≡ q → ⊥
  pub straight : side q p other ≡ pos 0
  pub same_count : net.count p other ≡ net.count p q

-- at most two edges at p are pieces, and each goes straight on through p
pub record IsRemovable (net : Net) (p : Coords) : Type 0 where
  pub straight : (q : Coords) → 0 < net.count p q → GoesOn net p q
  pub two : (q r x : Coords) → 0 < net.count p q → 0 < net.count p r → 0 < net.count p x → (q ≡ r → ⊥) → (x ≡ q) ⊎ (x ≡ r)

-- the other net lacks the point p, and all further points stay. The pieces stay too, or the two at p are one edge with their count, on which to put p back would undo that
abbrev pub IsTakenOut : Net → Net → Coords → Type 0
IsTakenOut net other p = (HasOneMore other net p × HaveSameCounts net other) ⊎ ((q : Corner) × (r : Corner) × HasSplitEdge other net q r p)

-- no edge at p can be flipped
abbrev pub HasNoFlip : List State → Coords → Type 0
HasNoFlip slots p = (x : HasCorner slots (At p)) → CanFlip slots x.slot x.side → ⊥

-- the triangles on both sides of the one at the apex p of the edge k have one further corner: they are all three at p
abbrev pub AreThree : List State → ℕ → Side → Type 0
AreThree slots s k = (t : TriSlot) (f : ℕ) (u : TriSlot) (j : Side) (g : ℕ) (v : TriSlot) (l : Side) → triangle_at slots s ≡ Some t → AreAround slots t k f u j g v l → apex v l ≡ apex u j

-- beyond the edge of slot s that ends at its corner k stands the slot n, with the same corner as its corner j: the next triangle round it, counterclockwise
abbrev pub IsNextRound : List State → ℕ → Side → ℕ → Side → Type 0
IsNextRound slots s k n j = (t : TriSlot) → triangle_at slots s ≡ Some t → (u : TriSlot) × IsAcross slots t (after (after k)) n u j

-- an edge at the corner c, which is no piece, is flipped, and a sheet is left
pub record IsFlipAt (c : Corner) (old new : List State) (f : Flip) : Type 0 where
  pub is : IsFlipped old new f.slot f.side f.beyond
  pub at : corner_at is.tri f.side ≡ c
  pub free : count_at is.tri f.side ≡ 0
  pub sheet : IsSheetMesh new

-- such flips, one after the other, make the new mesh from the old one
abbrev pub AreFlipsAt : Corner → List Flip → List State → List State → Type 0
AreFlipsAt c [] old new = old ≡ new
AreFlipsAt c (f ∷ fs) old new = (mid : List State) × IsFlipAt c old mid f × AreFlipsAt c fs mid new

-- they are counted, and the script names both slots of each
pub record FlipsAt (c : Corner) (old new : MeshView) (before after_it : List ℕ) : Type 0 where
  pub flips : List Flip
  pub are : AreFlipsAt c flips old.slots new.slots
  pub named : after_it ≡ before ++ slots_named flips
  pub counted : new.turns ≡ min (old.turns + length flips) (2 ^ 64 - 1)

-- the last three triangles at a corner become one, or the last four two, and the script names what they become
abbrev pub IsClosed : List State → List State → List ℕ → List ℕ → Type 0
IsClosed old new before after_it = ((s : ℕ) × (k : Side) × UnsplitStep old new s k before after_it) ⊎ ((s : ℕ) × (k : Side) × EdgeUnsplitStep old new s k before after_it)

-- flips of edges at p, then one step that takes p out, then Lawson's flips; each is counted, and the script names the slots of all
pub record Removal (old new : MeshView) (p : Coords) (script : List ℕ) : Type 0 where
  pub few : MeshView
  pub without : MeshView
  pub named : List ℕ
  pub then_named : List ℕ
  pub flips : FlipsAt (At p) old few [] named
  pub closed : IsClosed few.slots without.slots named then_named
  pub counted : without.turns ≡ raised few.turns
  pub legal : FlipRun without new then_named script
