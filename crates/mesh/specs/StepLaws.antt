-- What the mesh steps make of the points and the pieces of a sheet.
use Rattle.std.specs.Prelude.{◌≡◌, ℕ, List}
use Rattle.ground_model.specs.declared.corner.Corner.TheVariants.{At}
use Rattle.ground_model.specs.Place.{Coords, IsPlace}
use Rattle.predicates.specs.Net.{count_of}
use Rattle.predicates.specs.Sheet.{IsLocallyDelaunay}
use Rattle.cdt_law.specs.Flips.{IsIllegal}
use Rattle.tri_pages.specs.Slots.{State}
use Rattle.mesh.specs.Acrosses.{apex, IsInner}
use Rattle.mesh.specs.EdgeSplits.{IsEdgeSplit}
use Rattle.mesh.specs.EdgeUnsplits.{IsEdgeUnsplit}
use Rattle.mesh.specs.FlipRuns.{FlipRun}
use Rattle.mesh.specs.Insides.{IsInSlot, IsOnSlot, IsConvexAt, IsUncounted}
use Rattle.mesh.specs.Meshes.{MeshView, IsLive}
use Rattle.mesh.specs.Net.{Side, after, corner_at}
use Rattle.mesh.specs.NetChanges.{HaveSamePoints, HaveSameCounts, HaveSameCountsBut, HasOneMore, HasSplitEdge}
use Rattle.mesh.specs.Recounts.{IsRecounted}
use Rattle.mesh.specs.Sheets.{IsSheetMesh, net_in}
use Rattle.mesh.specs.Splits.{IsSplit}
use Rattle.mesh.specs.Straights.{IsStraightAt}
use Rattle.mesh.specs.Suspects.{AreLegal, IsIllegalAt}
use Rattle.mesh.specs.Unsplits.{IsUnsplit, IsUnsplittable}

-- a mesh without illegal edges has a locally Delaunay net, and the other way round
abbrev pub DelaunayLaw : Type 0
DelaunayLaw = (slots : List State) → IsSheetMesh slots → (AreLegal slots → IsLocallyDelaunay (net_in slots)) × (IsLocallyDelaunay (net_in slots) → AreLegal slots)

-- what a flip asks of an edge
pub record CanFlip (slots : List State) (s : ℕ) (k : Side) : Type 0 where
  pub live : IsLive slots s
  pub inner : IsInner slots s k
  pub uncounted : IsUncounted slots s k
  pub convex : IsConvexAt slots s k

-- an illegal edge can be flipped
abbrev pub ConvexLaw : Type 0
ConvexLaw = (slots : List State) (s : ℕ) (k : Side) → IsSheetMesh slots → IsIllegalAt slots s k → CanFlip slots s k

-- an illegal edge of a mesh is one of its net
abbrev pub IllegalLaw : Type 0
IllegalLaw = (slots : List State) (s : ℕ) (k : Side) → IsSheetMesh slots → (x : IsIllegalAt slots s k)
    → IsIllegal (net_in slots) (corner_at x.over.tri k) (corner_at x.over.tri (after k)) (apex x.over.tri k) (apex x.over.beyond x.over.back)

-- a run of Lawson's flips leaves the points and the counts
abbrev pub FlipsLaw : Type 0
FlipsLaw = (old new : MeshView) (before after_it : List ℕ) → IsSheetMesh old.slots → FlipRun old new before after_it → HaveSamePoints (net_in old.slots) (net_in new.slots) × HaveSameCounts (net_in old.slots) (net_in new.slots)

-- a split adds its place, and leaves the counts
abbrev pub SplitLaw : Type 0
SplitLaw = (old new : List State) (s f g : ℕ) (p : Coords) → IsSheetMesh old → IsSheetMesh new → IsPlace p → IsInSlot old s p → IsSplit old new s f g (At p)
    → HasOneMore (net_in old) (net_in new) p × HaveSameCounts (net_in old) (net_in new)

-- a split of an edge adds its place, and gives both parts the count of the edge
abbrev pub EdgeSplitLaw : Type 0
EdgeSplitLaw = (old new : List State) (s : ℕ) (k : Side) (p : Coords) (n f g : ℕ) → IsSheetMesh old → IsSheetMesh new → IsPlace p → IsOnSlot old s k p → (is : IsEdgeSplit old new s k (At p) n f g)
    → HasSplitEdge (net_in old) (net_in new) (corner_at is.tri k) (corner_at is.tri (after k)) p

-- a changed count is that of one edge
abbrev pub RecountLaw : Type 0
RecountLaw = (old new : List State) (s : ℕ) (k : Side) (n m : ℕ) → IsSheetMesh old → IsSheetMesh new → (is : IsRecounted old new s k n m)
    → HaveSamePoints (net_in old) (net_in new) × ((count_of (net_in new) (corner_at is.tri k) (corner_at is.tri (after k)) ≡ m) × HaveSameCountsBut (net_in old) (net_in new) (corner_at is.tri k) (corner_at is.tri (after k)))

-- what is unsplit loses the place that is taken out, and keeps the counts
abbrev pub UnsplitLaw : Type 0
UnsplitLaw = (old new : List State) (s : ℕ) (k : Side) (f g : ℕ) (p : Coords) → IsSheetMesh old → IsSheetMesh new → IsUnsplittable old s k → (is : IsUnsplit old new s k f g) → apex is.tri k ≡ At p
    → HasOneMore (net_in new) (net_in old) p × HaveSameCounts (net_in old) (net_in new)

-- an edge that is unsplit was split, at the place that is taken out
abbrev pub EdgeUnsplitLaw : Type 0
EdgeUnsplitLaw = (old new : List State) (s : ℕ) (k : Side) (f n g : ℕ) (p : Coords) → IsSheetMesh old → IsSheetMesh new → IsStraightAt old s k → (is : IsEdgeUnsplit old new s k f n g) → corner_at is.tri (after k) ≡ At p
    → HasSplitEdge (net_in new) (net_in old) (corner_at is.tri k) (corner_at is.below is.below_side) p
