-- A split at a spot, and flips, put the point in.
use Rattle.std.proofs.Common.{◌≡◌, ℕ, List, refl, sym, subst, ◌∙◌}
use Rattle.ground_model.specs.declared.corner.Corner.{Corner}
use Rattle.ground_model.specs.declared.corner.Corner.TheVariants.{At, Far}
use Rattle.ground_model.specs.Place.{Coords, IsPlace}
use Rattle.locate.specs.declared.spot.Spot.{Spot}
use Rattle.locate.specs.declared.spot.Spot.TheVariants.{Inside, OnEdge, Corner as AtCorner}
use Rattle.locate.specs.Spots.{IsSpot}
use Rattle.predicates.specs.Net.{Net, count_of}
use Rattle.mesh.specs.FlipRuns.{FlipRun}
use Rattle.mesh.specs.Meshes.{MeshView}
use Rattle.mesh.specs.Net.{after, corner_at, side}
use Rattle.mesh.specs.NetChanges.{HaveSamePoints, HaveSameCounts, HasOneMore, HasSplitEdge}
use Rattle.mesh.specs.Sheets.{IsSheetMesh, net_in}
use Rattle.mesh.proofs.EdgeContents.{edge_split_law}
use Rattle.mesh.proofs.NamedEdges.{same_in}
use Rattle.mesh.proofs.StepContents.{split_law, flips_law}
use Rattle.point_edit.specs.Insertions.{IsPlaced, IsPutIn}

pub same_count_of : (net other : Net) → HaveSameCounts net other → (a b : Corner) → count_of other a b ≡ count_of net a b
same_count_of net other same (At p) (At q) = same p q
same_count_of net other same (At p) (Far k) = refl
same_count_of net other same (Far j) b = refl

pub one_more_on : (net mid other : Net) (p : Coords) → HasOneMore net mid p → HaveSamePoints mid other → HasOneMore net other p
one_more_on net mid other p x same = record { there = same p ∙ x.there; absent = x.absent; others = λ q ne. same q ∙ x.others q ne }

split_edge_on : (net mid other : Net) (a b : Corner) (p : Coords) → HasSplitEdge net mid a b p → HaveSamePoints mid other → HaveSameCounts mid other → HasSplitEdge net other a b p
split_edge_on net mid other a b p x points counts = record {
  point = one_more_on net mid other p x.point points;
  start = same_count_of mid other counts a (At p) ∙ x.start;
  end = same_count_of mid other counts (At p) b ∙ x.end;
  whole = same_count_of mid other counts a b ∙ x.whole;
  rest = λ q r not_start not_end not_whole. counts q r ∙ x.rest q r not_start not_end not_whole;
}

pub put_in : (old mid new : MeshView) (spot : Spot) (p : Coords) (named script : List ℕ) → IsSheetMesh old.slots → IsSheetMesh mid.slots → IsPlace p → IsSpot old.slots p spot → IsPlaced old.slots mid.slots spot p named → FlipRun mid new named script
    → IsPutIn old.slots spot p (net_in old.slots) (net_in new.slots)
put_in old mid new (Inside s) p named script m m' place spot placed run =
    let step = split_law old.slots mid.slots s placed.f placed.g p m m' place spot.1 placed.is in
    let same = flips_law mid new named script m' run in
    (one_more_on (net_in old.slots) (net_in mid.slots) (net_in new.slots) p step.0 same.0, (λ q r. same.1 q r ∙ step.1 q r))
put_in old mid new (OnEdge s k) p named script m m' place spot placed run =
    let step = edge_split_law old.slots mid.slots s (side k) p placed.n placed.f placed.g m m' place spot.2 placed.is in
    let same = flips_law mid new named script m' run in
    let whole = split_edge_on (net_in old.slots) (net_in mid.slots) (net_in new.slots) (corner_at placed.is.tri (side k)) (corner_at placed.is.tri (after (side k))) p step same.0 same.1 in
    λ t there. subst (λ u. HasSplitEdge (net_in old.slots) (net_in new.slots) (corner_at u (side k)) (corner_at u (after (side k))) p) (same_in placed.is.tri t (sym placed.is.here ∙ there)) whole
put_in old mid new (AtCorner s k) p named script m m' place spot placed run = absurd placed
