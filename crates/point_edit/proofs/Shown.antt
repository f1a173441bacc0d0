-- Meshes of contents: that they show them, and that they do with a point more.
use Rattle.std.proofs.Common.{◌≡◌, ℕ, ◌<◌, refl, sym, ap, subst, ◌∙◌, List, Bool, Option, Some, None, true, false}
use Rattle.std.specs.Prelude.{ℤ, not, ◌&&◌}
use Rattle.std.specs.Option.{IsSome}
use Rattle.std.specs.FinMap as finmap
use Rattle.std.proofs.lemmas.Bool.{both_ways as clash}
use Rattle.ground_model.specs.declared.corner.Corner.{Corner}
use Rattle.ground_model.specs.declared.corner.Corner.TheVariants.{At, Far}
use Rattle.ground_model.specs.declared.edit.Edit.TheVariants.{AddPoint}
use Rattle.ground_model.specs.Content.{Content, after, points_of, lines_of}
use Rattle.ground_model.specs.Crossings.{is_on_points}
use Rattle.ground_model.specs.Line.{Line, is_point}
use Rattle.ground_model.specs.Place.{Coords, IsPlace, is_same}
use Rattle.ground_model.specs.Table.{count_on}
use Rattle.ground_model.proofs.Elements.{In, each_at}
use Rattle.ground_model.proofs.LinePieces.{is_same_itself}
use Rattle.ground_model.proofs.Ties.{same_of_is_same}
use Rattle.predicates.specs.Net.{net_over, count_of}
use Rattle.predicates.specs.Sheet.{IsLocallyDelaunay}
use Rattle.cdt_law.specs.Point.{IsJoined}
use Rattle.cdt_law.proofs.Counts.{both_ways}
use Rattle.cdt_law.proofs.FacetLaws.{facet_law}
use Rattle.cdt_law.proofs.LineTimes.{AreNext}
use Rattle.cdt_law.proofs.PointLaw.{added-points, added-it}
use Rattle.cdt_law.proofs.Standing.{next-on}
use Rattle.locate.specs.declared.spot.Spot.{Spot}
use Rattle.locate.specs.declared.spot.Spot.TheVariants.{Inside, OnEdge, Corner as AtCorner}
use Rattle.locate.specs.Spots.{IsSpot}
use Rattle.tri_pages.specs.declared.tri_slot.TriSlot.{TriSlot}
use Rattle.tri_pages.specs.Slots.{State, triangle_at}
use Rattle.mesh.specs.Net.{Side, after as next_side, corner_at, side}
use Rattle.mesh.specs.Insides.{IsOnSlot}
use Rattle.mesh.specs.NetChanges.{HasOneMore, HasSplitEdge}
use Rattle.mesh.specs.Sheets.{IsSheetMesh, IsNetOf, net_in, triangles_of}
use Rattle.mesh.proofs.NetOfMesh.{net_law, sheet_in}
use Rattle.mesh.proofs.SheetLaw.{sheet_law, held_times}
use Rattle.point_edit.specs.Contents.{IsOver, IsMeshOf, ContentLaw, AddedLaw}
use Rattle.point_edit.specs.Insertions.{IsPutIn}
use Rattle.point_edit.proofs.Added.{within, on_edge}
use Rattle.point_edit.proofs.OnEdge.{Ended, ended}

net_of : (c : Content) (slots : List State) → IsMeshOf c slots → IsNetOf slots (net_over c (triangles_of slots))
net_of c slots m =
    let n = net_law slots m.sheet in record {
      triangles = refl;
      corners = λ p x. sym (m.over.points p) ∙ n.corners p x;
      points = λ p e. n.points p (m.over.points p ∙ e);
      counts = λ p q x. n.counts p q x ∙ m.over.counts p q;
      pieces = λ p q some. n.pieces p q (subst (λ k. 0 < k) (sym (m.over.counts p q)) some);
    }

count_over : (c : Content) (slots : List State) → IsMeshOf c slots → (a b : Corner) → count_of (net_in slots) a b ≡ count_of (net_over c (triangles_of slots)) a b
count_over c slots m (At p) (At q) = m.over.counts p q
count_over c slots m (At p) (Far k) = refl
count_over c slots m (Far j) b = refl

pub content_law : ContentLaw
content_law c slots m =
    let sheet = sheet_law slots (net_over c (triangles_of slots)) m.sheet (net_of c slots m) in
    let delaunay : IsLocallyDelaunay (net_over c (triangles_of slots)) = λ x y z w left right free. m.delaunay x y z w left right (count_over c slots m x y ∙ free) in record {
      sheet = sheet;
      delaunay = delaunay;
      facets = facet_law c (triangles_of slots) sheet delaunay;
    }

-- ---- a point more
module _ (c : Content) (p : Coords) (z : ℤ) (old new : List State) (spot : Spot) (joined : IsJoined c) (place : IsPlace p) (at : IsSpot old p spot) (m : IsMeshOf c old) (m' : IsSheetMesh new) where
  abbrev more : List Coords
  more = finmap.keys (finmap.insert c.points p z)

  points_more : HasOneMore (net_in old) (net_in new) p → (q : Coords) → is_point (net_in new).points q ≡ is_point more q
  points_more one q = by (is_same p q) refl
    where
      without : is_point (points_of c) p ≡ false → (x : Coords) → is_point (points_of c) x ≡ (is_point more x && not (is_same p x))
      without none = added-points c.points p z none

      none : is_point (points_of c) p ≡ false
      none = sym (m.over.points p) ∙ one.absent

      beside : (t s : Bool) → s ≡ false → (t && not s) ≡ t
      beside true s e = ap not e
      beside false s e = refl

      by : (t : Bool) → is_same p q ≡ t → is_point (net_in new).points q ≡ is_point more q
      by true e = subst (λ k. is_point (net_in new).points k ≡ is_point more k) (same_of_is_same p q e) (one.there ∙ sym (added-it c.points p z))
      by false e =
          one.others q (λ same. clash (is_same p q) e (ap (is_same p) same ∙ is_same_itself p))
          ∙ m.over.points q ∙ without none q ∙ beside (is_point more q) (is_same p q) e

  on : (line : Line) → In line (lines_of c) → is_on_points (points_of c) line ≡ true
  on line i = each_at (λ line. is_on_points (points_of c) line ≡ true) (lines_of c) line joined.on_points i

  over_by : HasOneMore (net_in old) (net_in new) p → ((q r : Coords) → (net_in new).count q r ≡ both_ways (count_on more (lines_of c)) q r) → IsOver (after c (AddPoint p z)) (net_in new)
  unfolding after
  over_by one counts = record { points = points_more one; counts = counts }

  less : HasOneMore (net_in old) (net_in new) p → (x : Coords) → is_point (points_of c) x ≡ (is_point more x && not (is_same p x))
  less one = added-points c.points p z (sym (m.over.points p) ∙ one.absent)

  next : (s : ℕ) (t : TriSlot) (k : Side) (a b : Coords) → triangle_at old s ≡ Some t → corner_at t k ≡ At a → corner_at t (next_side k) ≡ At b → AreNext (points_of c) a b
  next s t k a b there tail head =
      let n = next-on (net_in old) (sheet_in old m.sheet) a b (held_times old m.sheet.mesh (At a, At b) s t k there (λ i. (tail i, head i))) in record {
        first = sym (m.over.points a) ∙ n.first;
        last = sym (m.over.points b) ∙ n.last;
        clear = λ x e h. n.clear x (m.over.points x ∙ e) h;
        clear_back = λ x e h. n.clear_back x (m.over.points x ∙ e) h;
      }

  swapped : (a b : Coords) → AreNext (points_of c) a b → AreNext (points_of c) b a
  swapped a b n = record { first = n.last; last = n.first; clear = n.clear_back; clear_back = n.clear }

  on_this : (s : ℕ) (t : TriSlot) (k : Side) → triangle_at old s ≡ Some t → Ended (corner_at t k) (corner_at t (next_side k)) p → HasSplitEdge (net_in old) (net_in new) (corner_at t k) (corner_at t (next_side k)) p → IsOver (after c (AddPoint p z)) (net_in new)
  on_this s t k there e x =
      let n = next s t k e.first e.last there e.a_is e.b_is in
      let y : HasSplitEdge (net_in old) (net_in new) (At e.first) (At e.last) p = subst (λ (f : Corner × Corner). HasSplitEdge (net_in old) (net_in new) f.0 f.1 p) (λ i. (e.a_is i, e.b_is i)) x in
      over_by x.point (on_edge (points_of c) more (lines_of c) p (net_in old) (net_in new) (less x.point) (added-it c.points p z) on (sheet_in new m') m.over.points m.over.counts x.point e.first e.last n (swapped e.first e.last n) e.between.0 e.between.1 y)

  live_on : (o : Option TriSlot) (s : ℕ) (k : Side) → triangle_at old s ≡ o → IsSome o → IsOnSlot old s k p → ((t : TriSlot) → triangle_at old s ≡ Some t → HasSplitEdge (net_in old) (net_in new) (corner_at t k) (corner_at t (next_side k)) p) → IsOver (after c (AddPoint p z)) (net_in new)
  live_on None s k e live lies x = cc
  live_on (Some t) s k e live lies x = on_this s t k e (ended old m.sheet s t k p e place (lies t e)) (x t e)

pub over_added : (c : Content) (p : Coords) (z : ℤ) (old new : List State) (spot : Spot) → IsJoined c → IsPlace p → IsSpot old p spot → IsMeshOf c old → IsSheetMesh new → IsPutIn old spot p (net_in old) (net_in new) → IsOver (after c (AddPoint p z)) (net_in new)
over_added c p z old new (Inside s) joined place at m m' x =
    over_by c p z old new (Inside s) joined place at m m' x.0
    (within (points_of c) (finmap.keys (finmap.insert c.points p z)) (lines_of c) p (net_in old) (net_in new) (less c p z old new (Inside s) joined place at m m' x.0) (added-it c.points p z) (on c p z old new (Inside s) joined place at m m') (sheet_in new m') m.over.points m.over.counts x.0 x.1)
over_added c p z old new (OnEdge s k) joined place at m m' x = live_on c p z old new (OnEdge s k) joined place at m m' (triangle_at old s) s (side k) refl at.0 at.2 x
over_added c p z old new (AtCorner s k) joined place at m m' x = absurd x

pub added_law : AddedLaw
added_law c p z old new spot joined place at m m' delaunay x = record { sheet = m'; delaunay = delaunay; over = over_added c p z old new spot joined place at m m' x }
