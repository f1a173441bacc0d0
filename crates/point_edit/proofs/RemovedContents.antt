-- A mesh of a content with a point taken out is one of the content without it.
use Rattle.std.proofs.Common.{◌≡◌, refl, sym, ap, subst, ◌∙◌, inl, inr, List, Bool, true, false}
use Rattle.std.specs.Prelude.{not, ◌&&◌}
use Rattle.std.specs.FinMap as finmap
use Rattle.std.specs.List.{All}
use Rattle.std.proofs.lemmas.Bool.{both_ways as clash}
use Rattle.ground_model.specs.declared.edit.Edit.TheVariants.{RemovePoint}
use Rattle.ground_model.specs.Content.{Content, after, points_of, lines_of}
use Rattle.ground_model.specs.Crossings.{is_on_points}
use Rattle.ground_model.specs.Line.{Line, is_point, has_place}
use Rattle.ground_model.specs.Place.{Coords, is_same}
use Rattle.ground_model.specs.Table.{count_on}
use Rattle.ground_model.proofs.Elements.{In, each_at}
use Rattle.ground_model.proofs.LinePieces.{is_same_itself}
use Rattle.ground_model.proofs.Planar.{still_on}
use Rattle.ground_model.proofs.Ties.{same_of_is_same}
use Rattle.cdt_law.specs.Point.{IsJoined}
use Rattle.cdt_law.proofs.Counts.{both_ways}
use Rattle.cdt_law.proofs.PointEdits.{gone-end}
use Rattle.cdt_law.proofs.PointLaw.{removed-points}
use Rattle.tri_pages.specs.Slots.{State}
use Rattle.mesh.specs.NetChanges.{HasOneMore}
use Rattle.mesh.specs.Sheets.{IsSheetMesh, net_in}
use Rattle.mesh.proofs.Contents.{false_by}
use Rattle.mesh.proofs.NetOfMesh.{sheet_in}
use Rattle.point_edit.specs.Contents.{IsOver, IsMeshOf, RemovedLaw}
use Rattle.point_edit.specs.Removals.{IsTakenOut}
use Rattle.point_edit.proofs.Removed.{alone, joined}

module _ (c : Content) (p : Coords) (old new : List State) (fits : IsJoined c) (unused : All (λ line. has_place p line ≡ false) (lines_of c)) (m : IsMeshOf c old) (m' : IsSheetMesh new) where
  abbrev fewer : List Coords
  fewer = finmap.keys (finmap.remove c.points p)

  there : HasOneMore (net_in new) (net_in old) p → is_point (points_of c) p ≡ true
  there one = sym (m.over.points p) ∙ one.there

  gone : HasOneMore (net_in new) (net_in old) p → is_point fewer p ≡ false
  gone one = false_by (is_point fewer p) (gone-end (points_of c) fewer p (record { without = removed-points c.points p; at_c = there one }))

  points_less : HasOneMore (net_in new) (net_in old) p → (q : Coords) → is_point (net_in new).points q ≡ is_point fewer q
  points_less one q = by (is_same p q) refl
    where
      beside : (t s : Bool) → s ≡ false → (t && not s) ≡ t
      beside true s e = ap not e
      beside false s e = refl

      by : (t : Bool) → is_same p q ≡ t → is_point (net_in new).points q ≡ is_point fewer q
      by true e = subst (λ k. is_point (net_in new).points k ≡ is_point fewer k) (same_of_is_same p q e) (one.absent ∙ sym (gone one))
      by false e =
          sym (one.others q (λ same. clash (is_same p q) e (ap (is_same p) same ∙ is_same_itself p)))
          ∙ m.over.points q ∙ sym (removed-points c.points p q ∙ beside (is_point (points_of c) q) (is_same p q) e)

  on : (line : Line) → In line (lines_of c) → is_on_points fewer line ≡ true
  on line i = still_on c.points p line (each_at (λ line. is_on_points (points_of c) line ≡ true) (lines_of c) line fits.on_points i) (each_at (λ line. has_place p line ≡ false) (lines_of c) line unused i)

  over_by : HasOneMore (net_in new) (net_in old) p → ((q r : Coords) → (net_in new).count q r ≡ both_ways (count_on fewer (lines_of c)) q r) → IsOver (after c (RemovePoint p)) (net_in new)
  unfolding after
  over_by one counts = record { points = points_less one; counts = counts }

  over_removed : IsTakenOut (net_in old) (net_in new) p → IsOver (after c (RemovePoint p)) (net_in new)
  over_removed (inl x) = over_by x.0 (alone fewer (points_of c) (lines_of c) p (net_in old) (net_in new) (removed-points c.points p) (there x.0) on (sheet_in new m') x.0.absent m.over.counts x.1)
  over_removed (inr x) = over_by x.2.point (joined fewer (points_of c) (lines_of c) p (net_in old) (net_in new) (removed-points c.points p) (there x.2.point) on (sheet_in new m') x.2.point.absent m.over.counts x.0 x.1 x.2)

pub removed_law : RemovedLaw
removed_law c p old new fits unused m m' delaunay x = record { sheet = m'; delaunay = delaunay; over = over_removed c p old new fits unused m m' x }
