-- The triangle at a point whose angle has a place.
use Rattle.std.proofs.Common.{◌≡◌, ℕ, List, subst}
use Rattle.std.specs.Prelude.{pos, ◌<ℤ◌, ◌≤ℤ◌}
use Rattle.ground_model.specs.declared.corner.Corner.{Corner}
use Rattle.ground_model.specs.declared.corner.Corner.TheVariants.{At}
use Rattle.ground_model.specs.Corner.{corner_at as place_of, corner_side}
use Rattle.ground_model.specs.Place.{Coords}
use Rattle.ground_model.specs.Side.{side}
use Rattle.tri_pages.specs.Slots.{State}
use Rattle.mesh.specs.Acrosses.{apex}
use Rattle.mesh.specs.Net.{after, corner_at}
use Rattle.mesh.specs.Sheets.{IsSheetMesh, HasCorner}
use Rattle.locate.specs.Facets.{IsCornerOf}
use Rattle.point_edit.proofs.Covers.{angle_of}
use Rattle.point_edit.proofs.Looks.{standing_of}
use Rattle.point_edit.proofs.RoundStars.{ring, star}
use Rattle.point_edit.proofs.Rounds.{one_tri, at, period, next_beside}
use Rattle.line_edit.specs.Ways.{IsToward}
use Rattle.line_edit.proofs.Sought.{IsOfTriangles}

-- the triangle at v has q in its angle
pub record IsWedge (slots : List State) (v q : Coords) (x : HasCorner slots (At v)) : Type 0 where
  pub first_leg : pos 0 ≤ℤ corner_side (At v) (corner_at x.tri (after x.side)) (At q)
  pub other_leg : corner_side (At v) (apex x.tri x.side) (At q) <ℤ pos 0

pub wedges_alike : (slots : List State) (v q : Coords) → IsOfTriangles slots v (IsWedge slots v q)
wedges_alike slots v q = λ m x y one w. record {
  first_leg = subst (λ z. z) (λ i. pos 0 ≤ℤ corner_side (At v) (corner_at (one_tri slots m v x y one.0 i) (after (one.1 i))) (At q)) w.first_leg;
  other_leg = subst (λ z. z) (λ i. corner_side (At v) (apex (one_tri slots m v x y one.0 i) (one.1 i)) (At q) <ℤ pos 0) w.other_leg;
}

pub no_wedge : (slots : List State) (v q : Coords) (n j : ℕ) (c : IsCornerOf slots n j v) → (IsToward slots n j v q → ⊥) → IsWedge slots v q (standing_of slots v n j c) → ⊥
no_wedge slots v q n j c other w =
    let y = standing_of slots v n j c in
    other (record { tri = y.tri; there = y.there; first_leg = w.first_leg; other_leg = w.other_leg })

-- there is one
pub some_wedge : (slots : List State) (m : IsSheetMesh slots) (v q : Coords) → HasCorner slots (At v) → (v ≡ q → ⊥) → (x : HasCorner slots (At v)) × IsWedge slots v q x
some_wedge slots m v q start differ =
    let n = period slots m v start in
    let a = angle_of v (ring slots m v start) n.0 (star slots m v start n.0 n.1) q differ in (
      at slots m v start a.i,
      record {
        first_leg = a.first_leg;
        other_leg = subst (λ (c : Corner). side v (place_of c) q <ℤ pos 0) (next_beside slots m v start a.i) a.other_leg;
      },
    )
