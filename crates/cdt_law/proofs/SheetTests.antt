-- What the walk asks of a sheet, from the definitions of sheets and of local Delaunay.
use Rattle.std.proofs.Common.{◌≡◌, ℕ, refl, Bool, true, false}
use Rattle.std.specs.Prelude.{pos, ◌≤ℤ◌, not, ◌||◌, Some, slice_get}
use Rattle.std.specs.List.{list_all}
use Rattle.ground_model.specs.declared.corner.Corner.{Corner}
use Rattle.ground_model.specs.declared.corner.Corner.TheVariants.{At}
use Rattle.ground_model.specs.Place.{Coords}
use Rattle.predicates.specs.Net.{Net, Triangle, count_of, covers, has_corner}
use Rattle.predicates.specs.Sheet.{IsSheet, IsLocallyDelaunay}
use Rattle.predicates.proofs.Tiling.{each-passes}
use Rattle.predicates.proofs.Owners.{Owner}
use Rattle.predicates.proofs.HasTriangles.{owner-has}
use Rattle.predicates.proofs.InsideDepths.{outside-shallow}
use Rattle.predicates.proofs.Heights.{deep}

-- a point of the net lies in a closed triangle only as a corner
pub sheet-clear : (net : Net) → IsSheet net → (j : ℕ) (p : Coords) → slice_get net.points j ≡ Some p → (k : ℕ) (t : Triangle) → slice_get net.triangles k ≡ Some t → covers t p ≡ true → has_corner t (At p) ≡ true
sheet-clear net sheet j p at_p k t at_t held =
    must (covers t p) (has_corner t (At p)) held
    (each-passes (λ x. not (covers t x) || has_corner t (At x)) net.points
    (each-passes (λ s. list_all (λ x. not (covers s x) || has_corner s (At x)) net.points) net.triangles sheet.apart k t at_t) j p at_p)
  where
    must : (c h : Bool) → c ≡ true → (not c || h) ≡ true → h ≡ true
    must true true e f = refl
    must true false e f = f
    must false h e f = cc

-- ---- an edge that is no piece
pub sheet-local : (net : Net) → IsLocallyDelaunay net → (a b : Corner) (o : Owner net.triangles a b) (q : Owner net.triangles b a) → count_of net a b ≡ 0 → deep a b o.third q.third ≤ℤ pos 0
sheet-local net local a b o q none = outside-shallow a b o.third q.third (local a b o.third q.third (owner-has net a b o) (owner-has net b a q) none)
