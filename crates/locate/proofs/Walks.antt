-- The walk goes from triangle to triangle.
use Rattle.std.specs.Prelude.{pos, ◌<ℤ◌}
use Rattle.std.proofs.Common.{◌≡◌, ◌<◌, ◌≤◌, ℕ, Some, List, length, sym, subst, arith}
use Rattle.std.proofs.lemmas.Int.{ints}
use Rattle.ground_model.specs.declared.corner.Corner.{Corner}
use Rattle.ground_model.specs.declared.corner.Corner.TheVariants.{At, Far}
use Rattle.ground_model.specs.Corner.{corner_side}
use Rattle.ground_model.specs.Place.{Coords, IsPlace}
use Rattle.predicates.proofs.FarSides.{far-side01, far-side12, far-side20}
use Rattle.predicates.proofs.Signs.{never-both}
use Rattle.tri_pages.specs.declared.tri_slot.TriSlot.{TriSlot}
use Rattle.tri_pages.specs.Slots.{State, triangle_at}
use Rattle.mesh.specs.Meshes.{IsLive}
use Rattle.mesh.specs.Net.{Side, after, corner_at, next_at, outside, rim}
use Rattle.mesh.specs.Sheets.{IsSheetMesh}
use Rattle.mesh.proofs.Acrosses.{across_live}
use Rattle.mesh.proofs.Slots.{is_some}
use Rattle.mesh.proofs.StepSheets.{rim_side}
use Rattle.mesh.proofs.TurnedSlots.{by_side}
use Rattle.locate.specs.Parts.{IsBeyond}
use Rattle.locate.specs.Spots.{IsOver}
use Rattle.locate.proofs.Covered.{somewhere}

-- no place lies beyond an edge of the far triangle
inner : (slots : List State) → IsSheetMesh slots → (s : ℕ) (t : TriSlot) (k : Side) (p : Coords) → triangle_at slots s ≡ Some t → IsPlace p → IsBeyond t k p → next_at t k ≡ outside → ⊥
inner slots m s t k p there place beyond out =
    let r = rim_side slots m s t k there out in
    by_side (λ v. corner_at rim v ≡ corner_at t (after k) → corner_at rim (after v) ≡ corner_at t k → ⊥)
    (far (Far 2) (Far 0) (far-side20 p place)) (far (Far 1) (Far 2) (far-side12 p place)) (far (Far 0) (Far 1) (far-side01 p place)) r.0 r.1 r.2
  where
    far : (a b : Corner) → pos 0 <ℤ corner_side a b (At p) → b ≡ corner_at t (after k) → a ≡ corner_at t k → ⊥
    far a b left e f = never-both (corner_side (corner_at t k) (corner_at t (after k)) (At p)) (subst (λ z. z) (λ i. pos 0 <ℤ corner_side (f i) (e i) (At p)) left) beyond

-- so the walk stays among the triangles
pub next_live : (slots : List State) → IsSheetMesh slots → (s : ℕ) (p : Coords) (n : ℕ) → IsPlace p → IsOver slots s p n → IsLive slots n
next_live slots m s p n place x = subst (IsLive slots) (sym x.next_is) (across_live slots s x.side x.tri m.mesh x.there (inner slots m s x.tri x.side p x.there place x.beyond))

-- some slot has a triangle
pub some_live : (slots : List State) (n : ℕ) → IsSheetMesh slots → ((s : ℕ) → s < n → IsLive slots s → ⊥) → length slots ≤ n → ⊥
some_live slots n m none all =
    somewhere slots n (record { e = pos 0; n = pos 0 }) m (record { west = omega (arith, ints); east = omega (arith, ints); south = omega (arith, ints); north = omega (arith, ints) })
    (λ s t h there. absurd (none s h (is_some (triangle_at slots s) t there))) all
