-- Where a place lies in a mesh, and which edges can be flipped.
use Rattle.std.specs.Prelude.{◌≡◌, ◌<ℤ◌, pos, ℕ, false, Some, List}
use Rattle.ground_model.specs.declared.corner.Corner.{Corner}
use Rattle.ground_model.specs.declared.corner.Corner.TheVariants.{At}
use Rattle.ground_model.specs.Corner.{corner_side}
use Rattle.ground_model.specs.Place.{Coords}
use Rattle.predicates.specs.Far.{is_far}
use Rattle.tri_pages.specs.Slots.{State, triangle_at}
use Rattle.tri_pages.specs.declared.tri_slot.TriSlot.{TriSlot}
use Rattle.mesh.specs.Acrosses.{apex, IsAcross}
use Rattle.mesh.specs.Net.{Side, after, corner_at, count_at}

-- the place lies strictly inside the triangle
abbrev pub IsInTriangle : TriSlot → Coords → Type 0
IsInTriangle t p = (k : Side) → pos 0 <ℤ corner_side (corner_at t k) (corner_at t (after k)) (At p)

-- the place lies on the edge ab of the triangle abc, strictly between its ends
pub record IsOnEdge (t : TriSlot) (k : Side) (p : Coords) : Type 0 where
  pub flat : corner_side (corner_at t k) (corner_at t (after k)) (At p) ≡ pos 0
  pub bc : pos 0 <ℤ corner_side (corner_at t (after k)) (apex t k) (At p)
  pub ca : pos 0 <ℤ corner_side (apex t k) (corner_at t k) (At p)

-- the triangle of the slot has the place strictly inside
abbrev pub IsInSlot : List State → ℕ → Coords → Type 0
IsInSlot slots s p = (t : TriSlot) → triangle_at slots s ≡ Some t → IsInTriangle t p

-- the place lies on the edge k of the slot, strictly between its ends
abbrev pub IsOnSlot : List State → ℕ → Side → Coords → Type 0
IsOnSlot slots s k p = (t : TriSlot) → triangle_at slots s ≡ Some t → IsOnEdge t k p

-- abc and bad make a strictly convex quadrilateral: adc and dbc are counterclockwise
pub record IsConvexOver (a b c d : Corner) : Type 0 where
  pub at_a : pos 0 <ℤ corner_side a d c
  pub at_b : pos 0 <ℤ corner_side d b c

-- so do the two triangles over the edge k of slot s
abbrev pub IsConvexAt : List State → ℕ → Side → Type 0
IsConvexAt slots s k = (t : TriSlot) (n : ℕ) (u : TriSlot) (j : Side) → triangle_at slots s ≡ Some t → IsAcross slots t k n u j → IsConvexOver (corner_at t k) (corner_at t (after k)) (apex t k) (apex u j)

-- the edge k of slot s has no count
abbrev pub IsUncounted : List State → ℕ → Side → Type 0
IsUncounted slots s k = (t : TriSlot) → triangle_at slots s ≡ Some t → count_at t k ≡ 0

-- it joins two places
abbrev pub JoinsPlaces : List State → ℕ → Side → Type 0
JoinsPlaces slots s k = (t : TriSlot) → triangle_at slots s ≡ Some t → (is_far (corner_at t k) ≡ false) × (is_far (corner_at t (after k)) ≡ false)

-- the corner k of slot s is a place
abbrev pub IsPlaceAt : List State → ℕ → Side → Type 0
IsPlaceAt slots s k = (t : TriSlot) → triangle_at slots s ≡ Some t → is_far (corner_at t k) ≡ false
