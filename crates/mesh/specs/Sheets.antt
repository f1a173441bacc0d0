-- A mesh whose triangles are counterclockwise is a sheet of its places.
use Rattle.std.specs.Prelude.{◌≡◌, ◌<◌, ◌⊎◌, ◌<ℤ◌, pos, ℕ, Bool, true, ◌&&◌, if◌then◌else◌, Some, None, List, [], ◌∷◌}
use Rattle.ground_model.specs.declared.corner.Corner.{Corner}
use Rattle.ground_model.specs.declared.corner.Corner.TheVariants.{At, Far}
use Rattle.ground_model.specs.Corner.{corner_side, is_same_corner}
use Rattle.ground_model.specs.Line.{is_point}
use Rattle.ground_model.specs.Place.{Coords}
use Rattle.predicates.specs.Far.{is_far, IsKnown}
use Rattle.predicates.specs.Net.{Net, Triangle}
use Rattle.predicates.specs.Sheet.{IsSheet}
use Rattle.tri_pages.specs.Slots.{State, triangle_at}
use Rattle.tri_pages.specs.declared.tri_slot.TriSlot.{TriSlot}
use Rattle.mesh.specs.Meshes.{IsMesh}
use Rattle.mesh.specs.Net.{Side, first, second, third, after, corner_at, count_at}

-- the triangle of a slot's three corners
abbrev pub triangle_of : TriSlot → Triangle
triangle_of t = record { a = corner_at t first; b = corner_at t second; c = corner_at t third }

-- the triangles in the slots, in their order
abbrev pub triangles_of : List State → List Triangle
triangles_of [] = []
triangles_of (None ∷ states) = triangles_of states
triangles_of (Some None ∷ states) = triangles_of states
triangles_of (Some (Some t) ∷ states) = triangle_of t ∷ triangles_of states

-- the corner's place, if it has one, before the others
abbrev pub place_before : Corner → List Coords → List Coords
place_before (At p) ps = p ∷ ps
place_before (Far k) ps = ps

-- the places among the corners, some more than once
abbrev pub places_in : List State → List Coords
places_in [] = []
places_in (None ∷ states) = places_in states
places_in (Some None ∷ states) = places_in states
places_in (Some (Some t) ∷ states) = place_before (corner_at t first) (place_before (corner_at t second) (place_before (corner_at t third) (places_in states)))

-- whether the edge goes from p to q
abbrev pub is_side : TriSlot → Side → Coords → Coords → Bool
is_side t k p q = is_same_corner (corner_at t k) (At p) && is_same_corner (corner_at t (after k)) (At q)

-- the count of the edge from p to q, which is 0 where there is none
abbrev pub count_in : List State → Coords → Coords → ℕ
count_in [] p q = 0
count_in (None ∷ states) p q = count_in states p q
count_in (Some None ∷ states) p q = count_in states p q
count_in (Some (Some t) ∷ states) p q = if is_side t first p q then count_at t first else if is_side t second p q then count_at t second else if is_side t third p q then count_at t third else count_in states p q

-- the net of a mesh
abbrev pub net_in : List State → Net
net_in slots = record { points = places_in slots; count = count_in slots; triangles = triangles_of slots }

-- the corners are places or far ones, and turn counterclockwise; an edge with a far corner has no count
pub record IsTurned (t : TriSlot) : Type 0 where
  pub known : (k : Side) → IsKnown (corner_at t k)
  pub left : pos 0 <ℤ corner_side (corner_at t first) (corner_at t second) (corner_at t third)
  pub uncounted : (k : Side) → (is_far (corner_at t k) ≡ true) ⊎ (is_far (corner_at t (after k)) ≡ true) → count_at t k ≡ 0

-- a mesh of such triangles
pub record IsSheetMesh (slots : List State) : Type 0 where
  pub mesh : IsMesh slots
  pub turned : (s : ℕ) (t : TriSlot) → triangle_at slots s ≡ Some t → IsTurned t

-- a triangle has the edge from a to b
pub record HasSide (slots : List State) (a b : Corner) : Type 0 where
  pub slot : ℕ
  pub tri : TriSlot
  pub side : Side
  pub there : triangle_at slots slot ≡ Some tri
  pub tail : corner_at tri side ≡ a
  pub head : corner_at tri (after side) ≡ b

-- a triangle has the corner
pub record HasCorner (slots : List State) (a : Corner) : Type 0 where
  pub slot : ℕ
  pub tri : TriSlot
  pub side : Side
  pub there : triangle_at slots slot ≡ Some tri
  pub is : corner_at tri side ≡ a

-- the net's triangles are those of the slots, its points the places among their corners, and its counts those of their edges
pub record IsNetOf (slots : List State) (net : Net) : Type 0 where
  pub triangles : net.triangles ≡ triangles_of slots
  pub corners : (p : Coords) → HasCorner slots (At p) → is_point net.points p ≡ true
  pub points : (p : Coords) → is_point net.points p ≡ true → HasCorner slots (At p)
  pub counts : (p q : Coords) (x : HasSide slots (At p) (At q)) → count_at x.tri x.side ≡ net.count p q
  pub pieces : (p q : Coords) → 0 < net.count p q → HasSide slots (At p) (At q)

-- the net of such a mesh is a sheet
abbrev pub SheetLaw : Type 0
SheetLaw = (slots : List State) (net : Net) → IsSheetMesh slots → IsNetOf slots net → IsSheet net

-- there is one
abbrev pub NetLaw : Type 0
NetLaw = (slots : List State) → IsSheetMesh slots → IsNetOf slots (net_in slots)
