-- Which edges of a mesh may be no longer locally Delaunay.
use Rattle.std.specs.Prelude.{◌≡◌, ◌⊎◌, ◌≤◌, ℕ, false, true, Some, List}
use Rattle.std.specs.List.{slice_get}
use Rattle.ground_model.specs.Corner.{is_corner_inside}
use Rattle.tri_pages.specs.Slots.{State, triangle_at}
use Rattle.tri_pages.specs.declared.tri_slot.TriSlot.{TriSlot}
use Rattle.mesh.specs.Acrosses.{apex}
use Rattle.mesh.specs.Net.{Side, after, corner_at, count_at}

-- the triangles of the slots s and n are over one edge, the edge k of s, which is no piece
pub record AreOver (slots : List State) (s : ℕ) (k : Side) (n : ℕ) : Type 0 where
  pub tri : TriSlot
  pub beyond : TriSlot
  pub back : Side
  pub here : triangle_at slots s ≡ Some tri
  pub there : triangle_at slots n ≡ Some beyond
  pub starts : corner_at beyond back ≡ corner_at tri (after k)
  pub ends : corner_at beyond (after back) ≡ corner_at tri k
  pub free : count_at tri k ≡ 0

-- the edge is locally Delaunay: the apex beyond it isn't inside the circle of the triangle
abbrev pub IsLegal : (slots : List State) (s : ℕ) (k : Side) (n : ℕ) → AreOver slots s k n → Type 0
IsLegal slots s k n x = is_corner_inside (corner_at x.tri k) (corner_at x.tri (after k)) (apex x.tri k) (apex x.beyond x.back) ≡ false

-- the edge k of slot s is a piece, or one of the far triangle, or locally Delaunay
abbrev pub IsLegalAt : List State → ℕ → Side → Type 0
IsLegalAt slots s k = (n : ℕ) (x : AreOver slots s k n) → IsLegal slots s k n x

-- the edge is no piece and not locally Delaunay
pub record IsIllegalAt (slots : List State) (s : ℕ) (k : Side) : Type 0 where
  pub n : ℕ
  pub over : AreOver slots s k n
  pub inside : is_corner_inside (corner_at over.tri k) (corner_at over.tri (after k)) (apex over.tri k) (apex over.beyond over.back) ≡ true

-- each edge that is no piece is locally Delaunay
abbrev pub AreLegal : List State → Type 0
AreLegal slots = (s : ℕ) (k : Side) (n : ℕ) (x : AreOver slots s k n) → IsLegal slots s k n x

-- the script names the slot, at the index `start` or later
pub record IsNamedFrom (script : List ℕ) (start s : ℕ) : Type 0 where
  pub index : ℕ
  pub later : start ≤ index
  pub at : slice_get script index ≡ Some s

-- the edge k of slot s is locally Delaunay, or the slot beyond is named from there on
abbrev pub IsDoneAt : List State → List ℕ → ℕ → ℕ → Side → Type 0
IsDoneAt slots script start s k = (n : ℕ) (x : AreOver slots s k n) → IsLegal slots s k n x ⊎ IsNamedFrom script start n

-- each edge of the slot is
abbrev pub IsDoneSlot : List State → List ℕ → ℕ → ℕ → Type 0
IsDoneSlot slots script start s = (k : Side) → IsDoneAt slots script start s k

-- of each edge that is no piece and not locally Delaunay one of the two slots is named, at the index `start` or later
abbrev pub AreSuspectsFrom : List State → List ℕ → ℕ → Type 0
AreSuspectsFrom slots script start = (s : ℕ) (k : Side) (n : ℕ) (x : AreOver slots s k n) → IsLegal slots s k n x ⊎ (IsNamedFrom script start s ⊎ IsNamedFrom script start n)

-- each edge that is no piece and not locally Delaunay is one of a slot of the script
abbrev pub AreSuspects : List State → List ℕ → Type 0
AreSuspects slots script = AreSuspectsFrom slots script 0

-- where the script had a slot of each such edge, it has one now
abbrev pub KeepsSuspects : (old new : List State) (before after_it : List ℕ) → Type 0
KeepsSuspects old new before after_it = AreSuspects old before → AreSuspects new after_it
