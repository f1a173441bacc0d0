-- A corner that lies straight between two of its four neighbours.
use Rattle.std.specs.Prelude.{◌≡◌, ◌⊎◌, ◌++◌, pos, ℕ, false, Some, List, [], ◌∷◌}
use Rattle.ground_model.specs.Corner.{corner_side}
use Rattle.predicates.specs.Far.{is_far}
use Rattle.tri_pages.specs.Slots.{State, triangle_at}
use Rattle.tri_pages.specs.declared.tri_slot.TriSlot.{TriSlot}
use Rattle.mesh.specs.Acrosses.{apex, IsAcross}
use Rattle.mesh.specs.EdgeUnsplits.{AreFour, IsEdgeUnsplit}
use Rattle.mesh.specs.Meshes.{IsLive}
use Rattle.mesh.specs.Net.{Side, after, corner_at, count_at}

-- apc, pbc, bpd and pad close up, and p lies straight between a and b; ap and pb have one count, pc and pd none
pub record IsStraight (t : TriSlot) (k : Side) (u : TriSlot) (j : Side) (w : TriSlot) (i : Side) (v : TriSlot) (l : Side) : Type 0 where
  pub closed : apex v l ≡ apex w i
  pub flat : corner_side (corner_at t k) (corner_at t (after k)) (corner_at w i) ≡ pos 0
  pub one_count : count_at t k ≡ count_at u j
  pub uncounted : (count_at t (after k) ≡ 0) × (count_at w (after i) ≡ 0)

-- the end p of the edge ap of slot s is a place, round which four triangles stand so
pub record IsStraightAt (slots : List State) (s : ℕ) (k : Side) : Type 0 where
  pub live : IsLive slots s
  pub place : (t : TriSlot) → triangle_at slots s ≡ Some t → is_far (corner_at t (after k)) ≡ false
  pub four : (t : TriSlot) (f : ℕ) (u : TriSlot) (j : Side) (n : ℕ) (w : TriSlot) (i : Side) (g : ℕ) (v : TriSlot) (l : Side) → triangle_at slots s ≡ Some t → AreFour slots t k f u j n w i g v l → IsStraight t k u j w i v l

-- p is a corner of pxy, and wxp stands across px: p is straight between w and y, and px has no count
pub record IsThrough (slots : List State) (s : ℕ) (k : Side) : Type 0 where
  pub tri : TriSlot
  pub slot : ℕ
  pub beyond : TriSlot
  pub back : Side
  pub here : triangle_at slots s ≡ Some tri
  pub across : IsAcross slots tri k slot beyond back
  pub flat : corner_side (apex tri k) (corner_at tri k) (apex beyond back) ≡ pos 0
  pub free : count_at tri k ≡ 0

-- the slot n has the edge k of slot s the other way, as its edge j
pub record IsBeyond (slots : List State) (s : ℕ) (k : Side) (n : ℕ) (j : Side) : Type 0 where
  pub tri : TriSlot
  pub beyond : TriSlot
  pub here : triangle_at slots s ≡ Some tri
  pub across : IsAcross slots tri k n beyond j

-- of the edges yp and xp the one on the line through p: yp where the line goes through w and y, else xp, in the slot across px
abbrev pub IsLineSide : List State → ℕ → Side → ℕ → Side → Type 0
IsLineSide slots s k n j = (IsThrough slots s k × ((n ≡ s) × (j ≡ after (after k)))) ⊎ ((IsThrough slots s k → ⊥) × IsBeyond slots s k n j)

-- four triangles round a corner become two, which the script names
pub record EdgeUnsplitStep (old new : List State) (s : ℕ) (k : Side) (before after_it : List ℕ) : Type 0 where
  pub slot : ℕ
  pub side : Side
  pub f : ℕ
  pub n : ℕ
  pub g : ℕ
  pub line : IsLineSide old s k slot side
  pub is : IsEdgeUnsplit old new slot side f n g
  pub named : after_it ≡ before ++ slot ∷ n ∷ []
