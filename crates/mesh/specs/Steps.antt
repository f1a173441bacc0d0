-- What the mesh steps do to a mesh and a script.
use Rattle.std.specs.Prelude.{◌≡◌, ◌+◌, ℕ, Some, List, [], ◌∷◌, ◌++◌}
use Rattle.ground_model.specs.declared.corner.Corner.{Corner}
use Rattle.tri_pages.specs.declared.tri_slot.TriSlot.{TriSlot}
use Rattle.tri_pages.specs.Slots.{State, triangle_at}
use Rattle.mesh.specs.Recounts.{IsRecounted}
use Rattle.mesh.specs.EdgeSplits.{IsEdgeSplit}
use Rattle.mesh.specs.Flips.{IsFlipped}
use Rattle.mesh.specs.Net.{Side, count_at}
use Rattle.mesh.specs.Splits.{IsSplit}
use Rattle.mesh.specs.Unsplits.{IsUnsplit}

-- a triangle is split, and the script names its parts
pub record SplitStep (old new : List State) (s : ℕ) (p : Corner) (before after_it : List ℕ) : Type 0 where
  pub f : ℕ
  pub g : ℕ
  pub is : IsSplit old new s f g p
  pub named : after_it ≡ before ++ s ∷ f ∷ g ∷ []

-- an edge is split, and the script names the four parts
pub record EdgeSplitStep (old new : List State) (s : ℕ) (k : Side) (p : Corner) (before after_it : List ℕ) : Type 0 where
  pub n : ℕ
  pub f : ℕ
  pub g : ℕ
  pub is : IsEdgeSplit old new s k p n f g
  pub named : after_it ≡ before ++ s ∷ n ∷ f ∷ g ∷ []

-- an edge is flipped, and the script names both triangles
pub record FlipStep (old new : List State) (s : ℕ) (k : Side) (before after_it : List ℕ) : Type 0 where
  pub n : ℕ
  pub is : IsFlipped old new s k n
  pub named : after_it ≡ before ++ s ∷ n ∷ []

-- the count of an edge is m, and the script names both triangles
pub record CountStep (old new : List State) (s : ℕ) (k : Side) (m : ℕ) (before after_it : List ℕ) : Type 0 where
  pub n : ℕ
  pub is : IsRecounted old new s k n m
  pub named : after_it ≡ before ++ s ∷ n ∷ []

-- three triangles become one, which the script names
pub record UnsplitStep (old new : List State) (s : ℕ) (k : Side) (before after_it : List ℕ) : Type 0 where
  pub f : ℕ
  pub g : ℕ
  pub is : IsUnsplit old new s k f g
  pub named : after_it ≡ before ++ s ∷ []

-- the count of an edge rises by one
pub record AddStep (old new : List State) (s : ℕ) (k : Side) (before after_it : List ℕ) : Type 0 where
  pub tri : TriSlot
  pub here : triangle_at old s ≡ Some tri
  pub is : CountStep old new s k (count_at tri k + 1) before after_it

-- the count of an edge falls by one
pub record TakeStep (old new : List State) (s : ℕ) (k : Side) (before after_it : List ℕ) : Type 0 where
  pub tri : TriSlot
  pub here : triangle_at old s ≡ Some tri
  pub count : ℕ
  pub one_less : count + 1 ≡ count_at tri k
  pub is : CountStep old new s k count before after_it
