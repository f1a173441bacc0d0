-- Lawson's flips, one after the other.
use Rattle.std.specs.Prelude.{◌≡◌, ◌<◌, ◌+◌, ◌-◌, ◌^◌, ℕ, true, List, [], ◌∷◌, ◌++◌, length, min, flat_map}
use Rattle.ground_model.specs.Corner.{is_corner_inside}
use Rattle.cdt_law.specs.Flips.{lifted_sum}
use Rattle.tri_pages.specs.Slots.{State}
use Rattle.mesh.specs.Acrosses.{apex}
use Rattle.mesh.specs.Flips.{IsFlipped}
use Rattle.mesh.specs.Meshes.{MeshView, raised}
use Rattle.mesh.specs.Net.{Side, after, corner_at, count_at}
use Rattle.mesh.specs.Sheets.{IsSheetMesh, net_in}

-- the volume below the lifted triangles of a mesh, a natural number
unfoldable pub volume_of : List State → ℕ
volume_of slots = lifted_sum (net_in slots)

-- a flip of the edge `side` of `slot`, with `beyond` across it
pub record Flip : Type 0 where
  pub slot : ℕ
  pub side : Side
  pub beyond : ℕ

-- the edge was no piece and not locally Delaunay; its flip makes a sheet with less volume below
pub record IsLawsonFlip (old new : List State) (f : Flip) : Type 0 where
  pub is : IsFlipped old new f.slot f.side f.beyond
  pub free : count_at is.tri f.side ≡ 0
  pub inside : is_corner_inside (corner_at is.tri f.side) (corner_at is.tri (after f.side)) (apex is.tri f.side) (apex is.beyond is.back) ≡ true
  pub sheet : IsSheetMesh new
  pub falls : volume_of new < volume_of old

-- the flips, one after the other, make the new mesh from the old one
abbrev pub AreFlips : List Flip → List State → List State → Type 0
AreFlips [] old new = old ≡ new
AreFlips (f ∷ fs) old new = (mid : List State) × IsLawsonFlip old mid f × AreFlips fs mid new

-- the slots of the flips
abbrev pub slots_named : List Flip → List ℕ
slots_named fs = flat_map (λ f. f.slot ∷ f.beyond ∷ []) fs

-- flips make the new mesh from the old one; each is counted, and the script names both of its slots
pub record FlipRun (old new : MeshView) (before after_it : List ℕ) : Type 0 where
  pub flips : List Flip
  pub are : AreFlips flips old.slots new.slots
  pub named : after_it ≡ before ++ slots_named flips
  pub counted : new.turns ≡ min (old.turns + length flips) (2 ^ 64 - 1)

-- none or one such flip
pub data FlipOrNone (old new : MeshView) (before after_it : List ℕ) : Type 0 where
  NoFlip : new.slots ≡ old.slots → new.turns ≡ old.turns → after_it ≡ before → FlipOrNone old new before after_it
  OneFlip : (f : Flip) → IsLawsonFlip old.slots new.slots f → new.turns ≡ raised old.turns → after_it ≡ before ++ f.slot ∷ f.beyond ∷ [] → FlipOrNone old new before after_it
