-- Directed edges of a mesh, from one point to another.
use Rattle.std.specs.Prelude.{◌≡◌, ℕ, Some, List}
use Rattle.ground_model.specs.declared.corner.Corner.TheVariants.{At}
use Rattle.ground_model.specs.Place.{Coords}
use Rattle.tri_pages.specs.Slots.{State, triangle_at}
use Rattle.tri_pages.specs.declared.tri_slot.TriSlot.{TriSlot}
use Rattle.mesh.specs.Net.{after, corner_at, side}
use Rattle.mesh.specs.Sheets.{HasSide}
use Rattle.locate.specs.Facets.{IsCornerOf}

-- the edge k of the live slot s goes from p to q
pub record IsFromTo (slots : List State) (s k : ℕ) (p q : Coords) : Type 0 where
  pub from : IsCornerOf slots s k p
  pub to : (t : TriSlot) → triangle_at slots s ≡ Some t → corner_at t (after (side k)) ≡ At q

-- no edge goes from p to q
abbrev pub HasNoSide : List State → Coords → Coords → Type 0
HasNoSide slots p q = HasSide slots (At p) (At q) → ⊥
