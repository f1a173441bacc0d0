-- Which slot has a facet.
use Rattle.std.specs.Prelude.{◌≡◌, ◌<◌, ◌≤ℤ◌, ◌<ℤ◌, pos, ℕ, Some, List}
use Rattle.ground_model.specs.declared.corner.Corner.TheVariants.{At}
use Rattle.ground_model.specs.declared.facet.Facet.{Facet}
use Rattle.ground_model.specs.Corner.{corner_side}
use Rattle.ground_model.specs.Place.{Coords}
use Rattle.tri_pages.specs.Slots.{State, triangle_at}
use Rattle.tri_pages.specs.declared.tri_slot.TriSlot.{TriSlot}
use Rattle.mesh.specs.Acrosses.{apex}
use Rattle.mesh.specs.Meshes.{IsLive}
use Rattle.mesh.specs.Net.{Side, after, corner_at, count_at, side}
use Rattle.locate.specs.Spots.{IsAtCorner}
use Rattle.locate.specs.declared.around.Round.{Round}
use Rattle.locate.specs.declared.around.Round.TheVariants.{Found, Gone, Next}

-- from the corner k on, the triangle has the facet's corners and counts
pub record IsFacetAt (t : TriSlot) (k : Side) (f : Facet) : Type 0 where
  pub a : corner_at t k ≡ At f.a
  pub b : corner_at t (after k) ≡ At f.b
  pub c : apex t k ≡ At f.c
  pub ab : count_at t k ≡ f.ab
  pub bc : count_at t (after k) ≡ f.bc
  pub ca : count_at t (after (after k)) ≡ f.ca

-- from one of its corners on, the triangle has them
pub record IsFacet (t : TriSlot) (f : Facet) : Type 0 where
  pub side : Side
  pub is : IsFacetAt t side f

-- the triangle of the slot is the facet
pub record HasFacet (slots : List State) (s : ℕ) (f : Facet) : Type 0 where
  pub tri : TriSlot
  pub there : triangle_at slots s ≡ Some tri
  pub is : IsFacet tri f

-- no slot has the facet
abbrev pub HasNoFacet : List State → Facet → Type 0
HasNoFacet slots f = (s : ℕ) → HasFacet slots s f → ⊥

-- no slot before an index has it
abbrev pub HasNoFacetBefore : List State → ℕ → Facet → Type 0
HasNoFacetBefore slots n f = (s : ℕ) → s < n → HasFacet slots s f → ⊥

-- the place lies in the angle of the triangle at its corner k: on its first leg or to the left of it, and to the right of the other
pub record IsInAngle (t : TriSlot) (k : Side) (p : Coords) : Type 0 where
  pub first_leg : pos 0 ≤ℤ corner_side (corner_at t k) (corner_at t (after k)) (At p)
  pub other_leg : corner_side (corner_at t k) (apex t k) (At p) <ℤ pos 0

-- the corner k of the live slot s is the place
pub record IsCornerOf (slots : List State) (s : ℕ) (k : ℕ) (p : Coords) : Type 0 where
  pub live : IsLive slots s
  pub corner : k < 3
  pub at : IsAtCorner slots s (side k) p

-- what one triangle at the facet's first corner tells of the facet
abbrev pub IsRound : List State → Facet → Round → Type 0
IsRound slots f (Found s) = HasFacet slots s f
IsRound slots f Gone = HasNoFacet slots f
IsRound slots f (Next s k) = IsCornerOf slots s k f.a
