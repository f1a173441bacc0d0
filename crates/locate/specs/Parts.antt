-- Where a place lies by one triangle.
use Rattle.std.specs.Prelude.{◌≡◌, ◌<◌, ◌<ℤ◌, ℤ, pos}
use Rattle.ground_model.specs.declared.corner.Corner.TheVariants.{At}
use Rattle.ground_model.specs.Corner.{corner_side}
use Rattle.ground_model.specs.Place.{Coords}
use Rattle.predicates.specs.declared.sign.Sign.{Sign}
use Rattle.predicates.specs.declared.sign.Sign.TheVariants.{Negative, Zero, Positive}
use Rattle.tri_pages.specs.declared.tri_slot.TriSlot.{TriSlot}
use Rattle.mesh.specs.Insides.{IsInTriangle, IsOnEdge}
use Rattle.mesh.specs.Net.{Side, first, second, third, after, corner_at, side}
use Rattle.locate.specs.declared.part.Part.{Part}
use Rattle.locate.specs.declared.part.Part.TheVariants.{Inside, OnEdge, Corner, Beyond}
use Rattle.locate.specs.declared.part.Sides.{Sides}

-- the number has the sign
abbrev pub IsSigned : ℤ → Sign → Type 0
IsSigned s Negative = s <ℤ pos 0
IsSigned s Zero = s ≡ pos 0
IsSigned s Positive = pos 0 <ℤ s

-- the side of an edge
abbrev pub sign_at : Sides → Side → Sign
sign_at s first = s.ab
sign_at s second = s.bc
sign_at s third = s.ca

-- the edge has the place on its right
abbrev pub IsRightAt : Sides → Side → Type 0
IsRightAt s k = sign_at s k ≡ Negative

-- no edge has
abbrev pub HasNoRight : Sides → Type 0
HasNoRight s = (k : Side) → IsRightAt s k → ⊥

-- the place lies strictly to the right of the edge, so beyond it
abbrev pub IsBeyond : TriSlot → Side → Coords → Type 0
IsBeyond t k p = corner_side (corner_at t k) (corner_at t (after k)) (At p) <ℤ pos 0

-- where the place lies by the triangle
abbrev pub IsPart : TriSlot → Coords → Part → Type 0
IsPart t p Inside = IsInTriangle t p
IsPart t p (OnEdge k) = (k < 3) × IsOnEdge t (side k) p
IsPart t p (Corner k) = (k < 3) × (corner_at t (side k) ≡ At p)
IsPart t p (Beyond k) = (k < 3) × IsBeyond t (side k) p
