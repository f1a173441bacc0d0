-- The edges and the pieces that cross a straight way from p to q.
use Rattle.std.specs.Prelude.{◌≡◌, ◌<◌, ◌⊎◌, ◌<ℤ◌, ℕ, pos, Option, Some, None, List}
use Rattle.ground_model.specs.declared.corner.Corner.{Corner}
use Rattle.ground_model.specs.declared.corner.Corner.TheVariants.{At}
use Rattle.ground_model.specs.Corner.{corner_at as place_of}
use Rattle.ground_model.specs.Place.{Coords}
use Rattle.ground_model.specs.Side.{side}
use Rattle.predicates.specs.Net.{Net}
use Rattle.tri_pages.specs.Slots.{State, triangle_at}
use Rattle.tri_pages.specs.declared.tri_slot.TriSlot.{TriSlot}
use Rattle.mesh.specs.Net.{after, corner_at, count_at, side as side_of}
use Rattle.mesh.specs.Sheets.{HasSide, net_in}
use Rattle.locate.specs.Facets.{IsCornerOf}
use Rattle.line_edit.specs.Edges.{IsFromTo}
use Rattle.line_edit.specs.Ways.{ComesBefore}
use Rattle.line_edit.specs.declared.ahead.Ahead.{Ahead}
use Rattle.line_edit.specs.declared.ahead.Ahead.TheVariants.{Reaches, Crosses}
use Rattle.line_edit.specs.declared.half_edge.HalfEdge.{HalfEdge}

-- an edge goes from c, on the right of the way, to d, on its left, and v lies before it
pub record IsCrossing (slots : List State) (p q v c d : Coords) : Type 0 where
  pub edge : HasSide slots (At c) (At d)
  pub right : side p q c <ℤ pos 0
  pub left : pos 0 <ℤ side p q d
  pub behind : pos 0 <ℤ side c d v

-- the edge from x to y is that from c to d, or crosses the way before it
abbrev pub IsNoLater : Coords → Coords → Corner → Corner → Coords → Coords → Type 0
IsNoLater p q x y c d = ((x ≡ At c) × (y ≡ At d)) ⊎ ComesBefore p q (place_of x) (place_of y) c d

-- the edge k of the live slot s crosses the way before the edge from c to d
abbrev pub IsBefore : List State → Coords → Coords → ℕ → ℕ → Coords → Coords → Type 0
IsBefore slots p q s k c d = (t : TriSlot) → triangle_at slots s ≡ Some t → ComesBefore p q (place_of (corner_at t (side_of k))) (place_of (corner_at t (after (side_of k)))) c d

-- where the way goes on it has not passed the edge from c to d
abbrev pub IsNotPassed : List State → Coords → Coords → Ahead → Coords → Coords → Type 0
IsNotPassed slots p q (Reaches at) c d = (x : Coords) → IsCornerOf slots at.slot at.edge x → pos 0 <ℤ side c d x
IsNotPassed slots p q (Crosses at) c d = (t : TriSlot) → triangle_at slots at.slot ≡ Some t → IsNoLater p q (corner_at t (side_of at.edge)) (corner_at t (after (side_of at.edge))) c d

-- a piece goes from c, on the right of the way, to d, on its left, and v lies before it
pub record IsPieceOver (net : Net) (p q v c d : Coords) : Type 0 where
  pub counted : 0 < net.count c d
  pub right : side p q c <ℤ pos 0
  pub left : pos 0 <ℤ side p q d
  pub behind : pos 0 <ℤ side c d v

-- the half-edge is the first piece after v that crosses the way: it goes from the right of the way to its left
pub record IsFirstOver (slots : List State) (p q v : Coords) (at : HalfEdge) : Type 0 where
  pub c : Coords
  pub d : Coords
  pub is : IsFromTo slots at.slot at.edge c d
  pub over : IsPieceOver (net_in slots) p q v c d
  pub beyond : side c d q <ℤ pos 0
  pub first : (c' d' : Coords) → IsPieceOver (net_in slots) p q v c' d' → ((c ≡ c') × (d ≡ d')) ⊎ ComesBefore p q c d c' d'

-- from v to x the way crosses no piece, or this one first
abbrev pub IsMetFrom : List State → Coords → Coords → Coords → Coords → Option HalfEdge → Type 0
IsMetFrom slots p q v x None = (c d : Coords) → IsPieceOver (net_in slots) p q v c d → pos 0 <ℤ side c d x
IsMetFrom slots p q v x (Some at) = IsFirstOver slots p q v at

-- the edge k of the live slot s is no piece, or it is the one that is noted
abbrev pub IsNoted : List State → ℕ → ℕ → Option HalfEdge → Type 0
IsNoted slots s k None = (t : TriSlot) → triangle_at slots s ≡ Some t → count_at t (side_of k) ≡ 0
IsNoted slots s k (Some at) = (at.slot ≡ s) × (at.edge ≡ k) × ((t : TriSlot) → triangle_at slots s ≡ Some t → 0 < count_at t (side_of k))

-- the first piece that the way from p to q crosses, if it crosses one
abbrev pub IsFirstMet : List State → Coords → Coords → Option HalfEdge → Type 0
IsFirstMet slots p q None = (c d : Coords) → IsPieceOver (net_in slots) p q p c d → side c d q <ℤ pos 0 → ⊥
IsFirstMet slots p q (Some at) = IsFirstOver slots p q p at
