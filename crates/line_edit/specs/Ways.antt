-- A straight way from one point to another: the points on it, and the edges that cross it.
use Rattle.std.specs.Prelude.{◌≡◌, ◌<◌, ◌<ℤ◌, ◌≤ℤ◌, ◌-ℤ◌, ◌*ℤ◌, ℤ, ℕ, pos, true, Some, List, [], ◌∷◌}
use Rattle.ground_model.specs.declared.corner.Corner.TheVariants.{At}
use Rattle.ground_model.specs.Corner.{corner_at as place_of, corner_side}
use Rattle.ground_model.specs.Line.{is_point}
use Rattle.ground_model.specs.Place.{Coords}
use Rattle.ground_model.specs.Side.{side}
use Rattle.predicates.specs.Net.{Net}
use Rattle.crossing_law.specs.Runs.{along}
use Rattle.tri_pages.specs.Slots.{State, triangle_at}
use Rattle.tri_pages.specs.declared.tri_slot.TriSlot.{TriSlot}
use Rattle.mesh.specs.Acrosses.{apex}
use Rattle.mesh.specs.Meshes.{IsLive}
use Rattle.mesh.specs.Net.{after, corner_at, side as side_of}
use Rattle.mesh.specs.Sheets.{net_in}
use Rattle.locate.specs.Facets.{IsCornerOf}
use Rattle.line_edit.specs.declared.ahead.Ahead.{Ahead}
use Rattle.line_edit.specs.declared.ahead.Ahead.TheVariants.{Reaches, Crosses}

-- x lies on the line from p to q, farther along it than v
pub record IsPast (p q v x : Coords) : Type 0 where
  pub line : side p q x ≡ pos 0
  pub farther : along p q v <ℤ along p q x

-- x is the next point after v on the way from p to q: none lies between
pub record IsNextOn (net : Net) (p q v x : Coords) : Type 0 where
  pub point : is_point net.points x ≡ true
  pub past : IsPast p q v x
  pub first : (y : Coords) → is_point net.points y ≡ true → IsPast p q v y → along p q x ≤ℤ along p q y

-- from v on, these are the points on the way, one after the other, and the last is q
abbrev pub IsWay : Net → Coords → Coords → Coords → List Coords → Type 0
IsWay net p q v [] = v ≡ q
IsWay net p q v (x ∷ xs) = IsNextOn net p q v x × IsWay net p q x xs

-- the edge k of the live slot s crosses the way from its right to its left, after v and before each further point of the way
pub record IsOver (slots : List State) (p q v : Coords) (s k : ℕ) : Type 0 where
  pub live : IsLive slots s
  pub edge : k < 3
  pub on : side p q v ≡ pos 0
  pub right : (t : TriSlot) → triangle_at slots s ≡ Some t → corner_side (At p) (At q) (corner_at t (side_of k)) <ℤ pos 0
  pub left : (t : TriSlot) → triangle_at slots s ≡ Some t → pos 0 <ℤ corner_side (At p) (At q) (corner_at t (after (side_of k)))
  pub behind : (t : TriSlot) → triangle_at slots s ≡ Some t → pos 0 <ℤ corner_side (corner_at t (side_of k)) (corner_at t (after (side_of k))) (At v)
  pub beyond : (t : TriSlot) (x : Coords) → triangle_at slots s ≡ Some t → is_point (net_in slots).points x ≡ true → IsPast p q v x → corner_side (corner_at t (side_of k)) (corner_at t (after (side_of k))) (At x) <ℤ pos 0

-- where the way goes on after v: it reaches the next point, or crosses an edge
abbrev pub IsAhead : List State → Coords → Coords → Coords → Ahead → Type 0
IsAhead slots p q v (Reaches at) = (x : Coords) × IsCornerOf slots at.slot at.edge x × IsNextOn (net_in slots) p q v x
IsAhead slots p q v (Crosses at) = IsOver slots p q v at.slot at.edge

-- the triangle vab of the slot, from its corner v, has q in its angle: on its first leg or to the left of it, and to the right of the other
pub record IsToward (slots : List State) (s k : ℕ) (v q : Coords) : Type 0 where
  pub tri : TriSlot
  pub there : triangle_at slots s ≡ Some tri
  pub first_leg : pos 0 ≤ℤ corner_side (At v) (corner_at tri (after (side_of k))) (At q)
  pub other_leg : corner_side (At v) (apex tri (side_of k)) (At q) <ℤ pos 0

-- how far apart the right end r and the left end l of an edge are, across the way
abbrev pub width : Coords → Coords → Coords → Coords → ℤ
width p q r l = side p q l -ℤ side p q r

-- how far along the way the edge crosses it, as many times as it is wide
abbrev pub crossing : Coords → Coords → Coords → Coords → ℤ
crossing p q r l = side p q l *ℤ along p q r -ℤ side p q r *ℤ along p q l

-- the edge from r to l crosses the way before that from s to k does
abbrev pub ComesBefore : Coords → Coords → Coords → Coords → Coords → Coords → Type 0
ComesBefore p q r l s k = (crossing p q r l *ℤ width p q s k) <ℤ (crossing p q s k *ℤ width p q r l)

-- an edge that is crossed next is crossed after the edge k of slot s
abbrev pub IsLater : List State → Coords → Coords → ℕ → ℕ → Ahead → Type 0
IsLater slots p q s k (Reaches at) = Unit {0}
IsLater slots p q s k (Crosses at) = (t u : TriSlot) → triangle_at slots s ≡ Some t → triangle_at slots at.slot ≡ Some u
    → ComesBefore p q (place_of (corner_at t (side_of k))) (place_of (corner_at t (after (side_of k)))) (place_of (corner_at u (side_of at.edge))) (place_of (corner_at u (after (side_of at.edge))))
