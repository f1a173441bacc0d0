-- Patches: some triangles of a net and those that take their place, their corners named by numbers, so that what meets what is computed.
use Rattle.std.specs.Prelude.{◌≡◌, ◌⊎◌, ℕ, Option, Some, None, List, [], ◌∷◌, if◌then◌else◌, ◌&&◌, ◌==◌}
use Rattle.std.specs.List.{slice_get}
use Rattle.ground_model.specs.declared.corner.Corner.{Corner}
use Rattle.tri_pages.specs.declared.tri_slot.TriSlot.{TriSlot}
use Rattle.mesh.specs.Corners.{Distinct}
use Rattle.mesh.specs.Net.{Side, Edge, edge, edges_of, after, outside, OpenIn}

-- a triangle in a slot; its corners from the side `base` on are those with the numbers a, b, c
pub record Piece : Type 0 where
  pub slot : ℕ
  pub tri : TriSlot
  pub base : Side
  pub a : ℕ
  pub b : ℕ
  pub c : ℕ

pub record Named : Type 0 where
  pub slot : ℕ
  pub side : Side
  pub tail : ℕ
  pub head : ℕ
  pub edge : Edge

abbrev pub edges_in : List Piece → List Named
edges_in [] = []
edges_in (p ∷ ps) =
    record { slot = p.slot; side = p.base; tail = p.a; head = p.b; edge = edge p.tri p.base }
    ∷ record { slot = p.slot; side = after p.base; tail = p.b; head = p.c; edge = edge p.tri (after p.base) }
    ∷ record { slot = p.slot; side = after (after p.base); tail = p.c; head = p.a; edge = edge p.tri (after (after p.base)) }
    ∷ edges_in ps

-- the first edge between corners with these numbers
abbrev pub find : ℕ → ℕ → List Named → Option Named
find a b [] = None
find a b (l ∷ ls) = if (l.tail == a) && (l.head == b) then Some l else find a b ls

abbrev pub AllIn : {X : Type 0} → (X → Type 0) → List X → Type 0
AllIn P [] = Unit {0}
AllIn P (x ∷ xs) = P x × AllIn P xs

abbrev pub In : {X : Type 0} → X → List X → Type 0
In x [] = ⊥
In x (y ∷ ys) = (x ≡ y) ⊎ In x ys

abbrev pub SlotIn : ℕ → List Piece → Type 0
SlotIn s [] = ⊥
SlotIn s (p ∷ ps) = (s ≡ p.slot) ⊎ SlotIn s ps

abbrev pub SlotApart : ℕ → List Piece → Type 0
SlotApart s [] = Unit {0}
SlotApart s (p ∷ ps) = (s ≡ p.slot → ⊥) × SlotApart s ps

-- the numbers are those of its corners
abbrev pub IsNamed : List Corner → Named → Type 0
IsNamed cs l = (slice_get cs l.tail ≡ Some l.edge.tail) × (slice_get cs l.head ≡ Some l.edge.head)

-- an old edge that takes part in the boundary, as o, and whose reverse is no old one
abbrev pub PartOuter : Named → Option Named → Option Named → Type 0
PartOuter l None r = ⊥
PartOuter l (Some o) r = (o.edge.count ≡ l.edge.count) × (l.edge.next ≡ o.edge.next) × (r ≡ None)

-- a new edge's reverse is a new edge, or it was an outer one
abbrev pub Part : List Named → List Named → Named → Option Named → Type 0
Part N O l (Some m) = (m.edge.count ≡ l.edge.count) × (l.edge.next ≡ m.slot)
Part N O l None = PartOuter l (find l.tail l.head O) (find l.head l.tail O)

abbrev pub AgainIn : List (Corner × Corner) → Named → Option Named → Type 0
AgainIn opens o None = ⊥
AgainIn opens o (Some n) = (n.edge.count ≡ o.edge.count) × ((o.slot ≡ n.slot) ⊎ OpenIn opens o.edge.head o.edge.tail)

-- an old edge's reverse is old, or it is again an edge
abbrev pub Again : List (Corner × Corner) → List Named → Named → Option Named → Type 0
Again opens N o (Some r) = Unit {0}
Again opens N o None = AgainIn opens o (find o.tail o.head N)

-- a new edge was an old one, or none had its corners
abbrev pub Fresh : (ℕ → Side → Option Edge) → Named → Option Named → Type 0
Fresh ed l (Some o) = Unit {0}
Fresh ed l None = (s : ℕ) (k : Side) (e : Edge) → ed s k ≡ Some e → e.tail ≡ l.edge.tail → e.head ≡ l.edge.head → ⊥

abbrev pub Stands : (ℕ → Option TriSlot) → Piece → Type 0
Stands at p = at p.slot ≡ Some p.tri

-- the olds are exchanged for the news; the edges `opens` of neighbours still lead to where the olds were
pub record IsPatch (cs : List Corner) (opens : List (Corner × Corner)) (at new : ℕ → Option TriSlot) (olds news : List Piece) : Type 0 where
  pub distinct : Distinct cs
  pub olds_named : AllIn (IsNamed cs) (edges_in olds)
  pub news_named : AllIn (IsNamed cs) (edges_in news)
  pub once : AllIn (λ l. find l.tail l.head (edges_in news) ≡ Some l) (edges_in news)
  pub parts : AllIn (λ l. Part (edges_in news) (edges_in olds) l (find l.head l.tail (edges_in news))) (edges_in news)
  pub again : AllIn (λ o. Again opens (edges_in news) o (find o.head o.tail (edges_in olds))) (edges_in olds)
  pub fresh : AllIn (λ l. Fresh (edges_of at) l (find l.tail l.head (edges_in olds))) (edges_in news)
  pub olds_stand : AllIn (Stands at) olds
  pub olds_live : AllIn (λ p. p.slot ≡ outside → ⊥) olds
  pub news_stand : AllIn (Stands new) news
  pub came : AllIn (λ p. SlotIn p.slot olds ⊎ (at p.slot ≡ None)) news
  pub gone : AllIn (λ p. SlotIn p.slot news ⊎ (new p.slot ≡ None)) olds
  pub rest : (s : ℕ) → SlotApart s olds → SlotApart s news → new s ≡ at s
