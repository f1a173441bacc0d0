-- The points and counts of two meshes, compared by the faces in their slots.
use Rattle.std.proofs.Common.{◌≡◌, ◌⊎◌, ◌<◌, ℕ, suc, zero, Bool, true, false, Some, List, get_or, refl, sym, ap, ◌∙◌, inl, inr, subst, arith}
use Rattle.std.specs.Option.{option_map}
use Rattle.ground_model.specs.declared.corner.Corner.{Corner}
use Rattle.ground_model.specs.declared.corner.Corner.TheVariants.{At, Far}
use Rattle.ground_model.specs.Line.{is_point}
use Rattle.ground_model.specs.Place.{Coords}
use Rattle.predicates.specs.Far.{is_far}
use Rattle.predicates.specs.Net.{count_of}
use Rattle.tri_pages.specs.declared.tri_slot.TriSlot.{TriSlot}
use Rattle.tri_pages.specs.Slots.{State, triangle_at}
use Rattle.mesh.specs.Faces.{Face, face, face_at}
use Rattle.mesh.specs.Meshes.{IsMesh}
use Rattle.mesh.specs.Net.{Side, after, place, corner_at, count_at, slots_of, outside}
use Rattle.mesh.specs.Sheets.{IsSheetMesh, HasCorner, net_in}
use Rattle.mesh.proofs.Filled.{faced}
use Rattle.mesh.proofs.Legality.{kept_face}
use Rattle.mesh.proofs.NamedEdges.{same_in}
use Rattle.mesh.proofs.NetOfMesh.{net_law}
use Rattle.mesh.proofs.SheetLaw.{standing}
use Rattle.mesh.proofs.Slots.{slot_in}
use Rattle.mesh.proofs.TurnedFaces.{as_tri}

-- a triangle has the edge, with this count
pub record HasEdge (slots : List State) (a b : Corner) (n : ℕ) : Type 0 where
  pub slot : ℕ
  pub tri : TriSlot
  pub side : Side
  pub there : triangle_at slots slot ≡ Some tri
  pub tail : corner_at tri side ≡ a
  pub head : corner_at tri (after side) ≡ b
  pub count : count_at tri side ≡ n

abbrev pub tail_of : Face → Side → Corner
tail_of f j = corner_at (as_tri f) j

abbrev pub count_in_face : Face → Side → ℕ
count_in_face f j = count_at (as_tri f) j

-- the face's edges with a count are edges of the slots, and its corners theirs, but for some
pub record IsFaceOf (slots : List State) (More : Corner → Type 0) (MoreEdge : Corner → Corner → Type 0) (f : Face) : Type 0 where
  pub edges : (j : Side) → 0 < count_in_face f j → HasEdge slots (tail_of f j) (tail_of f (after j)) (count_in_face f j) ⊎ MoreEdge (tail_of f j) (tail_of f (after j))
  pub corners : (j : Side) → HasCorner slots (tail_of f j) ⊎ More (tail_of f j)

abbrev pub NoCorner : Corner → Type 0
NoCorner c = ⊥

abbrev pub NoEdge : Corner → Corner → Type 0
NoEdge a b = ⊥

-- so is the face of each slot
abbrev pub AreFacesOf : (slots other : List State) (More : Corner → Type 0) (MoreEdge : Corner → Corner → Type 0) → Type 0
AreFacesOf slots other More MoreEdge = (i : ℕ) (t : TriSlot) → triangle_at slots i ≡ Some t → IsFaceOf other More MoreEdge (face t)

-- the face of a slot is the one that was made
pub made_face : (slots : List State) (i : ℕ) (t : TriSlot) (f : Face) → IsMesh slots → face_at (slots_of slots) i ≡ Some f → triangle_at slots i ≡ Some t → face t ≡ f
made_face slots i t f mesh is there = same_in (face t) f (sym (ap (option_map face) (standing slots mesh i t there)) ∙ is)

pub made_of : (slots other : List State) (More : Corner → Type 0) (MoreEdge : Corner → Corner → Type 0) (i s : ℕ) (t : TriSlot) (f : Face) → IsMesh slots → i ≡ s → face_at (slots_of slots) s ≡ Some f → triangle_at slots i ≡ Some t → IsFaceOf other More MoreEdge f → IsFaceOf other More MoreEdge (face t)
made_of slots other More MoreEdge i s t f mesh e is there h = subst (λ g. IsFaceOf other More MoreEdge g) (sym (made_face slots i t f mesh (ap (face_at (slots_of slots)) e ∙ is) there)) h

-- the edge of a triangle
abbrev pub edge_at : (slots : List State) (s : ℕ) (t : TriSlot) (k : Side) → triangle_at slots s ≡ Some t → HasEdge slots (corner_at t k) (corner_at t (after k)) (count_at t k)
edge_at slots s t k there = record { slot = s; tri = t; side = k; there = there; tail = refl; head = refl; count = refl }

abbrev pub edge_named : (slots : List State) (s : ℕ) (t : TriSlot) (k : Side) (a b : Corner) → triangle_at slots s ≡ Some t → corner_at t k ≡ a → corner_at t (after k) ≡ b → HasEdge slots a b (count_at t k)
edge_named slots s t k a b there e f = record { slot = s; tri = t; side = k; there = there; tail = e; head = f; count = refl }

abbrev pub corner_named : (slots : List State) (s : ℕ) (t : TriSlot) (k : Side) (a : Corner) → triangle_at slots s ≡ Some t → corner_at t k ≡ a → HasCorner slots a
corner_named slots s t k a there e = record { slot = s; tri = t; side = k; there = there; is = e }

-- and that of a face that was made
pub face_edge : (slots : List State) (s : ℕ) (f : Face) (k : Side) → (s ≡ outside → ⊥) → face_at (slots_of slots) s ≡ Some f → HasEdge slots (tail_of f k) (tail_of f (after k)) (count_in_face f k)
face_edge slots s f k ne is =
    let w = faced (slots_of slots s) f is in record {
      slot = s;
      tri = w.tri;
      side = k;
      there = sym (slot_in slots s ne) ∙ w.is;
      tail = ap (λ g. get_or g.corners (place k) (Far 0)) w.same;
      head = ap (λ g. get_or g.corners (place (after k)) (Far 0)) w.same;
      count = ap (λ g. get_or g.counts (place k) 0) w.same;
    }

pub face_corner : (slots : List State) (s : ℕ) (f : Face) (k : Side) → (s ≡ outside → ⊥) → face_at (slots_of slots) s ≡ Some f → HasCorner slots (tail_of f k)
face_corner slots s f k ne is = let e = face_edge slots s f k ne is in record { slot = e.slot; tri = e.tri; side = e.side; there = e.there; is = e.tail }

-- a slot that keeps its face
pub kept_of : (slots other : List State) (More : Corner → Type 0) (MoreEdge : Corner → Corner → Type 0) (i : ℕ) (t : TriSlot) → IsMesh slots → face_at (slots_of slots) i ≡ face_at (slots_of other) i → triangle_at slots i ≡ Some t → IsFaceOf other More MoreEdge (face t)
kept_of slots other More MoreEdge i t mesh same there =
    let w = kept_face other slots i t mesh same there in
    subst (λ g. IsFaceOf other More MoreEdge g) w.same (record { edges = λ j _. inl (edge_at other i w.tri j w.is); corners = λ j. inl (corner_named other i w.tri j (corner_at w.tri j) w.is refl) })

-- ---- counts and points of the nets
pub edge_count : (slots : List State) (m : IsSheetMesh slots) (p q : Coords) (n : ℕ) → HasEdge slots (At p) (At q) n → (net_in slots).count p q ≡ n
edge_count slots m p q n x = sym ((net_law slots m).counts p q (record { slot = x.slot; tri = x.tri; side = x.side; there = x.there; tail = x.tail; head = x.head })) ∙ x.count

-- also where a corner is far
pub count_of_edge : (slots : List State) (m : IsSheetMesh slots) (a b : Corner) (n : ℕ) → HasEdge slots a b n → count_of (net_in slots) a b ≡ n
count_of_edge slots m (At p) (At q) n x = edge_count slots m p q n x
count_of_edge slots m (At p) (Far j) n x = sym ((m.turned x.slot x.tri x.there).uncounted x.side (inr (ap is_far x.head))) ∙ x.count
count_of_edge slots m (Far j) b n x = sym ((m.turned x.slot x.tri x.there).uncounted x.side (inl (ap is_far x.tail))) ∙ x.count

-- a piece is an edge
pub piece_edge : (slots : List State) (m : IsSheetMesh slots) (p q : Coords) → 0 < (net_in slots).count p q → HasEdge slots (At p) (At q) ((net_in slots).count p q)
piece_edge slots m p q h =
    let x = (net_law slots m).pieces p q h in
    record { slot = x.slot; tri = x.tri; side = x.side; there = x.there; tail = x.tail; head = x.head; count = (net_law slots m).counts p q x }

zero_by : (n : ℕ) → (0 < n → ⊥) → n ≡ 0
zero_by zero h = refl
zero_by (suc n) h = absurd (h (omega arith))

-- where there is no edge there is no count
pub no_edge_count : (slots : List State) (m : IsSheetMesh slots) (a b : Corner) → ((n : ℕ) → 0 < n → HasEdge slots a b n → ⊥) → count_of (net_in slots) a b ≡ 0
no_edge_count slots m (At p) (At q) none = zero_by ((net_in slots).count p q) (λ h. none ((net_in slots).count p q) h (piece_edge slots m p q h))
no_edge_count slots m (At p) (Far j) none = refl
no_edge_count slots m (Far j) b none = refl

both : (x y : ℕ) → (0 < x → y ≡ x) → (0 < y → x ≡ y) → x ≡ y
both zero zero f g = refl
both (suc x) y f g = sym (f (omega arith))
both zero (suc y) f g = g (omega arith)

-- an edge is one of the other slots
pub edge_in : (slots other : List State) (More : Corner → Type 0) (MoreEdge : Corner → Corner → Type 0) (a b : Corner) (n : ℕ) → AreFacesOf slots other More MoreEdge → (MoreEdge a b → ⊥) → 0 < n → HasEdge slots a b n → HasEdge other a b n
edge_in slots other More MoreEdge a b n within none some x =
    let h = (within x.slot x.tri x.there).edges x.side (subst (λ k. 0 < k) (sym x.count) some) in
    elim h as (λ _. HasEdge other a b n) [
      | inl y ↦ record { slot = y.slot; tri = y.tri; side = y.side; there = y.there; tail = y.tail ∙ x.tail; head = y.head ∙ x.head; count = y.count ∙ x.count }
      | inr y ↦ absurd (none (subst (λ z. z) (λ i. MoreEdge (x.tail i) (x.head i)) y))
    ]

pub corner_in : (slots other : List State) (More : Corner → Type 0) (MoreEdge : Corner → Corner → Type 0) (c : Corner) → AreFacesOf slots other More MoreEdge → (More c → ⊥) → HasCorner slots c → HasCorner other c
corner_in slots other More MoreEdge c within none x = elim ((within x.slot x.tri x.there).corners x.side) as (λ _. HasCorner other c) [
  | inl y ↦ record { slot = y.slot; tri = y.tri; side = y.side; there = y.there; is = y.is ∙ x.is }
  | inr y ↦ absurd (none (subst More x.is y))
]

same_bool : (x y : Bool) → (x ≡ true → y ≡ true) → (y ≡ true → x ≡ true) → x ≡ y
same_bool true y f g = sym (f refl)
same_bool false true f g = g refl
same_bool false false f g = refl

pub false_by : (x : Bool) → (x ≡ true → ⊥) → x ≡ false
false_by true h = absurd (h refl)
false_by false h = refl

module _ (old new : List State) (m : IsSheetMesh old) (m' : IsSheetMesh new) (More More' : Corner → Type 0) (MoreEdge MoreEdge' : Corner → Corner → Type 0) (to_new : AreFacesOf old new More MoreEdge) (to_old : AreFacesOf new old More' MoreEdge') where
  -- between corners where neither has more, both have one count
  pub same_counts : (q r : Coords) → (MoreEdge (At q) (At r) → ⊥) → (MoreEdge' (At q) (At r) → ⊥) → (net_in new).count q r ≡ (net_in old).count q r
  same_counts q r none none' = both ((net_in new).count q r) ((net_in old).count q r)
      (λ h. edge_count old m q r ((net_in new).count q r) (edge_in new old More' MoreEdge' (At q) (At r) ((net_in new).count q r) to_old none' h (piece_edge new m' q r h)))
      (λ h. edge_count new m' q r ((net_in old).count q r) (edge_in old new More MoreEdge (At q) (At r) ((net_in old).count q r) to_new none h (piece_edge old m q r h)))

  -- and where neither has more corners, both have the point
  pub same_points : (q : Coords) → (More (At q) → ⊥) → (More' (At q) → ⊥) → is_point (net_in new).points q ≡ is_point (net_in old).points q
  same_points q none none' = same_bool (is_point (net_in new).points q) (is_point (net_in old).points q)
      (λ h. (net_law old m).corners q (corner_in new old More' MoreEdge' (At q) to_old none' ((net_law new m').points q h)))
      (λ h. (net_law new m').corners q (corner_in old new More MoreEdge (At q) to_new none ((net_law old m).points q h)))
