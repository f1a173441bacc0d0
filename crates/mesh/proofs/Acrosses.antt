-- Across each edge of a mesh stands a triangle.
use Rattle.std.proofs.Common.{◌≡◌, ℕ, Some, List, [], ◌∷◌, refl, sym, ap, ◌∙◌, subst}
use Rattle.ground_model.specs.declared.corner.Corner.{Corner}
use Rattle.tri_pages.specs.declared.tri_slot.TriSlot.{TriSlot}
use Rattle.tri_pages.specs.Slots.{State, triangle_at}
use Rattle.mesh.specs.Acrosses.{apex, IsAcross, HasNoEdge}
use Rattle.mesh.specs.Corners.{Distinct}
use Rattle.mesh.specs.Meshes.{IsMesh, IsLive, corners_of}
use Rattle.mesh.specs.Net.{Side, after, edge, edge_of, edges_of, corner_at, next_at, outside, slots_of, IsMet, OpenIn}
use Rattle.mesh.proofs.Corners.{Owner, owner, distinct_from}
use Rattle.mesh.proofs.NamedEdges.{same_in}
use Rattle.mesh.proofs.Sides.{around, itself, one_on, two_on}
use Rattle.mesh.proofs.Slots.{slot_in, live_real, is_some}

-- a corner stands at one side of a triangle
pub same_side : (t : TriSlot) (j y : Side) → Distinct (corners_of t) → corner_at t y ≡ corner_at t j → y ≡ j
same_side t j y d e =
    let f = distinct_from t j d in
    elim (around j y) as (λ _. y ≡ j) [
      | itself h ↦ h
      | one_on h ↦ absurd (f.0.0 (sym e ∙ ap (corner_at t) h))
      | two_on h ↦ absurd (f.0.1.0 (sym e ∙ ap (corner_at t) h))
    ]

-- the triangle across the edge k of t
pub record Across (slots : List State) (t : TriSlot) (k : Side) : Type 0 where
  pub tri : TriSlot
  pub side : Side
  pub is : IsAcross slots t k (next_at t k) tri side

across_met : (slots : List State) (s : ℕ) (k : Side) (t : TriSlot) → (m : IsMet (OpenIn []) (edges_of (slots_of slots)) s (edge t k)) → (s ≡ outside → ⊥) → (next_at t k ≡ outside → ⊥) → Owner (slots_of slots m.slot) m.side m.edge → Across slots t k
across_met slots s k t m real inner o =
    let is : next_at t k ≡ m.slot = m.next_is real (λ b. b) in
    record {
      tri = o.tri;
      side = m.side;
      is = record {
        slot_is = refl;
        there = sym (slot_in slots (next_at t k) inner) ∙ ap (slots_of slots) is ∙ o.there;
        starts = ap (λ e. e.tail) o.edge_is ∙ m.back_tail;
        ends = ap (λ e. e.head) o.edge_is ∙ m.back_head;
        same_count = ap (λ e. e.count) o.edge_is ∙ m.same_count;
      };
    }

pub across : (slots : List State) (s : ℕ) (k : Side) (t : TriSlot) → IsMesh slots → triangle_at slots s ≡ Some t → (next_at t k ≡ outside → ⊥) → Across slots t k
across slots s k t mesh here inner =
    let real = live_real slots s mesh.few (is_some (triangle_at slots s) t here) in
    let m = mesh.net.met s k (edge t k) (ap (λ o. edge_of o k) (slot_in slots s real ∙ here)) in
    across_met slots s k t m real inner (owner (slots_of slots m.slot) m.side m.edge m.there)

pub across_live : (slots : List State) (s : ℕ) (k : Side) (t : TriSlot) → IsMesh slots → triangle_at slots s ≡ Some t → (next_at t k ≡ outside → ⊥) → IsLive slots (next_at t k)
across_live slots s k t mesh here inner = let a = across slots s k t mesh here inner in is_some (triangle_at slots (next_at t k)) a.tri a.is.there

-- and it is the one that was read, by its edge from the same corner
pub across_read : (slots : List State) (s : ℕ) (k j : Side) (t u : TriSlot) → IsMesh slots → triangle_at slots s ≡ Some t → (next_at t k ≡ outside → ⊥) → triangle_at slots (next_at t k) ≡ Some u
    → ((y : Side) → corner_at u y ≡ corner_at t (after k) → corner_at u j ≡ corner_at t (after k)) → IsAcross slots t k (next_at t k) u j
across_read slots s k j t u mesh here inner there starts =
    let a = across slots s k t mesh here inner in
    let same : a.tri ≡ u = same_in a.tri u (sym a.is.there ∙ there) in
    let b : corner_at u a.side ≡ corner_at t (after k) = ap (λ x. corner_at x a.side) (sym same) ∙ a.is.starts in
    let is : a.side ≡ j = same_side u j a.side (mesh.distinct (next_at t k) u (slot_in slots (next_at t k) inner ∙ there)) (b ∙ sym (starts a.side b)) in
    subst (λ x. x) (λ i. IsAcross slots t k (next_at t k) (same i) (is i)) a.is

-- the slots of the two are two
pub two_slots : (t u : TriSlot) (k j : Side) → Distinct (corners_of t) → t ≡ u → corner_at u j ≡ corner_at t (after k) → corner_at u (after j) ≡ corner_at t k → ⊥
two_slots t u k j d same starts ends =
    let f = distinct_from t k d in
    let b : corner_at t j ≡ corner_at t (after k) = ap (λ x. corner_at x j) same ∙ starts in
    let a : corner_at t (after j) ≡ corner_at t k = ap (λ x. corner_at x (after j)) same ∙ ends in
    elim (around k j) as (λ _. ⊥) [
      | itself y ↦ f.0.0 (sym (ap (corner_at t) y) ∙ b)
      | one_on y ↦ f.0.1.0 (sym a ∙ ap (λ x. corner_at t (after x)) y)
      | two_on y ↦ f.1.0.0 (sym b ∙ ap (corner_at t) y)
    ]

pub across_apart : (slots : List State) (s n : ℕ) (k j : Side) (t u : TriSlot) → IsMesh slots → triangle_at slots s ≡ Some t → (s ≡ outside → ⊥) → IsAcross slots t k n u j → s ≡ n → ⊥
across_apart slots s n k j t u mesh here real a e = two_slots t u k j (mesh.distinct s t (slot_in slots s real ∙ here)) (same_in t u (sym here ∙ ap (triangle_at slots) e ∙ a.there)) a.starts a.ends

-- the corners a, b, c of t and the apex d of u, where d isn't c
pub four_distinct : (t u : TriSlot) (k j : Side) → Distinct (corners_of t) → Distinct (corners_of u) → corner_at u j ≡ corner_at t (after k) → corner_at u (after j) ≡ corner_at t k → (apex t k ≡ apex u j → ⊥)
    → Distinct (corner_at t k ∷ corner_at t (after k) ∷ apex t k ∷ apex u j ∷ [])
four_distinct t u k j d e b a two =
    let f = distinct_from t k d in
    let g = distinct_from u j e in
    ((f.0.0, (f.0.1.0, ((λ x. g.1.0.0 (a ∙ x)), tt))), ((f.1.0.0, ((λ x. g.0.1.0 (b ∙ x)), tt)), ((two, tt), (tt, tt))))

-- where no edge goes from a to b, none goes back
pub no_edge_back : (slots : List State) (a b : Corner) → IsMesh slots → HasNoEdge slots a b → HasNoEdge slots b a
no_edge_back slots a b mesh unjoined = λ s k e there tail head.
    let m = mesh.net.met s k e there in
    unjoined m.slot m.side m.edge m.there (m.back_tail ∙ head) (m.back_head ∙ tail)

-- a triangle has no fourth corner
pub foreign : (t : TriSlot) (k y : Side) (c : Corner) → corner_at t y ≡ c → (corner_at t k ≡ c → ⊥) → (corner_at t (after k) ≡ c → ⊥) → (apex t k ≡ c → ⊥) → ⊥
foreign t k y c e a b d = elim (around k y) as (λ _. ⊥) [
  | itself h ↦ a (sym (ap (corner_at t) h) ∙ e)
  | one_on h ↦ b (sym (ap (corner_at t) h) ∙ e)
  | two_on h ↦ d (sym (ap (corner_at t) h) ∙ e)
]
