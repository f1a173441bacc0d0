-- A slot is written, with the slot beyond one edge turned.
use Rattle.std.proofs.Common.{◌≡◌, ◌⊎◌, ℕ, Option, Some, None, List, set, refl, sym, ap, ◌∙◌, subst, inl, inr}
use Rattle.std.specs.Option.{option_map}
use Rattle.std.proofs.lemmas.Bool.{cases_eq}
use Rattle.std.proofs.lemmas.List.{length-set}
use Rattle.ground_model.specs.declared.corner.Corner.{Corner}
use Rattle.tri_pages.specs.declared.tri_slot.TriSlot.{TriSlot}
use Rattle.tri_pages.specs.Slots.{State, triangle_at, holding}
use Rattle.mesh.specs.Faces.{face, face_at, KeepsFaces}
use Rattle.mesh.specs.Net.{Side, first, second, third, after, Edge, edge, edge_of, edges_of, corner_at, count_at, next_at, outside, slots_of}
use Rattle.mesh.specs.Redirects.{Chosen, IsTurned, Turned, IsRedirected, IsTurnedTri}
use Rattle.mesh.proofs.Slots.{holds_taken, slot_in, set_here, set_there, blank_set}

pub by_side : (P : Side → Type 0) → P first → P second → P third → (k : Side) → P k
by_side P a b c first = a
by_side P a b c second = b
by_side P a b c third = c

pub chosen_is : (a a' b b' p r : Corner) (q old old' n : ℕ) → a ≡ a' → b ≡ b' → old ≡ old' → Chosen a b p r q old n → Chosen a' b' p r q old' n
chosen_is a a' b b' p r q old old' n e f g (inl h) = inl (sym e ∙ h.0, sym f ∙ h.1, h.2)
chosen_is a a' b b' p r q old old' n e f g (inr h) = inr ((λ x y. h.0 (e ∙ x) (f ∙ y)), h.1 ∙ g)

pub unturned : (m q : ℕ) (p r : Corner) (s : ℕ) (o n : Option Edge) → (s ≡ m → (m ≡ outside → ⊥) → ⊥) → n ≡ o → Turned m q p r s o n
unturned m q p r s None n ne e = subst (λ x. Turned m q p r s None x) (sym e) tt
unturned m q p r s (Some f) n ne e = subst (λ x. Turned m q p r s (Some f) x) (sym e) record { same_tail = refl; same_head = refl; same_count = refl; beyond = inr ((λ x y _ _. ne x y), refl) }

pub turned_edge : (m q : ℕ) (p r : Corner) (s : ℕ) (k : Side) (t w : TriSlot) → IsTurnedTri p r q t w → IsTurned m q s p r (edge t k) (edge w k)
turned_edge m q p r s k t w h = record {
  same_tail = ap (λ cs. corner_at record { corners = cs; counts = t.counts; next = t.next; stamp = t.stamp } k) h.corners;
  same_head = ap (λ cs. corner_at record { corners = cs; counts = t.counts; next = t.next; stamp = t.stamp } (after k)) h.corners;
  same_count = ap (λ cs. count_at record { corners = t.corners; counts = cs; next = t.next; stamp = t.stamp } k) h.counts;
  beyond = elim (h.beyond k) as (λ _. ((corner_at t k ≡ p) × (corner_at t (after k) ≡ r) × (next_at w k ≡ q)) ⊎ ((s ≡ m → (m ≡ outside → ⊥) → corner_at t k ≡ p → corner_at t (after k) ≡ r → ⊥) × (next_at w k ≡ next_at t k))) [
    | inl b ↦ inl b
    | inr b ↦ inr ((λ _ _ x y. b.0 x y), b.1)
  ];
}

-- a slot is written, with the slot beyond one edge turned
pub redirected_by : (pages : List State) (m q : ℕ) (p r : Corner) (t w : TriSlot) → (m ≡ outside → ⊥) → triangle_at pages m ≡ Some t → IsTurnedTri p r q t w
    → IsRedirected m q p r (edges_of (slots_of pages)) (edges_of (slots_of (set pages m (holding w))))
redirected_by pages m q p r t w ne h turn = λ s k. elim (cases_eq s m) as (λ _. Turned m q p r s (edges_of (slots_of pages) s k) (edges_of (slots_of (set pages m (holding w))) s k)) [
  | inl e ↦
      let was : slots_of pages s ≡ Some t = ap (slots_of pages) e ∙ slot_in pages m ne ∙ h in
      let is : slots_of (set pages m (holding w)) s ≡ Some w = ap (slots_of (set pages m (holding w))) e ∙ set_here pages m w ne (holds_taken pages m t h) in
      subst (λ o. Turned m q p r s (edge_of o k) (edges_of (slots_of (set pages m (holding w))) s k)) (sym was)
      (subst (λ o. Turned m q p r s (Some (edge t k)) (edge_of o k)) (sym is) (turned_edge m q p r s k t w turn))
  | inr other ↦ unturned m q p r s (edges_of (slots_of pages) s k) (edges_of (slots_of (set pages m (holding w))) s k) (λ x _. other x) (ap (λ o. edge_of o k) (set_there pages m (holding w) s other))
]

faces_by : (pages : List State) (m q : ℕ) (p r : Corner) (t w : TriSlot) (s : ℕ) → (m ≡ outside → ⊥) → triangle_at pages m ≡ Some t → IsTurnedTri p r q t w
    → face_at (slots_of (set pages m (holding w))) s ≡ face_at (slots_of pages) s
faces_by pages m q p r t w s ne h turn = elim (cases_eq s m) as (λ _. option_map face (slots_of (set pages m (holding w)) s) ≡ option_map face (slots_of pages s)) [
  | inl e ↦
      let was : slots_of pages s ≡ Some t = ap (slots_of pages) e ∙ slot_in pages m ne ∙ h in
      let is : slots_of (set pages m (holding w)) s ≡ Some w = ap (slots_of (set pages m (holding w))) e ∙ set_here pages m w ne (holds_taken pages m t h) in
      ap (option_map face) is ∙ ap Some (λ i. record { corners = turn.corners i; counts = turn.counts i; stamp = turn.stamp i }) ∙ sym (ap (option_map face) was)
  | inr other ↦ ap (option_map face) (set_there pages m (holding w) s other)
]

pub kept_by : (pages : List State) (m q : ℕ) (p r : Corner) (t w : TriSlot) → (m ≡ outside → ⊥) → triangle_at pages m ≡ Some t → IsTurnedTri p r q t w → KeepsFaces pages (set pages m (holding w))
kept_by pages m q p r t w ne h turn = record {
  faces = λ s. faces_by pages m q p r t w s ne h turn;
  blanks = λ s e. (blank_set pages m w s (holds_taken pages m t h) e).was;
  len = length-set pages m (holding w);
}
