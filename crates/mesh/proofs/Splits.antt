-- A split keeps a mesh.
use Rattle.std.proofs.Common.{◌≡◌, ℕ, Option, Some, None, List, [], ◌∷◌, refl, sym, ap, ◌∙◌, inl, inr}
use Rattle.std.specs.Option.{option_map}
use Rattle.ground_model.specs.declared.corner.Corner.{Corner}
use Rattle.tri_pages.specs.declared.tri_slot.TriSlot.{TriSlot}
use Rattle.tri_pages.specs.Slots.{State, state_at, blank}
use Rattle.mesh.specs.Corners.{Distinct}
use Rattle.mesh.specs.Faces.{face, face_at, KeepsFaces}
use Rattle.mesh.specs.Meshes.{IsMesh, HasNoCorner}
use Rattle.mesh.specs.Net.{Side, first, second, third, Edge, edge, edge_of, corner_at, next_at, edges_of, outside, slots_of, IsNetBut, OpenIn}
use Rattle.mesh.specs.Redirects.{IsRedirected}
use Rattle.mesh.specs.Splits.{split_part, IsSplit}
use Rattle.mesh.specs.Takes.{IsTakingTwo}
use Rattle.mesh.proofs.Corners.{no_tail, no_head}
use Rattle.mesh.proofs.Filled.{filled_three, kept_filled, mesh_of}
use Rattle.mesh.proofs.Patched.{patched}
use Rattle.mesh.proofs.Redirected.{redirected_net, held}
use Rattle.mesh.proofs.Shape.{Piece, IsPatch}
use Rattle.mesh.proofs.Slots.{slot_in}
use Rattle.mesh.proofs.Takes.{same_slots}
use Rattle.mesh.proofs.WrittenSlots.{WroteThree}

-- the triangle t in slot s and the corner p, which none has
record IsSplittable (at : ℕ → Option TriSlot) (s : ℕ) (t : TriSlot) (p : Corner) : Type 0 where
  here : at s ≡ Some t
  live : s ≡ outside → ⊥
  distinct : Distinct (corner_at t first ∷ corner_at t second ∷ corner_at t third ∷ p ∷ [])
  no_tail : (i : ℕ) (x : Side) (e : Edge) → edges_of at i x ≡ Some e → e.tail ≡ p → ⊥
  no_head : (i : ℕ) (x : Side) (e : Edge) → edges_of at i x ≡ Some e → e.head ≡ p → ⊥

abbrev olds : ℕ → TriSlot → List Piece
olds s t = record { slot = s; tri = t; base = first; a = 0; b = 1; c = 2 } ∷ []

abbrev news : ℕ → ℕ → ℕ → TriSlot → Corner → List Piece
news s f g t p =
    record { slot = s; tri = split_part t first p f g; base = first; a = 0; b = 1; c = 3 }
    ∷ record { slot = f; tri = split_part t second p g s; base = first; a = 1; b = 2; c = 3 }
    ∷ record { slot = g; tri = split_part t third p s f; base = first; a = 2; b = 0; c = 3 }
    ∷ []

abbrev opens : TriSlot → List (Corner × Corner)
opens t = (corner_at t third, corner_at t second) ∷ (corner_at t first, corner_at t third) ∷ []

split_patch : (at new : ℕ → Option TriSlot) (s f g : ℕ) (t : TriSlot) (p : Corner) → IsSplittable at s t p
    → at f ≡ None → at g ≡ None → new s ≡ Some (split_part t first p f g) → new f ≡ Some (split_part t second p g s) → new g ≡ Some (split_part t third p s f)
    → ((i : ℕ) → (i ≡ s → ⊥) → (i ≡ f → ⊥) → (i ≡ g → ⊥) → new i ≡ at i)
    → IsPatch (corner_at t first ∷ corner_at t second ∷ corner_at t third ∷ p ∷ []) (opens t) at new (olds s t) (news s f g t p)
split_patch at new s f g t p q no_f no_g in_s in_f in_g rest = record {
  distinct = q.distinct;
  olds_named = ((refl, refl), ((refl, refl), ((refl, refl), tt)));
  news_named = ((refl, refl), ((refl, refl), ((refl, refl), ((refl, refl), ((refl, refl), ((refl, refl), ((refl, refl), ((refl, refl), ((refl, refl), tt)))))))));
  once = (refl, (refl, (refl, (refl, (refl, (refl, (refl, (refl, (refl, tt)))))))));
  parts = ((refl, refl, refl), ((refl, refl), ((refl, refl), ((refl, refl, refl), ((refl, refl), ((refl, refl), ((refl, refl, refl), ((refl, refl), ((refl, refl), tt)))))))));
  again = ((refl, inl refl), ((refl, inr (inl (refl, refl))), ((refl, inr (inr (inl (refl, refl)))), tt)));
  fresh = (tt, ((λ i k e h _ d. q.no_head i k e h d), ((λ i k e h d _. q.no_tail i k e h d), (tt, ((λ i k e h _ d. q.no_head i k e h d), ((λ i k e h d _. q.no_tail i k e h d), (tt, ((λ i k e h _ d. q.no_head i k e h d), ((λ i k e h d _. q.no_tail i k e h d), tt)))))))));
  olds_stand = (q.here, tt);
  olds_live = (q.live, tt);
  news_stand = (in_s, (in_f, (in_g, tt)));
  came = (inl (inl refl), (inr no_f, (inr no_g, tt)));
  gone = (inl (inl refl), tt);
  rest = λ i a b. rest i a.0 b.1.0 b.1.1.0;
}

-- the patch, and both neighbours turned
split_net : (at a1 a2 a3 : ℕ → Option TriSlot) (s f g : ℕ) (t : TriSlot) (p : Corner) → IsNetBut (OpenIn []) (edges_of at) → IsSplittable at s t p
    → at f ≡ None → at g ≡ None → (f ≡ outside → ⊥) → (g ≡ outside → ⊥) → a1 s ≡ Some (split_part t first p f g) → a1 f ≡ Some (split_part t second p g s) → a1 g ≡ Some (split_part t third p s f)
    → ((i : ℕ) → (i ≡ s → ⊥) → (i ≡ f → ⊥) → (i ≡ g → ⊥) → a1 i ≡ at i)
    → IsRedirected (next_at t second) f (corner_at t third) (corner_at t second) (edges_of a1) (edges_of a2)
    → IsRedirected (next_at t third) g (corner_at t first) (corner_at t third) (edges_of a2) (edges_of a3)
    → IsNetBut (OpenIn []) (edges_of a3)
split_net at a1 a2 a3 s f g t p net q no_f no_g f_live g_live in_s in_f in_g rest turn1 turn2 =
    let a = corner_at t first in
    let b = corner_at t second in
    let c = corner_at t third in
    let n1 = patched (a ∷ b ∷ c ∷ p ∷ []) (opens t) at a1 (olds s t) (news s f g t p) net (split_patch at a1 s f g t p q no_f no_g in_s in_f in_g rest) in
    let n2 = redirected_net ((a, c) ∷ []) (next_at t second) f c b (edges_of a1) (edges_of a2) n1 turn1 record {
      side = first;
      edge = edge (split_part t second p g s) first;
      there = ap (λ o. edge_of o first) in_f;
      tail_is = refl;
      head_is = refl;
      next_is = refl;
      live = f_live;
      shut = λ o. elim o as (λ _. ⊥) [ inl y ↦ q.distinct.1.0.0 y.0 | inr z ↦ elim z as (λ _. ⊥) [ inl y ↦ q.distinct.0.0 (sym y.0) | inr y ↦ y ] ];
    } in
    redirected_net [] (next_at t third) g a c (edges_of a2) (edges_of a3) n2 turn2
    (held ((a, c) ∷ []) ((a, c) ∷ []) (next_at t second) f (next_at t third) g c b a c (edges_of a1) (edges_of a2) turn1 (λ _ y. q.distinct.0.0 y)
    (λ o. elim o as (λ _. ⊥) [ inl y ↦ q.distinct.0.1.0 (sym y.0) | inr y ↦ y ])
    record {
      side = first;
      edge = edge (split_part t third p s f) first;
      there = ap (λ o. edge_of o first) in_g;
      tail_is = refl;
      head_is = refl;
      next_is = refl;
      live = g_live;
      shut = λ o. elim o as (λ _. ⊥) [ inl y ↦ q.distinct.0.1.0 (sym y.0) | inr y ↦ y ];
    })

-- from the pages `old`, with f and g taken (p1), three slots written (p2) and two neighbours turned (p3, new)
pub record SplitRun (old p1 p2 p3 new : List State) (s f g : ℕ) (t : TriSlot) (p : Corner) : Type 0 where
  pub mesh : IsMesh old
  pub no_corner : HasNoCorner old p
  pub taking : IsTakingTwo old p1 f g
  pub here : slots_of p1 s ≡ Some t
  pub live : s ≡ outside → ⊥
  pub wrote : WroteThree p1 p2 s f g (split_part t first p f g) (split_part t second p g s) (split_part t third p s f)
  pub turn1 : IsRedirected (next_at t second) f (corner_at t third) (corner_at t second) (edges_of (slots_of p2)) (edges_of (slots_of p3))
  pub kept1 : KeepsFaces p2 p3
  pub turn2 : IsRedirected (next_at t third) g (corner_at t first) (corner_at t third) (edges_of (slots_of p3)) (edges_of (slots_of new))
  pub kept2 : KeepsFaces p3 new

module _ (old p1 p2 p3 new : List State) (s f g : ℕ) (t : TriSlot) (p : Corner) (r : SplitRun old p1 p2 p3 new s f g t p) where
  was : slots_of old s ≡ Some t
  was = sym (λ i. same_slots old p1 f g r.taking i s) ∙ r.here

  apart : Distinct (corner_at t first ∷ corner_at t second ∷ corner_at t third ∷ p ∷ [])
  apart =
      let d = r.mesh.distinct s t was in
      ((d.0.0, (d.0.1.0, ((λ e. r.no_corner s t first was e), tt))), ((d.1.0.0, ((λ e. r.no_corner s t second was e), tt)), (((λ e. r.no_corner s t third was e), tt), (tt, tt))))

  empty : (i : ℕ) → (i ≡ outside → ⊥) → state_at p1 i ≡ blank → slots_of old i ≡ None
  empty i live e = sym (λ j. same_slots old p1 f g r.taking j i) ∙ slot_in p1 i live ∙ ap (λ o. elim o as (λ _. Option TriSlot) [ None ↦ None | Some x ↦ x ]) e

  net : IsNetBut (OpenIn []) (edges_of (slots_of new))
  net = split_net (slots_of old) (slots_of p2) (slots_of p3) (slots_of new) s f g t p r.mesh.net
      record { here = was; live = r.live; distinct = apart; no_tail = no_tail old p r.no_corner; no_head = no_head old p r.no_corner }
      (empty f r.taking.f_live r.taking.f_blank) (empty g r.taking.g_live r.taking.g_blank) r.taking.f_live r.taking.g_live r.wrote.in_s r.wrote.in_f r.wrote.in_g
      (λ i a b c. r.wrote.rest i a b c ∙ (λ j. same_slots old p1 f g r.taking j i)) r.turn1 r.turn2

  pub split_mesh : IsMesh new
  split_mesh = mesh_of new net (kept_filled p3 new r.kept2 (kept_filled p2 p3 r.kept1
      (filled_three p1 p2 s f g (split_part t first p f g) (split_part t second p g s) (split_part t third p s f) r.wrote
      (λ i u h. r.mesh.distinct i u (sym (λ j. same_slots old p1 f g r.taking j i) ∙ h))
      (λ i _ b c e. r.mesh.whole i (sym (r.taking.rest i b c) ∙ e)) r.taking.few
      ((apart.0.0, (apart.0.1.1.0, tt)), ((apart.1.0.1.0, tt), (tt, tt)))
      ((apart.1.0.0, (apart.1.0.1.0, tt)), ((apart.1.1.0.0, tt), (tt, tt)))
      (((λ e. apart.0.1.0 (sym e)), (apart.1.1.0.0, tt)), ((apart.0.1.1.0, tt), (tt, tt))))))

  faces : (i : ℕ) → face_at (slots_of new) i ≡ face_at (slots_of p2) i
  faces i = r.kept2.faces i ∙ r.kept1.faces i

  pub split_is : IsSplit old new s f g p
  split_is = record {
    tri = t;
    was = sym (slot_in old s r.live) ∙ was;
    f_free = r.taking.f_free;
    g_free = r.taking.g_free;
    in_s = faces s ∙ ap (option_map face) r.wrote.in_s;
    in_f = faces f ∙ ap (option_map face) r.wrote.in_f;
    in_g = faces g ∙ ap (option_map face) r.wrote.in_g;
    apart = r.taking.apart;
    rest = λ i a b c. faces i ∙ ap (option_map face) (r.wrote.rest i a b c ∙ (λ j. same_slots old p1 f g r.taking j i));
  }
