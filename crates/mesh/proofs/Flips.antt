-- A flip keeps a mesh.
use Rattle.std.proofs.Common.{◌≡◌, ℕ, Some, List, [], ◌∷◌, refl, sym, ap, ◌∙◌, inl, inr}
use Rattle.std.specs.Option.{option_map}
use Rattle.ground_model.specs.declared.corner.Corner.{Corner}
use Rattle.tri_pages.specs.declared.tri_slot.TriSlot.{TriSlot}
use Rattle.tri_pages.specs.Slots.{State, triangle_at}
use Rattle.mesh.specs.Acrosses.{apex, IsAcross, HasNoEdge}
use Rattle.mesh.specs.Corners.{Distinct}
use Rattle.mesh.specs.Faces.{face, face_at, KeepsFaces}
use Rattle.mesh.specs.Flips.{flip_one, flip_two, IsFlipped}
use Rattle.mesh.specs.Meshes.{IsMesh}
use Rattle.mesh.specs.Net.{Side, first, second, after, edge, edge_of, corner_at, next_at, edges_of, slots_of, outside, IsNetBut, OpenIn}
use Rattle.mesh.specs.Redirects.{IsRedirected}
use Rattle.mesh.proofs.Acrosses.{four_distinct, no_edge_back}
use Rattle.mesh.proofs.Corners.{thrice}
use Rattle.mesh.proofs.Filled.{filled_two, kept_filled, mesh_of}
use Rattle.mesh.proofs.Patched.{patched}
use Rattle.mesh.proofs.Redirected.{redirected_net, held}
use Rattle.mesh.proofs.Shape.{Piece, IsPatch}
use Rattle.mesh.proofs.Slots.{slot_in}
use Rattle.mesh.proofs.WrittenSlots.{WroteTwo}

-- the pages `old`, with two slots written (p1) and two neighbours turned (p2, new)
pub record FlipRun (old p1 p2 new : List State) (s n : ℕ) (k j : Side) (t u : TriSlot) : Type 0 where
  pub mesh : IsMesh old
  pub here : triangle_at old s ≡ Some t
  pub real : s ≡ outside → ⊥
  pub inner : n ≡ outside → ⊥
  pub across : IsAcross old t k n u j
  pub two : apex t k ≡ apex u j → ⊥
  pub unjoined : HasNoEdge old (apex t k) (apex u j)
  pub wrote : WroteTwo old p1 s n (flip_one t k u j n) (flip_two t k u j s)
  pub turn1 : IsRedirected (next_at u (after j)) s (apex u j) (corner_at t k) (edges_of (slots_of p1)) (edges_of (slots_of p2))
  pub kept1 : KeepsFaces p1 p2
  pub turn2 : IsRedirected (next_at t (after k)) n (apex t k) (corner_at t (after k)) (edges_of (slots_of p2)) (edges_of (slots_of new))
  pub kept2 : KeepsFaces p2 new

module _ (old p1 p2 new : List State) (s n : ℕ) (k j : Side) (t u : TriSlot) (r : FlipRun old p1 p2 new s n k j t u) where
  here : slots_of old s ≡ Some t
  here = slot_in old s r.real ∙ r.here

  beyond : slots_of old n ≡ Some u
  beyond = slot_in old n r.inner ∙ r.across.there

  apart : Distinct (corner_at t k ∷ corner_at t (after k) ∷ apex t k ∷ apex u j ∷ [])
  apart = four_distinct t u k j (r.mesh.distinct s t here) (r.mesh.distinct n u beyond) r.across.starts r.across.ends r.two

  abbrev olds : List Piece
  olds = record { slot = s; tri = t; base = k; a = 0; b = 1; c = 2 } ∷ record { slot = n; tri = u; base = j; a = 1; b = 0; c = 3 } ∷ []

  abbrev news : List Piece
  news = record { slot = s; tri = flip_one t k u j n; base = first; a = 0; b = 3; c = 2 } ∷ record { slot = n; tri = flip_two t k u j s; base = first; a = 3; b = 1; c = 2 } ∷ []

  -- the edges da and cb lead to where ad and bc were
  abbrev opens : List (Corner × Corner)
  opens = (apex u j, corner_at t k) ∷ (apex t k, corner_at t (after k)) ∷ []

  patch : IsPatch (corner_at t k ∷ corner_at t (after k) ∷ apex t k ∷ apex u j ∷ []) opens (slots_of old) (slots_of p1) olds news
  patch = record {
    distinct = apart;
    olds_named = ((refl, refl), ((refl, refl), ((refl, ap Some (sym (thrice t k))), ((ap Some (sym r.across.starts), ap Some (sym r.across.ends)), ((ap Some (sym r.across.ends), refl), ((refl, ap Some (sym (thrice u j ∙ r.across.starts))), tt))))));
    news_named = ((refl, refl), ((refl, refl), ((refl, refl), ((refl, refl), ((refl, refl), ((refl, refl), tt))))));
    once = (refl, (refl, (refl, (refl, (refl, (refl, tt))))));
    parts = ((refl, refl, refl), ((refl, refl), ((refl, refl, refl), ((refl, refl, refl), ((refl, refl, refl), ((refl, refl), tt))))));
    again = (tt, ((refl, inr (inr (inl (refl, refl)))), ((refl, inl refl), (tt, ((refl, inr (inl (refl, r.across.ends))), ((refl, inl refl), tt))))));
    fresh = (tt, ((λ i x e h a b. no_edge_back old (apex t k) (apex u j) r.mesh r.unjoined i x e h a b), (tt, (tt, (tt, ((λ i x e h a b. r.unjoined i x e h a b), tt))))));
    olds_stand = (here, (beyond, tt));
    olds_live = (r.real, (r.inner, tt));
    news_stand = (r.wrote.in_s, (r.wrote.in_n, tt));
    came = (inl (inl refl), (inl (inr (inl refl)), tt));
    gone = (inl (inl refl), (inl (inr (inl refl)), tt));
    rest = λ i a b. r.wrote.rest i a.0 a.1.0;
  }

  net : IsNetBut (OpenIn []) (edges_of (slots_of new))
  net =
      let a = corner_at t k in
      let b = corner_at t (after k) in
      let c = apex t k in
      let d = apex u j in
      let n1 = patched (a ∷ b ∷ c ∷ d ∷ []) opens (slots_of old) (slots_of p1) olds news r.mesh.net patch in
      let n2 = redirected_net ((c, b) ∷ []) (next_at u (after j)) s d a (edges_of (slots_of p1)) (edges_of (slots_of p2)) n1 r.turn1 record {
        side = first;
        edge = edge (flip_one t k u j n) first;
        there = ap (λ o. edge_of o first) r.wrote.in_s;
        tail_is = refl;
        head_is = refl;
        next_is = refl;
        live = r.real;
        shut = λ o. elim o as (λ _. ⊥) [ inl y ↦ apart.0.1.1.0 y.0 | inr z ↦ elim z as (λ _. ⊥) [ inl y ↦ apart.0.1.0 y.0 | inr y ↦ y ] ];
      } in
      redirected_net [] (next_at t (after k)) n c b (edges_of (slots_of p2)) (edges_of (slots_of new)) n2 r.turn2
      (held ((c, b) ∷ []) ((c, b) ∷ []) (next_at u (after j)) s (next_at t (after k)) n d a c b (edges_of (slots_of p1)) (edges_of (slots_of p2)) r.turn1 (λ y _. apart.1.0.1.0 y)
      (λ o. elim o as (λ _. ⊥) [ inl y ↦ apart.1.0.0 y.0 | inr y ↦ y ])
      record {
        side = second;
        edge = edge (flip_two t k u j s) second;
        there = ap (λ o. edge_of o second) r.wrote.in_n;
        tail_is = refl;
        head_is = refl;
        next_is = refl;
        live = r.inner;
        shut = λ o. elim o as (λ _. ⊥) [ inl y ↦ apart.1.0.0 y.0 | inr y ↦ y ];
      })

  pub flip_mesh : IsMesh new
  flip_mesh = mesh_of new net (kept_filled p2 new r.kept2 (kept_filled p1 p2 r.kept1
      (filled_two old p1 s n (flip_one t k u j n) (flip_two t k u j s) r.wrote r.mesh.distinct (λ i _ _ e. r.mesh.whole i e) r.mesh.few
      ((apart.0.1.1.0, (apart.0.1.0, tt)), (((λ e. apart.1.1.0.0 (sym e)), tt), (tt, tt)))
      (((λ e. apart.1.0.1.0 (sym e)), ((λ e. apart.1.1.0.0 (sym e)), tt)), ((apart.1.0.0, tt), (tt, tt))))))

  faces : (i : ℕ) → face_at (slots_of new) i ≡ face_at (slots_of p1) i
  faces i = r.kept2.faces i ∙ r.kept1.faces i

  pub flip_is : IsFlipped old new s k n
  flip_is = record {
    tri = t;
    beyond = u;
    back = j;
    here = r.here;
    across = r.across;
    in_s = faces s ∙ ap (option_map face) r.wrote.in_s;
    in_n = faces n ∙ ap (option_map face) r.wrote.in_n;
    rest = λ i a b. faces i ∙ ap (option_map face) (r.wrote.rest i a b);
  }
