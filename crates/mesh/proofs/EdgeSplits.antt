-- A split of an edge keeps a mesh.
use Rattle.std.proofs.Common.{◌≡◌, ℕ, Some, None, List, [], ◌∷◌, refl, sym, ap, ◌∙◌, inl, inr}
use Rattle.std.specs.Option.{option_map}
use Rattle.ground_model.specs.declared.corner.Corner.{Corner}
use Rattle.tri_pages.specs.declared.tri_slot.TriSlot.{TriSlot}
use Rattle.tri_pages.specs.Slots.{State, state_at, triangle_at, blank, joined}
use Rattle.mesh.specs.Acrosses.{apex, IsAcross}
use Rattle.mesh.specs.Corners.{Distinct}
use Rattle.mesh.specs.EdgeSplits.{start_part, end_part, IsEdgeSplit}
use Rattle.mesh.specs.Faces.{face, face_at, KeepsFaces}
use Rattle.mesh.specs.Meshes.{IsMesh, HasNoCorner}
use Rattle.mesh.specs.Net.{Side, first, second, after, edge, edge_of, edges_of, corner_at, count_at, next_at, outside, slots_of, IsNetBut, OpenIn}
use Rattle.mesh.specs.Redirects.{IsRedirected}
use Rattle.mesh.specs.Takes.{IsTakingTwo}
use Rattle.mesh.proofs.Acrosses.{four_distinct}
use Rattle.mesh.proofs.Corners.{no_tail, no_head, thrice}
use Rattle.mesh.proofs.Filled.{filled_four, kept_filled, mesh_of}
use Rattle.mesh.proofs.Patched.{patched}
use Rattle.mesh.proofs.Redirected.{redirected_net, held}
use Rattle.mesh.proofs.Shape.{Piece, IsPatch}
use Rattle.mesh.proofs.Slots.{slot_in}
use Rattle.mesh.proofs.Takes.{same_slots}
use Rattle.mesh.proofs.WrittenSlots.{WroteFour}

-- the pages `old`, with f and g taken (p1), four slots written (p2) and two neighbours turned (p3, new)
pub record EdgeSplitRun (old p1 p2 p3 new : List State) (s n f g : ℕ) (k j : Side) (t u : TriSlot) (p : Corner) : Type 0 where
  pub mesh : IsMesh old
  pub no_corner : HasNoCorner old p
  pub here : triangle_at old s ≡ Some t
  pub real : s ≡ outside → ⊥
  pub inner : n ≡ outside → ⊥
  pub across : IsAcross old t k n u j
  pub two : apex t k ≡ apex u j → ⊥
  pub taking : IsTakingTwo old p1 f g
  pub wrote : WroteFour p1 p2 s n f g (start_part t k p g f) (start_part u j p f g) (end_part t k p n s) (end_part u j p s n)
  pub turn1 : IsRedirected (next_at t (after k)) f (apex t k) (corner_at t (after k)) (edges_of (slots_of p2)) (edges_of (slots_of p3))
  pub kept1 : KeepsFaces p2 p3
  pub turn2 : IsRedirected (next_at u (after j)) g (apex u j) (corner_at t k) (edges_of (slots_of p3)) (edges_of (slots_of new))
  pub kept2 : KeepsFaces p3 new

-- the parts of u in the words of t, where both share the edge
start_is : (t u : TriSlot) (k j : Side) (p : Corner) (y z : ℕ) → corner_at u j ≡ corner_at t (after k) → count_at u j ≡ count_at t k
    → start_part u j p y z ≡ record { corners = corner_at t (after k) ∷ p ∷ apex u j ∷ []; counts = count_at t k ∷ 0 ∷ count_at u (after (after j)) ∷ []; next = y ∷ z ∷ next_at u (after (after j)) ∷ []; stamp = 0 }
start_is t u k j p y z b c = λ i. record { corners = b i ∷ p ∷ apex u j ∷ []; counts = c i ∷ 0 ∷ count_at u (after (after j)) ∷ []; next = y ∷ z ∷ next_at u (after (after j)) ∷ []; stamp = 0 }

end_is : (t u : TriSlot) (k j : Side) (p : Corner) (y z : ℕ) → corner_at u (after j) ≡ corner_at t k → count_at u j ≡ count_at t k
    → end_part u j p y z ≡ record { corners = p ∷ corner_at t k ∷ apex u j ∷ []; counts = count_at t k ∷ count_at u (after j) ∷ 0 ∷ []; next = y ∷ next_at u (after j) ∷ z ∷ []; stamp = 0 }
end_is t u k j p y z a c = λ i. record { corners = p ∷ a i ∷ apex u j ∷ []; counts = c i ∷ count_at u (after j) ∷ 0 ∷ []; next = y ∷ next_at u (after j) ∷ z ∷ []; stamp = 0 }

module _ (old p1 p2 p3 new : List State) (s n f g : ℕ) (k j : Side) (t u : TriSlot) (p : Corner) (r : EdgeSplitRun old p1 p2 p3 new s n f g k j t u p) where
  same : (i : ℕ) → slots_of p1 i ≡ slots_of old i
  same i = λ x. same_slots old p1 f g r.taking x i

  here : slots_of old s ≡ Some t
  here = slot_in old s r.real ∙ r.here

  beyond : slots_of old n ≡ Some u
  beyond = slot_in old n r.inner ∙ r.across.there

  new_t : (y : Side) → corner_at t y ≡ p → ⊥
  new_t y e = r.no_corner s t y here e

  new_u : (y : Side) → corner_at u y ≡ p → ⊥
  new_u y e = r.no_corner n u y beyond e

  apart : Distinct (corner_at t k ∷ corner_at t (after k) ∷ apex t k ∷ apex u j ∷ p ∷ [])
  apart =
      let d = four_distinct t u k j (r.mesh.distinct s t here) (r.mesh.distinct n u beyond) r.across.starts r.across.ends r.two in
      ((d.0.0, (d.0.1.0, (d.0.1.1.0, (new_t k, tt)))), ((d.1.0.0, (d.1.0.1.0, (new_t (after k), tt))), ((d.1.1.0.0, (new_t (after (after k)), tt)), ((new_u (after (after j)), tt), (tt, tt)))))

  empty : (i : ℕ) → (i ≡ outside → ⊥) → state_at p1 i ≡ blank → slots_of old i ≡ None
  empty i live e = sym (same i) ∙ slot_in p1 i live ∙ ap joined e

  abbrev olds : List Piece
  olds = record { slot = s; tri = t; base = k; a = 0; b = 1; c = 2 } ∷ record { slot = n; tri = u; base = j; a = 1; b = 0; c = 3 } ∷ []

  abbrev n_tri : TriSlot
  n_tri = record { corners = corner_at t (after k) ∷ p ∷ apex u j ∷ []; counts = count_at t k ∷ 0 ∷ count_at u (after (after j)) ∷ []; next = f ∷ g ∷ next_at u (after (after j)) ∷ []; stamp = 0 }

  abbrev g_tri : TriSlot
  g_tri = record { corners = p ∷ corner_at t k ∷ apex u j ∷ []; counts = count_at t k ∷ count_at u (after j) ∷ 0 ∷ []; next = s ∷ next_at u (after j) ∷ n ∷ []; stamp = 0 }

  abbrev news : List Piece
  news =
      record { slot = s; tri = start_part t k p g f; base = first; a = 0; b = 4; c = 2 }
      ∷ record { slot = f; tri = end_part t k p n s; base = first; a = 4; b = 1; c = 2 }
      ∷ record { slot = n; tri = n_tri; base = first; a = 1; b = 4; c = 3 }
      ∷ record { slot = g; tri = g_tri; base = first; a = 4; b = 0; c = 3 }
      ∷ []

  -- the edges cb and da lead to where bc and ad were
  abbrev opens : List (Corner × Corner)
  opens = (apex t k, corner_at t (after k)) ∷ (apex u j, corner_at t k) ∷ []

  in_n : slots_of p2 n ≡ Some n_tri
  in_n = r.wrote.in_n ∙ ap Some (start_is t u k j p f g r.across.starts r.across.same_count)

  in_g : slots_of p2 g ≡ Some g_tri
  in_g = r.wrote.in_g ∙ ap Some (end_is t u k j p s n r.across.ends r.across.same_count)

  patch : IsPatch (corner_at t k ∷ corner_at t (after k) ∷ apex t k ∷ apex u j ∷ p ∷ []) opens (slots_of old) (slots_of p2) olds news
  patch = record {
    distinct = apart;
    olds_named = ((refl, refl), ((refl, refl), ((refl, ap Some (sym (thrice t k))), ((ap Some (sym r.across.starts), ap Some (sym r.across.ends)), ((ap Some (sym r.across.ends), refl), ((refl, ap Some (sym (thrice u j ∙ r.across.starts))), tt))))));
    news_named = ((refl, refl), ((refl, refl), ((refl, refl), ((refl, refl), ((refl, refl), ((refl, refl), ((refl, refl), ((refl, refl), ((refl, refl), ((refl, refl), ((refl, refl), ((refl, refl), tt))))))))))));
    once = (refl, (refl, (refl, (refl, (refl, (refl, (refl, (refl, (refl, (refl, (refl, (refl, tt))))))))))));
    parts = ((refl, refl), ((refl, refl), ((refl, refl, refl), ((refl, refl), ((refl, refl, refl), ((refl, refl), ((refl, refl), ((refl, refl), ((refl, refl, refl), ((refl, refl), ((refl, refl, refl), ((refl, refl), tt))))))))))));
    again = (tt, ((refl, inr (inl (refl, refl))), ((refl, inl refl), (tt, ((refl, inr (inr (inl (refl, r.across.ends)))), ((refl, inl refl), tt))))));
    fresh = (to_p, (from_p, (tt, (from_p, (tt, (to_p, (to_p, (from_p, (tt, (from_p, (tt, (to_p, tt))))))))))));
    olds_stand = (here, (beyond, tt));
    olds_live = (r.real, (r.inner, tt));
    news_stand = (r.wrote.in_s, (r.wrote.in_f, (in_n, (in_g, tt))));
    came = (inl (inl refl), (inr (empty f r.taking.f_live r.taking.f_blank), (inl (inr (inl refl)), (inr (empty g r.taking.g_live r.taking.g_blank), tt))));
    gone = (inl (inl refl), (inl (inr (inr (inl refl))), tt));
    rest = λ i x y. r.wrote.rest i x.0 x.1.0 y.1.0 y.1.1.1.0 ∙ same i;
  }
    where
      to_p : {c : Corner} (i : ℕ) (x : Side) (e : _) → edges_of (slots_of old) i x ≡ Some e → e.tail ≡ c → e.head ≡ p → ⊥
      to_p i x e h _ l = no_head old p r.no_corner i x e h l

      from_p : {c : Corner} (i : ℕ) (x : Side) (e : _) → edges_of (slots_of old) i x ≡ Some e → e.tail ≡ p → e.head ≡ c → ⊥
      from_p i x e h l _ = no_tail old p r.no_corner i x e h l

  net : IsNetBut (OpenIn []) (edges_of (slots_of new))
  net =
      let a = corner_at t k in
      let b = corner_at t (after k) in
      let c = apex t k in
      let d = apex u j in
      let n1 = patched (a ∷ b ∷ c ∷ d ∷ p ∷ []) opens (slots_of old) (slots_of p2) olds news r.mesh.net patch in
      let n2 = redirected_net ((d, a) ∷ []) (next_at t (after k)) f c b (edges_of (slots_of p2)) (edges_of (slots_of p3)) n1 r.turn1 record {
        side = second;
        edge = edge (end_part t k p n s) second;
        there = ap (λ o. edge_of o second) r.wrote.in_f;
        tail_is = refl;
        head_is = refl;
        next_is = refl;
        live = r.taking.f_live;
        shut = λ o. elim o as (λ _. ⊥) [ inl y ↦ apart.1.0.0 y.0 | inr z ↦ elim z as (λ _. ⊥) [ inl y ↦ apart.1.0.1.0 y.0 | inr y ↦ y ] ];
      } in
      redirected_net [] (next_at u (after j)) g d a (edges_of (slots_of p3)) (edges_of (slots_of new)) n2 r.turn2
      (held ((d, a) ∷ []) ((d, a) ∷ []) (next_at t (after k)) f (next_at u (after j)) g c b d a (edges_of (slots_of p2)) (edges_of (slots_of p3)) r.turn1 (λ y _. apart.0.1.0 y)
      (λ o. elim o as (λ _. ⊥) [ inl y ↦ apart.0.1.1.0 y.0 | inr y ↦ y ])
      record {
        side = second;
        edge = edge g_tri second;
        there = ap (λ o. edge_of o second) in_g;
        tail_is = refl;
        head_is = refl;
        next_is = refl;
        live = r.taking.g_live;
        shut = λ o. elim o as (λ _. ⊥) [ inl y ↦ apart.0.1.1.0 y.0 | inr y ↦ y ];
      })

  -- three distinct corners of a new triangle, from what is known of its parts
  ends_apart : (x y z : Corner) → (x ≡ y → ⊥) → (x ≡ z → ⊥) → (y ≡ z → ⊥) → Distinct (x ∷ y ∷ z ∷ [])
  ends_apart x y z a b c = ((a, (b, tt)), ((c, tt), (tt, tt)))

  pub edge_split_mesh : IsMesh new
  edge_split_mesh = mesh_of new net (kept_filled p3 new r.kept2 (kept_filled p2 p3 r.kept1
      (filled_four p1 p2 s n f g (start_part t k p g f) (start_part u j p f g) (end_part t k p n s) (end_part u j p s n) r.wrote
      (λ i w h. r.mesh.distinct i w (sym (same i) ∙ h)) (λ i _ _ b c e. r.mesh.whole i (sym (r.taking.rest i b c) ∙ e)) r.taking.few
      (ends_apart (corner_at t k) p (apex t k) (new_t k) apart.0.1.0 (λ e. new_t (after (after k)) (sym e)))
      (ends_apart (corner_at u j) p (apex u j) (new_u j) (λ e. apart.1.0.1.0 (sym r.across.starts ∙ e)) (λ e. new_u (after (after j)) (sym e)))
      (ends_apart p (corner_at t (after k)) (apex t k) (λ e. new_t (after k) (sym e)) (λ e. new_t (after (after k)) (sym e)) apart.1.0.0)
      (ends_apart p (corner_at u (after j)) (apex u j) (λ e. new_u (after j) (sym e)) (λ e. new_u (after (after j)) (sym e)) (λ e. apart.0.1.1.0 (sym r.across.ends ∙ e))))))

  faces : (i : ℕ) → face_at (slots_of new) i ≡ face_at (slots_of p2) i
  faces i = r.kept2.faces i ∙ r.kept1.faces i

  pub edge_split_is : IsEdgeSplit old new s k p n f g
  edge_split_is = record {
    tri = t;
    beyond = u;
    back = j;
    here = r.here;
    across = r.across;
    f_free = r.taking.f_free;
    g_free = r.taking.g_free;
    apart = r.taking.apart;
    in_s = faces s ∙ ap (option_map face) r.wrote.in_s;
    in_f = faces f ∙ ap (option_map face) r.wrote.in_f;
    in_n = faces n ∙ ap (option_map face) r.wrote.in_n;
    in_g = faces g ∙ ap (option_map face) r.wrote.in_g;
    rest = λ i a b c d. faces i ∙ ap (option_map face) (r.wrote.rest i a b c d ∙ same i);
  }
