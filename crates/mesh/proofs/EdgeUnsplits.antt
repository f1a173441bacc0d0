-- An unsplit of an edge keeps a mesh.
use Rattle.std.proofs.Common.{◌≡◌, ◌≤◌, ◌^◌, ℕ, Some, List, [], ◌∷◌, refl, sym, ap, ◌∙◌, inl, inr, subst}
use Rattle.std.specs.Option.{option_map}
use Rattle.std.proofs.lemmas.Bool.{cases_eq}
use Rattle.std.proofs.lemmas.Option.{none-some}
use Rattle.ground_model.specs.declared.corner.Corner.{Corner}
use Rattle.tri_pages.specs.declared.tri_slot.TriSlot.{TriSlot}
use Rattle.tri_pages.specs.Slots.{State, triangle_at}
use Rattle.mesh.specs.Acrosses.{apex, IsAcross}
use Rattle.mesh.specs.Corners.{Distinct}
use Rattle.mesh.specs.EdgeUnsplits.{upper, AreFour, IsLine, IsEdgeUnsplit}
use Rattle.mesh.specs.Faces.{face, face_at, KeepsFaces}
use Rattle.mesh.specs.Meshes.{IsMesh, corners_of}
use Rattle.mesh.specs.Net.{Side, first, second, third, after, edge, edge_of, edges_of, corner_at, count_at, next_at, outside, slots_of, IsNetBut, OpenIn}
use Rattle.mesh.specs.Redirects.{IsRedirected}
use Rattle.mesh.proofs.Acrosses.{foreign, no_edge_back, across_apart}
use Rattle.mesh.proofs.Corners.{thrice, distinct_from}
use Rattle.mesh.proofs.Filled.{Filled, kept_filled, mesh_of}
use Rattle.mesh.proofs.FreedSlots.{FreedTwo}
use Rattle.mesh.proofs.NamedEdges.{same_in}
use Rattle.mesh.proofs.Patched.{patched}
use Rattle.mesh.proofs.Redirected.{redirected_net, held}
use Rattle.mesh.proofs.Shape.{Piece, IsPatch}
use Rattle.mesh.proofs.Slots.{slot_in, live_real, is_some}
use Rattle.mesh.proofs.Unsplits.{free_in_mesh, no_face}
use Rattle.mesh.proofs.WrittenSlots.{WroteTwo}

pub round_side : (k : Side) → after (after (after k)) ≡ k
round_side first = refl
round_side second = refl
round_side third = refl

-- the corners of the four: t = apc, u = pbc, w = bpd, v = pad
pub record FourRound (t u w v : TriSlot) (k j i l : Side) : Type 0 where
  pub u_starts : corner_at u j ≡ corner_at t (after k)
  pub u_ends : corner_at u (after j) ≡ corner_at w i
  pub u_apex : apex u j ≡ apex t k
  pub w_ends : corner_at w (after i) ≡ corner_at t (after k)
  pub v_starts : corner_at v l ≡ corner_at t (after k)
  pub v_ends : corner_at v (after l) ≡ corner_at t k
  pub v_apex : apex v l ≡ apex w i
  pub two_ends : corner_at t k ≡ corner_at w i → ⊥
  pub two_apexes : apex t k ≡ apex w i → ⊥

pub four_round : (slots : List State) (t : TriSlot) (k : Side) (f : ℕ) (u : TriSlot) (j : Side) (n : ℕ) (w : TriSlot) (i : Side) (g : ℕ) (v : TriSlot) (l : Side)
    → AreFour slots t k f u j n w i g v l → IsLine slots t k u j w i v l → FourRound t u w v k j i l
four_round slots t k f u j n w i g v l a b = record {
  u_starts = sym (thrice u j) ∙ a.ahead.ends;
  u_ends = sym a.below.starts;
  u_apex = a.ahead.starts;
  w_ends = a.below.ends ∙ sym (thrice u j) ∙ a.ahead.ends;
  v_starts = a.under.starts;
  v_ends = a.under.ends;
  v_apex = b.closed;
  two_ends = b.two_ends;
  two_apexes = b.two_apexes;
}

-- a, b, c, d, p
pub line_distinct : (t u w v : TriSlot) (k j i l : Side) → Distinct (corners_of t) → Distinct (corners_of u) → Distinct (corners_of w) → Distinct (corners_of v) → FourRound t u w v k j i l
    → Distinct (corner_at t k ∷ corner_at w i ∷ apex t k ∷ apex w i ∷ corner_at t (after k) ∷ [])
line_distinct t u w v k j i l dt du dw dv r =
    let x = distinct_from t k dt in
    let y = distinct_from u j du in
    let z = distinct_from w i dw in
    let o = distinct_from v l dv in (
      (r.two_ends, (x.0.1.0, ((λ e. o.1.0.0 (r.v_ends ∙ e ∙ sym r.v_apex)), (x.0.0, tt)))),
      (
        ((λ e. y.1.0.0 (r.u_ends ∙ e ∙ sym r.u_apex)), (z.0.1.0, ((λ e. z.0.0 (e ∙ sym r.w_ends)), tt))),
        (
          (r.two_apexes, ((λ e. x.1.0.0 (sym e)), tt)),
          (((λ e. z.1.0.0 (r.w_ends ∙ sym e)), tt), (tt, tt)),
        ),
      ),
    )

-- the slots of the four are four
pub record FourSlots (s f n g : ℕ) : Type 0 where
  pub s_f : s ≡ f → ⊥
  pub s_n : s ≡ n → ⊥
  pub s_g : s ≡ g → ⊥
  pub f_n : f ≡ n → ⊥
  pub f_g : f ≡ g → ⊥
  pub n_g : n ≡ g → ⊥

pub four_slots : (slots : List State) (t : TriSlot) (k : Side) (s f : ℕ) (u : TriSlot) (j : Side) (n : ℕ) (w : TriSlot) (i : Side) (g : ℕ) (v : TriSlot) (l : Side)
    → IsMesh slots → triangle_at slots s ≡ Some t → AreFour slots t k f u j n w i g v l → IsLine slots t k u j w i v l → FourSlots s f n g
four_slots slots t k s f u j n w i g v l mesh here a b =
    let r = four_round slots t k f u j n w i g v l a b in
    let live : (m : ℕ) (x : TriSlot) → triangle_at slots m ≡ Some x → m ≡ outside → ⊥ = λ m x h. live_real slots m mesh.few (is_some (triangle_at slots m) x h) in
    let three : (m : ℕ) (x : TriSlot) → triangle_at slots m ≡ Some x → Distinct (corners_of x) = λ m x h. mesh.distinct m x (slot_in slots m (live m x h) ∙ h) in
    let d = line_distinct t u w v k j i l (three s t here) (three f u a.ahead.there) (three n w a.below.there) (three g v a.under.there) r in
    let one : (m m' : ℕ) (x y : TriSlot) → triangle_at slots m ≡ Some x → triangle_at slots m' ≡ Some y → m ≡ m' → x ≡ y = λ m m' x y h h' e. same_in x y (sym h ∙ ap (triangle_at slots) e ∙ h') in
    record {
      s_f = across_apart slots s f (after k) (after (after j)) t u mesh here (live s t here) a.ahead;
      s_n = λ e. foreign t k i (corner_at w i) (ap (λ x. corner_at x i) (one s n t w here a.below.there e)) d.0.0 (λ h. d.1.0.1.1.0 (sym h)) (λ h. d.1.0.0 (sym h));
      s_g = across_apart slots s g k l t v mesh here (live s t here) a.under;
      f_n = across_apart slots f n j i u w mesh a.ahead.there (live f u a.ahead.there) a.below;
      f_g = λ e. foreign u j (after l) (corner_at t k) (ap (λ x. corner_at x (after l)) (one f g u v a.ahead.there a.under.there e) ∙ r.v_ends) (λ h. d.0.1.1.1.0 (sym h ∙ r.u_starts)) (λ h. d.0.0 (sym h ∙ r.u_ends)) (λ h. d.0.1.0 (sym h ∙ r.u_apex));
      n_g = λ e. foreign w i (after l) (corner_at t k) (ap (λ x. corner_at x (after l)) (one n g w v a.below.there a.under.there e) ∙ r.v_ends) (λ h. d.0.0 (sym h)) (λ h. d.0.1.1.1.0 (sym h ∙ r.w_ends)) (λ h. d.0.1.1.0 (sym h));
    }

-- what was read across three edges
pub four_of : (slots : List State) (t : TriSlot) (k x : Side) (f : ℕ) (u : TriSlot) (o j : Side) (n : ℕ) (w : TriSlot) (i : Side) (g : ℕ) (v : TriSlot) (l : Side)
    → x ≡ after k → j ≡ after o → IsAcross slots t x f u o → IsAcross slots u j n w i → IsAcross slots t k g v l → AreFour slots t k f u j n w i g v l
four_of slots t k x f u o j n w i g v l e h a b c = record {
  ahead = subst (λ y. y) (λ m. IsAcross slots t (e m) f u (sym (ap (λ z. after (after z)) h ∙ round_side o) m)) a;
  below = b;
  under = c;
}

-- the pages `old`, with two slots written (p1), two given back (p2) and two neighbours turned (p3, new)
pub record EdgeUnsplitRun (old p1 p2 p3 new : List State) (s f n g : ℕ) (k j i l : Side) (t u w v : TriSlot) : Type 0 where
  pub mesh : IsMesh old
  pub here : triangle_at old s ≡ Some t
  pub four : AreFour old t k f u j n w i g v l
  pub line : IsLine old t k u j w i v l
  pub s_real : s ≡ outside → ⊥
  pub f_real : f ≡ outside → ⊥
  pub n_real : n ≡ outside → ⊥
  pub g_real : g ≡ outside → ⊥
  pub wrote : WroteTwo old p1 s n (upper t k u j n) (upper w i v l s)
  pub freed : FreedTwo p1 p2 f g
  pub turn1 : IsRedirected (next_at u (after j)) s (apex t k) (corner_at w i) (edges_of (slots_of p2)) (edges_of (slots_of p3))
  pub kept1 : KeepsFaces p2 p3
  pub turn2 : IsRedirected (next_at v (after l)) n (apex w i) (corner_at t k) (edges_of (slots_of p3)) (edges_of (slots_of new))
  pub kept2 : KeepsFaces p3 new

module _ (old p1 p2 p3 new : List State) (s f n g : ℕ) (k j i l : Side) (t u w v : TriSlot) (r : EdgeUnsplitRun old p1 p2 p3 new s f n g k j i l t u w v) where
  round : FourRound t u w v k j i l
  round = four_round old t k f u j n w i g v l r.four r.line

  slots : FourSlots s f n g
  slots = four_slots old t k s f u j n w i g v l r.mesh r.here r.four r.line

  in_s : slots_of old s ≡ Some t
  in_s = slot_in old s r.s_real ∙ r.here

  in_f : slots_of old f ≡ Some u
  in_f = slot_in old f r.f_real ∙ r.four.ahead.there

  in_n : slots_of old n ≡ Some w
  in_n = slot_in old n r.n_real ∙ r.four.below.there

  in_g : slots_of old g ≡ Some v
  in_g = slot_in old g r.g_real ∙ r.four.under.there

  apart : Distinct (corner_at t k ∷ corner_at w i ∷ apex t k ∷ apex w i ∷ corner_at t (after k) ∷ [])
  apart = line_distinct t u w v k j i l (r.mesh.distinct s t in_s) (r.mesh.distinct f u in_f) (r.mesh.distinct n w in_n) (r.mesh.distinct g v in_g) round

  abbrev s_tri : TriSlot
  s_tri = record { corners = corner_at t k ∷ corner_at w i ∷ apex t k ∷ []; counts = count_at t k ∷ count_at u (after j) ∷ count_at t (after (after k)) ∷ []; next = n ∷ next_at u (after j) ∷ next_at t (after (after k)) ∷ []; stamp = 0 }

  abbrev n_tri : TriSlot
  n_tri = record { corners = corner_at w i ∷ corner_at t k ∷ apex w i ∷ []; counts = count_at t k ∷ count_at v (after l) ∷ count_at w (after (after i)) ∷ []; next = s ∷ next_at v (after l) ∷ next_at w (after (after i)) ∷ []; stamp = 0 }

  s_is : upper t k u j n ≡ s_tri
  s_is = λ x. record { corners = corner_at t k ∷ round.u_ends x ∷ apex t k ∷ []; counts = count_at t k ∷ count_at u (after j) ∷ count_at t (after (after k)) ∷ []; next = n ∷ next_at u (after j) ∷ next_at t (after (after k)) ∷ []; stamp = 0 }

  same_count : count_at w i ≡ count_at t k
  same_count = r.four.below.same_count ∙ sym r.line.one_count

  n_is : upper w i v l s ≡ n_tri
  n_is = λ x. record { corners = corner_at w i ∷ round.v_ends x ∷ apex w i ∷ []; counts = same_count x ∷ count_at v (after l) ∷ count_at w (after (after i)) ∷ []; next = s ∷ next_at v (after l) ∷ next_at w (after (after i)) ∷ []; stamp = 0 }

  new_s : slots_of p2 s ≡ Some s_tri
  new_s = r.freed.rest s slots.s_f slots.s_g ∙ r.wrote.in_s ∙ ap Some s_is

  new_n : slots_of p2 n ≡ Some n_tri
  new_n = r.freed.rest n (λ e. slots.f_n (sym e)) slots.n_g ∙ r.wrote.in_n ∙ ap Some n_is

  abbrev olds : List Piece
  olds =
      record { slot = s; tri = t; base = k; a = 0; b = 4; c = 2 }
      ∷ record { slot = f; tri = u; base = j; a = 4; b = 1; c = 2 }
      ∷ record { slot = n; tri = w; base = i; a = 1; b = 4; c = 3 }
      ∷ record { slot = g; tri = v; base = l; a = 4; b = 0; c = 3 }
      ∷ []

  abbrev news : List Piece
  news = record { slot = s; tri = s_tri; base = first; a = 0; b = 1; c = 2 } ∷ record { slot = n; tri = n_tri; base = first; a = 1; b = 0; c = 3 } ∷ []

  -- the edges cb and da lead to where bc and ad were
  abbrev opens : List (Corner × Corner)
  opens = (apex t k, corner_at w i) ∷ (apex w i, corner_at t k) ∷ []

  patch : IsPatch (corner_at t k ∷ corner_at w i ∷ apex t k ∷ apex w i ∷ corner_at t (after k) ∷ []) opens (slots_of old) (slots_of p2) olds news
  patch = record {
    distinct = apart;
    olds_named = (
      (refl, refl),
      (
        (refl, refl),
        (
          (refl, ap Some (sym (thrice t k))),
          (
            (ap Some (sym round.u_starts), ap Some (sym round.u_ends)),
            (
              (ap Some (sym round.u_ends), ap Some (sym round.u_apex)),
              (
                (ap Some (sym round.u_apex), ap Some (sym (thrice u j ∙ round.u_starts))),
                ((refl, ap Some (sym round.w_ends)), ((ap Some (sym round.w_ends), refl), ((refl, ap Some (sym (thrice w i))), ((ap Some (sym round.v_starts), ap Some (sym round.v_ends)), ((ap Some (sym round.v_ends), ap Some (sym round.v_apex)), ((ap Some (sym round.v_apex), ap Some (sym (thrice v l ∙ round.v_starts))), tt)))))),
              ),
            ),
          ),
        ),
      ),
    );
    news_named = ((refl, refl), ((refl, refl), ((refl, refl), ((refl, refl), ((refl, refl), ((refl, refl), tt))))));
    once = (refl, (refl, (refl, (refl, (refl, (refl, tt))))));
    parts = ((refl, refl), ((refl, refl, refl), ((refl, refl, refl), ((refl, refl), ((refl, refl, refl), ((refl, refl, refl), tt))))));
    again = (tt, (tt, ((refl, inl refl), (tt, ((refl, inr (inl (round.u_apex, round.u_ends))), (tt, (tt, (tt, ((refl, inl refl), (tt, ((refl, inr (inr (inl (round.v_apex, round.v_ends)))), (tt, tt))))))))))));
    fresh = ((λ m x e h y z. r.line.unjoined m x e h y z), (tt, (tt, ((λ m x e h y z. no_edge_back old (corner_at t k) (corner_at w i) r.mesh r.line.unjoined m x e h y z), (tt, (tt, tt))))));
    olds_stand = (in_s, (in_f, (in_n, (in_g, tt))));
    olds_live = (r.s_real, (r.f_real, (r.n_real, (r.g_real, tt))));
    news_stand = (new_s, (new_n, tt));
    came = (inl (inl refl), (inl (inr (inr (inl refl))), tt));
    gone = (inl (inl refl), (inr r.freed.out_f, (inl (inr (inl refl)), (inr r.freed.out_g, tt))));
    rest = λ m x y. r.freed.rest m x.1.0 x.1.1.1.0 ∙ r.wrote.rest m x.0 x.1.1.0;
  }

  net : IsNetBut (OpenIn []) (edges_of (slots_of new))
  net =
      let a = corner_at t k in
      let b = corner_at w i in
      let c = apex t k in
      let d = apex w i in
      let p = corner_at t (after k) in
      let n1 = patched (a ∷ b ∷ c ∷ d ∷ p ∷ []) opens (slots_of old) (slots_of p2) olds news r.mesh.net patch in
      let n2 = redirected_net ((d, a) ∷ []) (next_at u (after j)) s c b (edges_of (slots_of p2)) (edges_of (slots_of p3)) n1 r.turn1 record {
        side = second;
        edge = edge s_tri second;
        there = ap (λ o. edge_of o second) new_s;
        tail_is = refl;
        head_is = refl;
        next_is = refl;
        live = r.s_real;
        shut = λ o. elim o as (λ _. ⊥) [ inl y ↦ apart.1.0.0 y.0 | inr z ↦ elim z as (λ _. ⊥) [ inl y ↦ apart.1.0.1.0 y.0 | inr y ↦ y ] ];
      } in
      redirected_net [] (next_at v (after l)) n d a (edges_of (slots_of p3)) (edges_of (slots_of new)) n2 r.turn2
      (held ((d, a) ∷ []) ((d, a) ∷ []) (next_at u (after j)) s (next_at v (after l)) n c b d a (edges_of (slots_of p2)) (edges_of (slots_of p3)) r.turn1 (λ y _. apart.0.1.0 y)
      (λ o. elim o as (λ _. ⊥) [ inl y ↦ apart.0.1.1.0 y.0 | inr y ↦ y ])
      record {
        side = second;
        edge = edge n_tri second;
        there = ap (λ o. edge_of o second) new_n;
        tail_is = refl;
        head_is = refl;
        next_is = refl;
        live = r.n_real;
        shut = λ o. elim o as (λ _. ⊥) [ inl y ↦ apart.0.1.1.0 y.0 | inr y ↦ y ];
      })

  -- the triangle of a slot is a new one, or was there
  distinct_at : (m : ℕ) (x : TriSlot) → slots_of p2 m ≡ Some x → Distinct (corners_of x)
  distinct_at m x h = elim (cases_eq m s) as (λ _. Distinct (corners_of x)) [
    | inl e ↦ subst (λ y. Distinct (corners_of y)) (same_in s_tri x (sym (ap (slots_of p2) e ∙ new_s) ∙ h)) ((apart.0.0, (apart.0.1.0, tt)), ((apart.1.0.0, tt), (tt, tt)))
    | inr a ↦ elim (cases_eq m n) as (λ _. Distinct (corners_of x)) [
      | inl e ↦ subst (λ y. Distinct (corners_of y)) (same_in n_tri x (sym (ap (slots_of p2) e ∙ new_n) ∙ h)) (((λ y. apart.0.0 (sym y)), (apart.1.0.1.0, tt)), ((apart.0.1.1.0, tt), (tt, tt)))
      | inr b ↦ elim (cases_eq m f) as (λ _. Distinct (corners_of x)) [
        | inl e ↦ absurd (none-some x (sym (ap (slots_of p2) e ∙ r.freed.out_f) ∙ h))
        | inr c ↦ elim (cases_eq m g) as (λ _. Distinct (corners_of x)) [
          | inl e ↦ absurd (none-some x (sym (ap (slots_of p2) e ∙ r.freed.out_g) ∙ h))
          | inr d ↦ r.mesh.distinct m x (sym (r.freed.rest m c d ∙ r.wrote.rest m a b) ∙ h)
        ]
      ]
    ]
  ]

  full : Filled p2
  full = record {
    distinct = distinct_at;
    whole = λ m e. r.mesh.whole m (r.wrote.blanks m (r.freed.blanks m e)).2;
    few = subst (λ m. m ≤ 2 ^ 30) (sym (r.freed.len ∙ r.wrote.len)) r.mesh.few;
  }

  pub edge_unsplit_mesh : IsMesh new
  edge_unsplit_mesh = mesh_of new net (kept_filled p3 new r.kept2 (kept_filled p2 p3 r.kept1 full))

  faces : (m : ℕ) → face_at (slots_of new) m ≡ face_at (slots_of p2) m
  faces m = r.kept2.faces m ∙ r.kept1.faces m

  pub edge_unsplit_is : IsEdgeUnsplit old new s k f n g
  edge_unsplit_is = record {
    tri = t;
    ahead = u;
    ahead_side = j;
    below = w;
    below_side = i;
    under = v;
    under_side = l;
    here = r.here;
    four = r.four;
    in_s = faces s ∙ ap (option_map face) (r.freed.rest s slots.s_f slots.s_g ∙ r.wrote.in_s);
    in_n = faces n ∙ ap (option_map face) (r.freed.rest n (λ e. slots.f_n (sym e)) slots.n_g ∙ r.wrote.in_n);
    f_free = free_in_mesh new f r.f_real edge_unsplit_mesh (no_face (slots_of new f) (faces f ∙ ap (option_map face) r.freed.out_f));
    g_free = free_in_mesh new g r.g_real edge_unsplit_mesh (no_face (slots_of new g) (faces g ∙ ap (option_map face) r.freed.out_g));
    rest = λ m a b c d. faces m ∙ ap (option_map face) (r.freed.rest m b d ∙ r.wrote.rest m a c);
  }
