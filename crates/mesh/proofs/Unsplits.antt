-- An unsplit keeps a mesh.
use Rattle.std.proofs.Common.{◌≡◌, ◌≤◌, ◌^◌, ℕ, Option, Some, None, List, [], ◌∷◌, refl, sym, ap, ◌∙◌, inl, inr, subst}
use Rattle.std.specs.Option.{option_map}
use Rattle.std.proofs.lemmas.Bool.{cases_eq}
use Rattle.std.proofs.lemmas.Option.{none-some}
use Rattle.ground_model.specs.declared.corner.Corner.{Corner}
use Rattle.tri_pages.specs.declared.tri_slot.TriSlot.{TriSlot}
use Rattle.tri_pages.specs.Slots.{State, state_at, triangle_at, joined, free, blank}
use Rattle.mesh.specs.Acrosses.{apex, IsAcross}
use Rattle.mesh.specs.Corners.{Distinct}
use Rattle.mesh.specs.Faces.{face, face_at, KeepsFaces}
use Rattle.mesh.specs.Meshes.{IsMesh, corners_of}
use Rattle.mesh.specs.Net.{Side, first, second, third, after, edge, edge_of, edges_of, corner_at, next_at, outside, slots_of, IsNetBut, OpenIn}
use Rattle.mesh.specs.Redirects.{IsRedirected}
use Rattle.mesh.specs.Unsplits.{whole, AreAround, IsUnsplit}
use Rattle.mesh.proofs.Acrosses.{foreign}
use Rattle.mesh.proofs.Corners.{thrice, distinct_from}
use Rattle.mesh.proofs.Filled.{Filled, kept_filled, mesh_of}
use Rattle.mesh.proofs.FreedSlots.{WroteOne, FreedTwo}
use Rattle.mesh.proofs.NamedEdges.{same_in}
use Rattle.mesh.proofs.Patched.{patched}
use Rattle.mesh.proofs.Redirected.{redirected_net, held}
use Rattle.mesh.proofs.Shape.{Piece, IsPatch}
use Rattle.mesh.proofs.Slots.{slot_in, live_real, is_some}

-- three distinct corners of pbc and apc, beside those of abp
pub record ThreeRound (t u v : TriSlot) (k j l : Side) : Type 0 where
  pub u_starts : corner_at u j ≡ apex t k
  pub u_ends : corner_at u (after j) ≡ corner_at t (after k)
  pub v_starts : corner_at v l ≡ corner_at t k
  pub v_ends : corner_at v (after l) ≡ apex t k
  pub v_apex : apex v l ≡ apex u j

pub three_round : (slots : List State) (t u v : TriSlot) (k j l : Side) (f g : ℕ) → AreAround slots t k f u j g v l → apex v l ≡ apex u j → ThreeRound t u v k j l
three_round slots t u v k j l f g a e = record {
  u_starts = a.ahead.starts;
  u_ends = a.ahead.ends;
  v_starts = a.before.starts ∙ thrice t k;
  v_ends = a.before.ends;
  v_apex = e;
}

-- a, b, c, p
pub round_distinct : (t u v : TriSlot) (k j l : Side) → Distinct (corners_of t) → Distinct (corners_of u) → Distinct (corners_of v) → ThreeRound t u v k j l
    → Distinct (corner_at t k ∷ corner_at t (after k) ∷ apex u j ∷ apex t k ∷ [])
round_distinct t u v k j l dt du dv r =
    let x = distinct_from t k dt in
    let y = distinct_from u j du in
    let z = distinct_from v l dv in
    ((x.0.0, ((λ e. z.0.1.0 (r.v_starts ∙ e ∙ sym r.v_apex)), (x.0.1.0, tt))), (((λ e. y.1.0.0 (r.u_ends ∙ e)), (x.1.0.0, tt)), (((λ e. y.0.1.0 (r.u_starts ∙ sym e)), tt), (tt, tt))))

-- u and v are two, since u has no corner a
pub not_one : (t u v : TriSlot) (k j l : Side) → Distinct (corners_of t) → Distinct (corners_of u) → Distinct (corners_of v) → ThreeRound t u v k j l → u ≡ v → ⊥
not_one t u v k j l dt du dv r e =
    let d = round_distinct t u v k j l dt du dv r in
    foreign u j l (corner_at t k) (ap (λ x. corner_at x l) e ∙ r.v_starts) (λ h. d.0.1.1.0 (sym h ∙ r.u_starts)) (λ h. d.0.0 (sym h ∙ r.u_ends)) (λ h. d.0.1.0 (sym h))

-- what was read across two edges, the second after the first
pub around_of : (slots : List State) (t : TriSlot) (k x y : Side) (f : ℕ) (u : TriSlot) (j : Side) (g : ℕ) (v : TriSlot) (l : Side) → x ≡ after k → y ≡ after x → IsAcross slots t x f u j → IsAcross slots t y g v l → AreAround slots t k f u j g v l
around_of slots t k x y f u j g v l e h a b = record {
  ahead = subst (λ z. IsAcross slots t z f u j) e a;
  before = subst (λ z. IsAcross slots t z g v l) (h ∙ ap after e) b;
}

pub freed_apart : (slots : List State) (s f g : ℕ) (k j l : Side) (t u v : TriSlot) → IsMesh slots → triangle_at slots s ≡ Some t → AreAround slots t k f u j g v l → apex v l ≡ apex u j → f ≡ g → ⊥
freed_apart slots s f g k j l t u v mesh here a e same =
    let real : (i : ℕ) (w : TriSlot) → triangle_at slots i ≡ Some w → Distinct (corners_of w) = λ i w h. mesh.distinct i w (slot_in slots i (live_real slots i mesh.few (is_some (triangle_at slots i) w h)) ∙ h) in
    not_one t u v k j l (real s t here) (real f u a.ahead.there) (real g v a.before.there) (three_round slots t u v k j l f g a e)
    (same_in u v (sym a.ahead.there ∙ ap (triangle_at slots) same ∙ a.before.there))

-- where no face is, no triangle is
pub no_face : (o : Option TriSlot) → option_map face o ≡ None → o ≡ None
no_face None e = refl
no_face (Some w) e = absurd (none-some (face w) (sym e))

free_by : (o : State) → (o ≡ blank → ⊥) → joined o ≡ None → o ≡ free
free_by None ne e = refl
free_by (Some None) ne e = absurd (ne refl)
free_by (Some (Some w)) ne e = absurd (none-some w (sym e))

-- in a mesh a slot without a triangle is free
pub free_in_mesh : (slots : List State) (i : ℕ) → (i ≡ outside → ⊥) → IsMesh slots → slots_of slots i ≡ None → state_at slots i ≡ free
free_in_mesh slots i live mesh e = free_by (state_at slots i) (mesh.whole i) (sym (slot_in slots i live) ∙ e)

-- the pages `old`, with a slot written (p1), two given back (p2) and two neighbours turned (p3, new)
pub record UnsplitRun (old p1 p2 p3 new : List State) (s f g : ℕ) (k j l : Side) (t u v : TriSlot) : Type 0 where
  pub mesh : IsMesh old
  pub here : triangle_at old s ≡ Some t
  pub s_real : s ≡ outside → ⊥
  pub f_real : f ≡ outside → ⊥
  pub g_real : g ≡ outside → ⊥
  pub s_f : s ≡ f → ⊥
  pub s_g : s ≡ g → ⊥
  pub around : AreAround old t k f u j g v l
  pub round : ThreeRound t u v k j l
  pub wrote : WroteOne old p1 s (whole t k u j v l)
  pub freed : FreedTwo p1 p2 f g
  pub turn1 : IsRedirected (next_at u (after j)) s (apex u j) (corner_at t (after k)) (edges_of (slots_of p2)) (edges_of (slots_of p3))
  pub kept1 : KeepsFaces p2 p3
  pub turn2 : IsRedirected (next_at v (after (after l))) s (corner_at t k) (apex u j) (edges_of (slots_of p3)) (edges_of (slots_of new))
  pub kept2 : KeepsFaces p3 new

module _ (old p1 p2 p3 new : List State) (s f g : ℕ) (k j l : Side) (t u v : TriSlot) (r : UnsplitRun old p1 p2 p3 new s f g k j l t u v) where
  in_s : slots_of old s ≡ Some t
  in_s = slot_in old s r.s_real ∙ r.here

  in_f : slots_of old f ≡ Some u
  in_f = slot_in old f r.f_real ∙ r.around.ahead.there

  in_g : slots_of old g ≡ Some v
  in_g = slot_in old g r.g_real ∙ r.around.before.there

  apart : Distinct (corner_at t k ∷ corner_at t (after k) ∷ apex u j ∷ apex t k ∷ [])
  apart = round_distinct t u v k j l (r.mesh.distinct s t in_s) (r.mesh.distinct f u in_f) (r.mesh.distinct g v in_g) r.round

  abbrev olds : List Piece
  olds =
      record { slot = s; tri = t; base = k; a = 0; b = 1; c = 3 }
      ∷ record { slot = f; tri = u; base = j; a = 3; b = 1; c = 2 }
      ∷ record { slot = g; tri = v; base = l; a = 0; b = 3; c = 2 }
      ∷ []

  abbrev news : List Piece
  news = record { slot = s; tri = whole t k u j v l; base = first; a = 0; b = 1; c = 2 } ∷ []

  -- the edges cb and ac lead to where bc and ca were
  abbrev opens : List (Corner × Corner)
  opens = (apex u j, corner_at t (after k)) ∷ (corner_at t k, apex u j) ∷ []

  written : slots_of p2 s ≡ Some (whole t k u j v l)
  written = r.freed.rest s r.s_f r.s_g ∙ r.wrote.in_s

  patch : IsPatch (corner_at t k ∷ corner_at t (after k) ∷ apex u j ∷ apex t k ∷ []) opens (slots_of old) (slots_of p2) olds news
  patch = record {
    distinct = apart;
    olds_named = (
      (refl, refl),
      (
        (refl, refl),
        (
          (refl, ap Some (sym (thrice t k))),
          (
            (ap Some (sym r.round.u_starts), ap Some (sym r.round.u_ends)),
            (
              (ap Some (sym r.round.u_ends), refl),
              (
                (refl, ap Some (sym (thrice u j ∙ r.round.u_starts))),
                ((ap Some (sym r.round.v_starts), ap Some (sym r.round.v_ends)), ((ap Some (sym r.round.v_ends), ap Some (sym r.round.v_apex)), ((ap Some (sym r.round.v_apex), ap Some (sym (thrice v l ∙ r.round.v_starts))), tt))),
              ),
            ),
          ),
        ),
      ),
    );
    news_named = ((refl, refl), ((refl, refl), ((refl, refl), tt)));
    once = (refl, (refl, (refl, tt)));
    parts = ((refl, refl, refl), ((refl, refl, refl), ((refl, refl, refl), tt)));
    again = ((refl, inl refl), (tt, (tt, (tt, ((refl, inr (inl (refl, r.round.u_ends))), (tt, (tt, (tt, ((refl, inr (inr (inl (thrice v l ∙ r.round.v_starts, r.round.v_apex)))), tt)))))))));
    fresh = (tt, (tt, (tt, tt)));
    olds_stand = (in_s, (in_f, (in_g, tt)));
    olds_live = (r.s_real, (r.f_real, (r.g_real, tt)));
    news_stand = (written, tt);
    came = (inl (inl refl), tt);
    gone = (inl (inl refl), (inr r.freed.out_f, (inr r.freed.out_g, tt)));
    rest = λ i x y. r.freed.rest i x.1.0 x.1.1.0 ∙ r.wrote.rest i x.0;
  }

  net : IsNetBut (OpenIn []) (edges_of (slots_of new))
  net =
      let a = corner_at t k in
      let b = corner_at t (after k) in
      let c = apex u j in
      let p = apex t k in
      let n1 = patched (a ∷ b ∷ c ∷ p ∷ []) opens (slots_of old) (slots_of p2) olds news r.mesh.net patch in
      let n2 = redirected_net ((a, c) ∷ []) (next_at u (after j)) s c b (edges_of (slots_of p2)) (edges_of (slots_of p3)) n1 r.turn1 record {
        side = second;
        edge = edge (whole t k u j v l) second;
        there = ap (λ o. edge_of o second) written;
        tail_is = refl;
        head_is = refl;
        next_is = refl;
        live = r.s_real;
        shut = λ o. elim o as (λ _. ⊥) [ inl y ↦ apart.1.0.0 y.0 | inr z ↦ elim z as (λ _. ⊥) [ inl y ↦ apart.0.0 (sym y.0) | inr y ↦ y ] ];
      } in
      redirected_net [] (next_at v (after (after l))) s a c (edges_of (slots_of p3)) (edges_of (slots_of new)) n2 r.turn2
      (held ((a, c) ∷ []) ((a, c) ∷ []) (next_at u (after j)) s (next_at v (after (after l))) s c b a c (edges_of (slots_of p2)) (edges_of (slots_of p3)) r.turn1 (λ _ y. apart.0.0 y)
      (λ o. elim o as (λ _. ⊥) [ inl y ↦ apart.0.1.0 (sym y.0) | inr y ↦ y ])
      record {
        side = third;
        edge = edge (whole t k u j v l) third;
        there = ap (λ o. edge_of o third) written;
        tail_is = refl;
        head_is = refl;
        next_is = refl;
        live = r.s_real;
        shut = λ o. elim o as (λ _. ⊥) [ inl y ↦ apart.0.1.0 (sym y.0) | inr y ↦ y ];
      })

  -- the triangle of a slot is the new one, or was there
  distinct_at : (i : ℕ) (w : TriSlot) → slots_of p2 i ≡ Some w → Distinct (corners_of w)
  distinct_at i w h = elim (cases_eq i s) as (λ _. Distinct (corners_of w)) [
    | inl e ↦ subst (λ x. Distinct (corners_of x)) (same_in (whole t k u j v l) w (sym (ap (slots_of p2) e ∙ written) ∙ h)) ((apart.0.0, (apart.0.1.0, tt)), ((apart.1.0.0, tt), (tt, tt)))
    | inr a ↦ elim (cases_eq i f) as (λ _. Distinct (corners_of w)) [
      | inl e ↦ absurd (none-some w (sym (ap (slots_of p2) e ∙ r.freed.out_f) ∙ h))
      | inr b ↦ elim (cases_eq i g) as (λ _. Distinct (corners_of w)) [
        | inl e ↦ absurd (none-some w (sym (ap (slots_of p2) e ∙ r.freed.out_g) ∙ h))
        | inr c ↦ r.mesh.distinct i w (sym (r.freed.rest i b c ∙ r.wrote.rest i a) ∙ h)
      ]
    ]
  ]

  full : Filled p2
  full = record {
    distinct = distinct_at;
    whole = λ i e. r.mesh.whole i (r.wrote.blanks i (r.freed.blanks i e));
    few = subst (λ m. m ≤ 2 ^ 30) (sym (r.freed.len ∙ r.wrote.len)) r.mesh.few;
  }

  pub unsplit_mesh : IsMesh new
  unsplit_mesh = mesh_of new net (kept_filled p3 new r.kept2 (kept_filled p2 p3 r.kept1 full))

  faces : (i : ℕ) → face_at (slots_of new) i ≡ face_at (slots_of p2) i
  faces i = r.kept2.faces i ∙ r.kept1.faces i

  pub unsplit_is : IsUnsplit old new s k f g
  unsplit_is = record {
    tri = t;
    ahead = u;
    ahead_side = j;
    before = v;
    before_side = l;
    here = r.here;
    around = r.around;
    in_s = faces s ∙ ap (option_map face) written;
    f_free = free_in_mesh new f r.f_real unsplit_mesh (no_face (slots_of new f) (faces f ∙ ap (option_map face) r.freed.out_f));
    g_free = free_in_mesh new g r.g_real unsplit_mesh (no_face (slots_of new g) (faces g ∙ ap (option_map face) r.freed.out_g));
    rest = λ i a b c. faces i ∙ ap (option_map face) (r.freed.rest i b c ∙ r.wrote.rest i a);
  }
