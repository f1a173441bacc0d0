-- The patch is laid in the slots that were taken for it, and its neighbours are turned: a mesh, with exactly the patch in place.
use Rattle.std.proofs.Common.{◌≡◌, ◌⊎◌, ◌≤◌, ◌^◌, ℕ, Option, Some, None, List, [], ◌∷◌, length, map, get_or, refl, sym, ap, ◌∙◌, inl, inr, subst}
use Rattle.std.specs.List.{slice_get}
use Rattle.std.specs.Option.{option_map}
use Rattle.std.proofs.lemmas.Bool.{cases_eq}
use Rattle.std.proofs.lemmas.List.{length-map}
use Rattle.std.proofs.lemmas.Option.{none-some, slice_get-map, slice_get_within}
use Rattle.ground_model.specs.declared.corner.Corner.{Corner}
use Rattle.ground_model.specs.declared.corner.Corner.TheVariants.{Far}
use Rattle.tri_pages.specs.declared.tri_slot.TriSlot.{TriSlot}
use Rattle.tri_pages.specs.Slots.{State, state_at, joined, blank, free}
use Rattle.mesh.specs.Corners.{Distinct}
use Rattle.mesh.specs.EdgeSearch.{IsEdgeAt, HasNone}
use Rattle.mesh.specs.Faces.{face, KeepsFaces}
use Rattle.mesh.specs.Installs.{patch_corner, patch_count, HasEdge, Fits, bare, IsInstalled}
use Rattle.mesh.specs.Laying.{Layout, LeadsInside, LeadsOutside, IsLead, IsLaid, IsLaying}
use Rattle.mesh.specs.Meshes.{corners_of, IsMesh}
use Rattle.mesh.specs.Net.{Side, after, place, Edge, edge, edge_of, edges_of, outside, slots_of, IsNetBut, OpenIn}
use Rattle.mesh.specs.SlotLists.{IsKept, IsTakingMany, IsGivingBack}
use Rattle.mesh.specs.Turning.{AreLedOn, IsTurnedAt}
use Rattle.mesh.specs.declared.patch.Patch.{Patch}
use Rattle.mesh.proofs.Filled.{Filled, kept_filled, mesh_of}
use Rattle.mesh.proofs.Installed.{OldEdge, NewEdge, KeptEdge, Laid, installed_net}
use Rattle.mesh.proofs.Lists.{get_at, is_in}
use Rattle.mesh.proofs.NamedEdges.{same_in}
use Rattle.mesh.proofs.OldTriangles.{old_real, old_at, old_as, old_slot}
use Rattle.mesh.proofs.Slots.{slot_in}
use Rattle.mesh.proofs.Turned.{LedFrom, led_from, led_to}
use Rattle.mesh.proofs.Unsplits.{free_in_mesh, no_face}

-- from the mesh `old` on, the old slots were given back (p1), others taken (p2), the patch was laid (p3), and its neighbours were turned (new)
pub record InstallRun (old p1 p2 p3 new : List State) (olds : List ℕ) (patch : List Patch) (lay : Layout) (front : ℕ) : Type 0 where
  pub mesh : IsMesh old
  pub fits : Fits old olds patch
  pub bare_is : lay.news ≡ map bare patch
  pub given : IsGivingBack old p1 olds lay.was (length olds)
  pub taking : IsTakingMany p1 p2 lay.slots
  pub many : length lay.slots ≡ length patch
  pub laying : IsLaying p2 p3 lay front (length lay.news)
  pub led : AreLedOn lay (edges_of (slots_of p3)) (edges_of (slots_of new))
  pub turned : (a b : Corner) → IsTurnedAt lay (edges_of (slots_of new)) a b
  pub kept : KeepsFaces p3 new

module _ (old p1 p2 p3 new : List State) (olds : List ℕ) (patch : List Patch) (lay : Layout) (front : ℕ) (r : InstallRun old p1 p2 p3 new olds patch lay front) where
  -- the new triangles are those of the patch
  news_at : (i : ℕ) (p : Patch) → slice_get patch i ≡ Some p → slice_get lay.news i ≡ Some (bare p)
  news_at i p e = ap (λ xs. slice_get xs i) r.bare_is ∙ slice_get-map bare patch i ∙ ap (option_map bare) e

  patch_at : (i : ℕ) (t : TriSlot) → slice_get lay.news i ≡ Some t → (p : Patch) × (slice_get patch i ≡ Some p) × (t ≡ bare p)
  patch_at i t e =
      let p = get_at lay.news patch i t e (sym (ap length r.bare_is ∙ length-map patch bare)) in
      (p.0, p.1, same_in t (bare p.0) (sym e ∙ news_at i p.0 p.1))

  abbrev as_has : (i : ℕ) (k : Side) (a b : Corner) → IsEdgeAt lay.news i k a b → HasEdge patch a b
  as_has i k a b x =
      let p = patch_at i x.tri x.there in
      record {
        index = i;
        tri = p.0;
        side = k;
        there = p.1;
        tail = ap (λ t. get_or t.corners (place k) (Far 0)) (sym p.2) ∙ x.tail;
        head = ap (λ t. get_or t.corners (place (after k)) (Far 0)) (sym p.2) ∙ x.head;
      }

  as_edge : (a b : Corner) (x : HasEdge patch a b) → IsEdgeAt lay.news x.index x.side a b
  as_edge a b x = record { tri = bare x.tri; there = news_at x.index x.tri x.there; tail = x.tail; head = x.head }

  inside_is : (a b : Corner) (n q : ℕ) → LeadsInside lay a b n → (x : HasEdge patch b a) → slice_get lay.slots x.index ≡ Some q → n ≡ q
  inside_is a b n q h x e =
      let same = r.fits.once b a (as_has h.index h.side b a h.is) x in
      same_in n q (sym h.slot ∙ ap (slice_get lay.slots) same.0 ∙ e)

  real : (i s : ℕ) → slice_get olds i ≡ Some s → s ≡ outside → ⊥
  real = old_real old p1 olds patch lay.was r.mesh r.fits r.given

  -- a slot that is none of the old ones and none that was taken is as before
  kept_state : (s : ℕ) → IsKept olds s → IsKept lay.slots s → state_at p3 s ≡ state_at old s
  kept_state s kept apart = r.laying.rest s (λ i _ e. apart i e) ∙ r.taking.rest s apart ∙ r.given.rest s (λ i _ e. kept i e)

  kept_at : (s : ℕ) → IsKept olds s → IsKept lay.slots s → slots_of p3 s ≡ slots_of old s
  kept_at s kept apart = elim (cases_eq s outside) as (λ _. slots_of p3 s ≡ slots_of old s) [
    | inl e ↦ subst (λ k. slots_of p3 k ≡ slots_of old k) (sym e) refl
    | inr ne ↦ slot_in p3 s ne ∙ ap joined (kept_state s kept apart) ∙ sym (slot_in old s ne)
  ]

  -- and a slot with a triangle that stays was not taken
  not_taken : (s : ℕ) (t : TriSlot) → IsKept olds s → slots_of old s ≡ Some t → IsKept lay.slots s
  not_taken s t kept h = λ i at.
      let empty : state_at old s ≡ free = sym (r.given.rest s (λ j _ e. kept j e)) ∙ r.taking.was_free i s at in
      none-some t (sym (ap joined empty) ∙ sym (slot_in old s (r.taking.live i s at)) ∙ h)

  of_edge : (o : Option TriSlot) (k : Side) (e : Edge) → edge_of o k ≡ Some e → (t : TriSlot) × (o ≡ Some t)
  of_edge None k e h = absurd (none-some e h)
  of_edge (Some t) k e h = (t, refl)

  -- an old slot that wasn't taken is free
  gone_state : (i s : ℕ) → slice_get olds i ≡ Some s → IsKept lay.slots s → state_at p3 s ≡ free
  gone_state i s at apart = r.laying.rest s (λ j _ e. apart j e) ∙ r.taking.rest s apart ∙ r.given.is_free i s (slice_get_within olds i s at) at

  gone_at : (i s : ℕ) → slice_get olds i ≡ Some s → IsKept lay.slots s → slots_of p3 s ≡ None
  gone_at i s at apart = slot_in p3 s (real i s at) ∙ ap joined (gone_state i s at apart)

  -- a slot that was taken has its triangle
  laid_at : (i s : ℕ) (p : Patch) → slice_get lay.slots i ≡ Some s → slice_get patch i ≡ Some p → IsLaid lay front p3 s (bare p)
  laid_at i s p at is = r.laying.laid i s (bare p) (slice_get_within lay.news i (bare p) (news_at i p is)) at (news_at i p is)

  holds_at : (i s : ℕ) (p : Patch) (at : slice_get lay.slots i ≡ Some s) (is : slice_get patch i ≡ Some p) → slots_of p3 s ≡ Some (laid_at i s p at is).tri
  holds_at i s p at is = slot_in p3 s (r.taking.live i s at) ∙ ap joined (laid_at i s p at is).holds

  stands : (i s : ℕ) (p : Patch) (k : Side) → slice_get lay.slots i ≡ Some s → slice_get patch i ≡ Some p → (f : Edge) × (edges_of (slots_of new) s k ≡ Some f) × (f.tail ≡ patch_corner p k) × (f.head ≡ patch_corner p (after k)) × (f.count ≡ patch_count p k)
  stands i s p k at is =
      let x = laid_at i s p at is in
      let f = led_to lay (edges_of (slots_of p3) s k) (edges_of (slots_of new) s k) (edge x.tri k) (ap (λ o. edge_of o k) (holds_at i s p at is)) (r.led s k) in (
        f.edge,
        f.is,
        f.led.same_tail ∙ ap (λ cs. get_or cs (place k) (Far 0)) x.led.corners,
        f.led.same_head ∙ ap (λ cs. get_or cs (place (after k)) (Far 0)) x.led.corners,
        f.led.same_count ∙ ap (λ cs. get_or cs (place k) 0) x.led.counts,
      )

  stays : (s : ℕ) (k : Side) (e : Edge) → IsKept olds s → edges_of (slots_of old) s k ≡ Some e → (f : Edge) × (edges_of (slots_of new) s k ≡ Some f) × (f.tail ≡ e.tail) × (f.head ≡ e.head) × (f.count ≡ e.count)
  stays s k e kept there =
      let t = of_edge (slots_of old s) k e there in
      let f = led_to lay (edges_of (slots_of p3) s k) (edges_of (slots_of new) s k) e (ap (λ o. edge_of o k) (kept_at s kept (not_taken s t.0 kept t.1)) ∙ there) (r.led s k) in
      (f.edge, f.is, f.led.same_tail, f.led.same_head, f.led.same_count)

  -- where a new edge's reverse isn't of the patch, an old triangle had the edge
  must_be_old : (a b : Corner) → HasEdge patch a b → (HasEdge patch b a → ⊥) → HasNone lay.was a b → ⊥
  must_be_old a b x none nowhere = elim (r.fits.closed a b x) as (λ _. ⊥) [
    | inl back ↦ none back.is
    | inr w ↦
        let m = r.mesh.net.met w.slot w.side w.edge w.there in
        elim (is_in olds m.slot) as (λ _. ⊥) [
          | inl j ↦ nowhere j.0 m.side (old_as old p1 olds patch lay.was r.mesh r.fits r.given j.0 m.side m.edge a b
              (old_at old p1 olds patch lay.was r.mesh r.fits r.given j.0 m.slot m.side m.edge j.1 m.there) (m.back_tail ∙ w.head) (m.back_head ∙ w.tail))
          | inr kept ↦ r.fits.fresh a b x m.slot m.side m.edge kept m.there (m.back_tail ∙ w.head) (m.back_head ∙ w.tail)
        ]
  ]

  -- what was beyond an edge of the patch
  as_old : (a b : Corner) (n : ℕ) → LeadsOutside lay.was a b n → OldEdge old olds a b n
  as_old a b n o =
      let s = old_slot old p1 olds patch lay.was r.mesh r.fits r.given o.index o.is.tri o.is.there in
      record {
        index = o.index;
        slot = s.0;
        side = o.side;
        edge = edge o.is.tri o.side;
        old_at = s.1;
        live = real o.index s.0 s.1;
        there = ap (λ x. edge_of x o.side) s.2;
        tail = o.is.tail;
        head = o.is.head;
        next_is = o.next_is;
      }

  in_by : (f : Edge) (n : ℕ) → LeadsInside lay f.tail f.head f.next ⊎ (f.next ≡ n) → IsLead lay f.tail f.head n → (q : ℕ) (x : HasEdge patch f.head f.tail) → slice_get lay.slots x.index ≡ Some q → f.next ≡ q
  in_by f n (inl h) lead q x e = inside_is f.tail f.head f.next q h x e
  in_by f n (inr same) (inl h) q x e = same ∙ inside_is f.tail f.head n q h x e
  in_by f n (inr same) (inr h) q x e = absurd (h.0 x.index x.side (as_edge f.head f.tail x))

  out_by : (f : Edge) (n : ℕ) → HasEdge patch f.tail f.head → LeadsInside lay f.tail f.head f.next ⊎ (f.next ≡ n) → IsLead lay f.tail f.head n → (HasEdge patch f.head f.tail → ⊥) → OldEdge old olds f.tail f.head f.next
  out_by f n x (inl h) lead none = absurd (none (as_has h.index h.side f.head f.tail h.is))
  out_by f n x (inr same) (inl h) none = absurd (none (as_has h.index h.side f.head f.tail h.is))
  out_by f n x (inr same) (inr h) none = elim h.1 as (λ _. OldEdge old olds f.tail f.head f.next) [
    | inl o ↦ subst (λ m. OldEdge old olds f.tail f.head m) (sym same) (as_old f.tail f.head n o)
    | inr nowhere ↦ absurd (must_be_old f.tail f.head x none nowhere)
  ]

  new_edge : (i s : ℕ) (k : Side) (f : Edge) → slice_get lay.slots i ≡ Some s → edges_of (slots_of new) s k ≡ Some f → NewEdge old olds patch lay.slots s k f
  new_edge i s k f at there =
      let p = get_at lay.slots patch i s at (sym r.many) in
      let x = laid_at i s p.0 at p.1 in
      let b = led_from lay (edges_of (slots_of p3) s k) (edges_of (slots_of new) s k) f there (r.led s k) in
      let same : edge x.tri k ≡ b.edge = same_in (edge x.tri k) b.edge (sym (ap (λ o. edge_of o k) (holds_at i s p.0 at p.1)) ∙ b.is) in
      let tail : f.tail ≡ patch_corner p.0 k = b.led.same_tail ∙ sym (ap (λ e. e.tail) same) ∙ ap (λ cs. get_or cs (place k) (Far 0)) x.led.corners in
      let head : f.head ≡ patch_corner p.0 (after k) = b.led.same_head ∙ sym (ap (λ e. e.head) same) ∙ ap (λ cs. get_or cs (place (after k)) (Far 0)) x.led.corners in
      let lead : IsLead lay f.tail f.head b.edge.next = subst (λ z. z) (λ j. IsLead lay (sym tail j) (sym head j) (same j).next) (x.led.leads k) in
      record {
        index = i;
        tri = p.0;
        slot_at = at;
        tri_at = p.1;
        tail = tail;
        head = head;
        count = b.led.same_count ∙ sym (ap (λ e. e.count) same) ∙ ap (λ cs. get_or cs (place k) 0) x.led.counts;
        leads_in = in_by f b.edge.next b.led.beyond lead;
        leads_out = out_by f b.edge.next record { index = i; tri = p.0; side = k; there = p.1; tail = sym tail; head = sym head } b.led.beyond lead;
      }

  -- an edge that stays, and that the patch has the other way, was turned
  turned_in : (s : ℕ) (k : Side) (e f : Edge) → edges_of (slots_of old) s k ≡ Some e → edges_of (slots_of new) s k ≡ Some f → f.tail ≡ e.tail → f.head ≡ e.head → (s ≡ outside → ⊥) → (q : ℕ) (x : HasEdge patch f.head f.tail) → slice_get lay.slots x.index ≡ Some q
      → f.next ≡ q
  turned_in s k e f there now t h live q x at =
      let m = r.mesh.net.met s k e there in
      let m_tail : m.edge.tail ≡ f.head = m.back_tail ∙ sym h in
      let m_head : m.edge.head ≡ f.tail = m.back_head ∙ sym t in
      elim (is_in olds m.slot) as (λ _. f.next ≡ q) [
        | inl j ↦
            let y = old_at old p1 olds patch lay.was r.mesh r.fits r.given j.0 m.slot m.side m.edge j.1 m.there in
            let b = r.mesh.net.met m.slot m.side m.edge m.there in
            let back = r.mesh.net.one b.slot s b.side k b.edge e b.there there (b.back_tail ∙ m.back_head) (b.back_head ∙ m.back_tail) in
            let at_s : m.edge.next ≡ s = b.next_is (real j.0 m.slot j.1) (λ z. z) ∙ back.0 in
            let leads = r.turned f.head f.tail x.index j.0 x.side m.side (as_edge f.head f.tail x) (old_as old p1 olds patch lay.was r.mesh r.fits r.given j.0 m.side m.edge f.head f.tail y m_tail m_head)
            s k f (sym (ap (λ z. z.next) y.is ∙ at_s)) live now refl refl in
            inside_is f.tail f.head f.next q leads x at
        | inr kept ↦ absurd (r.fits.fresh f.head f.tail x m.slot m.side m.edge kept m.there m_tail m_head)
      ]

  kept_edge : (s : ℕ) (k : Side) (f : Edge) → IsKept lay.slots s → edges_of (slots_of new) s k ≡ Some f → LedFrom lay (edges_of (slots_of p3) s k) f → KeptEdge old olds patch lay.slots s k f
  kept_edge s k f apart there b = elim (is_in olds s) as (λ _. KeptEdge old olds patch lay.slots s k f) [
    | inl j ↦ absurd (none-some b.edge (sym (ap (λ o. edge_of o k) (gone_at j.0 s j.1 apart)) ∙ b.is))
    | inr kept ↦
        let was : edges_of (slots_of old) s k ≡ Some b.edge = ap (λ o. edge_of o k) (sym (kept_at s kept apart)) ∙ b.is in
        record {
          kept = kept;
          edge = b.edge;
          there = was;
          tail = b.led.same_tail;
          head = b.led.same_head;
          count = b.led.same_count;
          leads_in = turned_in s k b.edge f was there b.led.same_tail b.led.same_head;
          leads_out = λ none. elim b.led.beyond as (λ _. f.next ≡ b.edge.next) [
            | inl h ↦ absurd (none (as_has h.index h.side f.head f.tail h.is))
            | inr same ↦ same
          ];
        }
  ]

  laid : Laid old olds patch lay.slots new
  laid = record {
    placed = λ i p e. get_at patch lay.slots i p e r.many;
    apart = r.taking.apart;
    stands = stands;
    stays = stays;
    was = λ s k f there. elim (is_in lay.slots s) as (λ _. NewEdge old olds patch lay.slots s k f ⊎ KeptEdge old olds patch lay.slots s k f) [
      | inl i ↦ inl (new_edge i.0 s k f i.1 there)
      | inr apart ↦ inr (kept_edge s k f apart there (led_from lay (edges_of (slots_of p3) s k) (edges_of (slots_of new) s k) f there (r.led s k)))
    ];
  }

  net : IsNetBut (OpenIn []) (edges_of (slots_of new))
  net = installed_net old olds patch lay.slots new r.mesh.net r.fits laid

  distinct_new : (i s : ℕ) (t : TriSlot) → slice_get lay.slots i ≡ Some s → slots_of p3 s ≡ Some t → Distinct (corners_of t)
  distinct_new i s t at h =
      let p = get_at lay.slots patch i s at (sym r.many) in
      let x = laid_at i s p.0 at p.1 in
      let same : x.tri ≡ t = same_in x.tri t (sym (holds_at i s p.0 at p.1) ∙ h) in
      subst (λ cs. Distinct (get_or cs 0 (Far 0) ∷ get_or cs 1 (Far 0) ∷ get_or cs 2 (Far 0) ∷ [])) (sym x.led.corners ∙ ap (λ y. y.corners) same) (r.fits.distinct i p.0 p.1)

  whole_new : (i s : ℕ) → slice_get lay.slots i ≡ Some s → state_at p3 s ≡ blank → ⊥
  whole_new i s at e =
      let p = get_at lay.slots patch i s at (sym r.many) in
      let x = laid_at i s p.0 at p.1 in
      none-some x.tri (sym (ap joined e) ∙ ap joined x.holds)

  filled : Filled p3
  filled = record {
    distinct = λ s t h. elim (is_in lay.slots s) as (λ _. Distinct (corners_of t)) [
      | inl i ↦ distinct_new i.0 s t i.1 h
      | inr apart ↦ elim (is_in olds s) as (λ _. Distinct (corners_of t)) [
        | inl j ↦ absurd (none-some t (sym (gone_at j.0 s j.1 apart) ∙ h))
        | inr kept ↦ r.mesh.distinct s t (sym (kept_at s kept apart) ∙ h)
      ]
    ];
    whole = λ s e. elim (is_in lay.slots s) as (λ _. ⊥) [
      | inl i ↦ whole_new i.0 s i.1 e
      | inr apart ↦ elim (is_in olds s) as (λ _. ⊥) [
        | inl j ↦ none-some None (sym (gone_state j.0 s j.1 apart) ∙ e)
        | inr kept ↦ r.mesh.whole s (sym (kept_state s kept apart) ∙ e)
      ]
    ];
    few = subst (λ n. n ≤ 2 ^ 30) (sym r.laying.same_length) r.taking.few;
  }

  pub install_mesh : IsMesh new
  install_mesh = mesh_of new net (kept_filled p3 new r.kept filled)

  pub install_is : IsInstalled old new olds patch front
  install_is = record {
    slots = lay.slots;
    as_many = r.many;
    apart = r.taking.apart;
    placed = λ i s p at is.
        let x = laid_at i s p at is in
        r.kept.faces s ∙ ap (option_map face) (holds_at i s p at is) ∙ ap Some (λ j. record { corners = x.led.corners j; counts = x.led.counts j; stamp = x.led.stamp j });
    gone = λ i s at apart. free_in_mesh new s (real i s at) install_mesh (no_face (slots_of new s) (r.kept.faces s ∙ ap (option_map face) (gone_at i s at apart)));
    rest = λ s kept apart. r.kept.faces s ∙ ap (option_map face) (kept_at s kept apart);
  }
