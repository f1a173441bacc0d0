-- A patch is an exchange.
use Rattle.std.proofs.Common.{◌≡◌, ◌⊎◌, ℕ, Option, Some, None, List, [], ◌∷◌, refl, sym, ap, ◌∙◌, inl, inr, subst}
use Rattle.std.specs.List.{slice_get}
use Rattle.std.proofs.lemmas.Bool.{cases_eq}
use Rattle.std.proofs.lemmas.Option.{none-some}
use Rattle.ground_model.specs.declared.corner.Corner.{Corner}
use Rattle.tri_pages.specs.declared.tri_slot.TriSlot.{TriSlot}
use Rattle.mesh.specs.Net.{Side, after, Edge, edge, edge_of, edges_of, outside, IsNetBut, OpenIn}
use Rattle.mesh.proofs.Exchange.{Among, IsPaired, IsOuter, IsAgain, IsExchange}
use Rattle.mesh.proofs.Shape.{Piece, Named, edges_in, find, AllIn, In, SlotIn, SlotApart, IsNamed, PartOuter, Part, AgainIn, Again, Fresh, Stands, IsPatch}
use Rattle.mesh.proofs.Exchanged.{exchanged}
use Rattle.mesh.proofs.NamedEdges.{all_at, same_in, found, not_found, one_number}
use Rattle.mesh.proofs.Sides.{around, itself, one_on, two_on}

-- an edge of a piece, with its numbers
pub record Of (ps : List Piece) (s : ℕ) (k : Side) (e : Edge) : Type 0 where
  pub named : Named
  pub in_it : In named (edges_in ps)
  pub slot_is : s ≡ named.slot
  pub side_is : k ≡ named.side
  pub edge_is : e ≡ named.edge

further : (p : Piece) (ps : List Piece) (s : ℕ) (k : Side) (e : Edge) → Of ps s k e → Of (p ∷ ps) s k e
further p ps s k e o = record { named = o.named; in_it = inr (inr (inr o.in_it)); slot_is = o.slot_is; side_is = o.side_is; edge_is = o.edge_is }

-- each edge of the piece in a slot is one of the edges
pub of_piece : (ps : List Piece) (at : ℕ → Option TriSlot) (s : ℕ) (k : Side) (e : Edge) → AllIn (Stands at) ps → SlotIn s ps → edges_of at s k ≡ Some e → Of ps s k e
of_piece [] at s k e a i there = absurd i
of_piece (p ∷ ps) at s k e a (inr i) there = further p ps s k e (of_piece ps at s k e a.1 i there)
of_piece (p ∷ ps) at s k e a (inl i) there =
    let is : edge p.tri k ≡ e = same_in (edge p.tri k) e (sym (ap (λ o. edge_of o k) (ap at i ∙ a.0)) ∙ there) in
    elim (around p.base k) as (λ _. Of (p ∷ ps) s k e) [
      | itself y ↦ record { named = record { slot = p.slot; side = p.base; tail = p.a; head = p.b; edge = edge p.tri p.base }; in_it = inl refl; slot_is = i; side_is = y; edge_is = sym is ∙ ap (edge p.tri) y }
      | one_on y ↦ record { named = record { slot = p.slot; side = after p.base; tail = p.b; head = p.c; edge = edge p.tri (after p.base) }; in_it = inr (inl refl); slot_is = i; side_is = y; edge_is = sym is ∙ ap (edge p.tri) y }
      | two_on y ↦ record { named = record { slot = p.slot; side = after (after p.base); tail = p.c; head = p.a; edge = edge p.tri (after (after p.base)) }; in_it = inr (inr (inl refl)); slot_is = i; side_is = y; edge_is = sym is ∙ ap (edge p.tri) y }
    ]

-- and stands there
pub record Standing (ps : List Piece) (at : ℕ → Option TriSlot) (l : Named) : Type 0 where
  pub there : edges_of at l.slot l.side ≡ Some l.edge
  pub slot_in : SlotIn l.slot ps

stand_one : (p : Piece) (ps : List Piece) (at : ℕ → Option TriSlot) (k : Side) (l : Named) → at p.slot ≡ Some p.tri → l.slot ≡ p.slot → l.side ≡ k → l.edge ≡ edge p.tri k → Standing (p ∷ ps) at l
stand_one p ps at k l h s y e = record { there = ap (λ i. edge_of (at i) l.side) s ∙ ap (λ o. edge_of o l.side) h ∙ ap (λ x. Some (edge p.tri x)) y ∙ ap Some (sym e); slot_in = inl s }

pub standing : (ps : List Piece) (at : ℕ → Option TriSlot) (l : Named) → AllIn (Stands at) ps → In l (edges_in ps) → Standing ps at l
standing [] at l a i = absurd i
standing (p ∷ ps) at l a (inl e) = stand_one p ps at p.base l a.0 (ap (λ z. z.slot) e) (ap (λ z. z.side) e) (ap (λ z. z.edge) e)
standing (p ∷ ps) at l a (inr (inl e)) = stand_one p ps at (after p.base) l a.0 (ap (λ z. z.slot) e) (ap (λ z. z.side) e) (ap (λ z. z.edge) e)
standing (p ∷ ps) at l a (inr (inr (inl e))) = stand_one p ps at (after (after p.base)) l a.0 (ap (λ z. z.slot) e) (ap (λ z. z.side) e) (ap (λ z. z.edge) e)
standing (p ∷ ps) at l a (inr (inr (inr i))) = let r = standing ps at l a.1 i in record { there = r.there; slot_in = inr r.slot_in }

pub slot_cases : (s : ℕ) (ps : List Piece) → SlotIn s ps ⊎ SlotApart s ps
slot_cases s [] = inr tt
slot_cases s (p ∷ ps) = elim (cases_eq s p.slot) as (λ _. SlotIn s (p ∷ ps) ⊎ SlotApart s (p ∷ ps)) [
  | inl e ↦ inl (inl e)
  | inr ne ↦ elim (slot_cases s ps) as (λ _. SlotIn s (p ∷ ps) ⊎ SlotApart s (p ∷ ps)) [
    | inl i ↦ inl (inr i)
    | inr n ↦ inr (ne, n)
  ]
]

pub in_and_apart : (s : ℕ) (ps : List Piece) → SlotIn s ps → SlotApart s ps → ⊥
in_and_apart s [] i n = i
in_and_apart s (p ∷ ps) (inl e) n = n.0 e
in_and_apart s (p ∷ ps) (inr i) n = in_and_apart s ps i n.1

-- a slot of some pieces that is of no others is empty in the other state
pub empty_at : (ps qs : List Piece) (at : ℕ → Option TriSlot) (s : ℕ) → AllIn (λ p. SlotIn p.slot qs ⊎ (at p.slot ≡ None)) ps → SlotIn s ps → SlotApart s qs → at s ≡ None
empty_at [] qs at s a i n = absurd i
empty_at (p ∷ ps) qs at s a (inr i) n = empty_at ps qs at s a.1 i n
empty_at (p ∷ ps) qs at s a (inl e) n = elim a.0 as (λ _. at s ≡ None) [
  | inl i ↦ absurd (in_and_apart s qs (subst (λ i. SlotIn i qs) (sym e) i) n)
  | inr h ↦ ap at e ∙ h
]

pub live_at : (ps : List Piece) (s : ℕ) → AllIn (λ p. p.slot ≡ outside → ⊥) ps → SlotIn s ps → s ≡ outside → ⊥
live_at [] s a i o = i
live_at (p ∷ ps) s a (inl e) o = a.0 (sym e ∙ o)
live_at (p ∷ ps) s a (inr i) o = live_at ps s a.1 i o

module _ (cs : List Corner) (opens : List (Corner × Corner)) (at new : ℕ → Option TriSlot) (olds news : List Piece) (net : IsNetBut (λ _ _. ⊥) (edges_of at)) (p : IsPatch cs opens at new olds news) where
  abbrev Kept : ℕ → Type 0
  Kept s = SlotApart s olds × SlotApart s news

  old_is : (s : ℕ) (k : Side) (e : Edge) → Of olds s k e → edges_of at s k ≡ Some e
  old_is s k e o = ap (λ i. edges_of at i k) o.slot_is ∙ ap (edges_of at o.named.slot) o.side_is ∙ (standing olds at o.named p.olds_stand o.in_it).there ∙ ap Some (sym o.edge_is)

  new_is : (s : ℕ) (k : Side) (e : Edge) → Of news s k e → edges_of new s k ≡ Some e
  new_is s k e o = ap (λ i. edges_of new i k) o.slot_is ∙ ap (edges_of new o.named.slot) o.side_is ∙ (standing news new o.named p.news_stand o.in_it).there ∙ ap Some (sym o.edge_is)

  stays : (s : ℕ) (k : Side) (e : Edge) → edges_of at s k ≡ Some e → Of olds s k e ⊎ (Kept s × (edges_of new s k ≡ Some e))
  stays s k e h = elim (slot_cases s olds) as (λ _. Of olds s k e ⊎ (Kept s × (edges_of new s k ≡ Some e))) [
    | inl i ↦ inl (of_piece olds at s k e p.olds_stand i h)
    | inr n ↦ elim (slot_cases s news) as (λ _. Of olds s k e ⊎ (Kept s × (edges_of new s k ≡ Some e))) [
      | inl i ↦ absurd (none-some e (sym (ap (λ o. edge_of o k) (empty_at news olds at s p.came i n)) ∙ h))
      | inr m ↦ inr ((n, m), ap (λ o. edge_of o k) (p.rest s n m) ∙ h)
    ]
  ]

  was : (s : ℕ) (k : Side) (e : Edge) → edges_of new s k ≡ Some e → Of news s k e ⊎ (Kept s × (edges_of at s k ≡ Some e))
  was s k e h = elim (slot_cases s news) as (λ _. Of news s k e ⊎ (Kept s × (edges_of at s k ≡ Some e))) [
    | inl i ↦ inl (of_piece news new s k e p.news_stand i h)
    | inr n ↦ elim (slot_cases s olds) as (λ _. Of news s k e ⊎ (Kept s × (edges_of at s k ≡ Some e))) [
      | inl i ↦ absurd (none-some e (sym (ap (λ o. edge_of o k) (empty_at olds news new s p.gone i n)) ∙ h))
      | inr m ↦ inr ((m, n), sym (ap (λ o. edge_of o k) (p.rest s m n)) ∙ h)
    ]
  ]

  apart : (s : ℕ) (k : Side) (e : Edge) → Of olds s k e → Kept s → ⊥
  apart s k e o n = in_and_apart s olds (subst (λ i. SlotIn i olds) (sym o.slot_is) (standing olds at o.named p.olds_stand o.in_it).slot_in) n.0

  live : (s : ℕ) (k : Side) (e : Edge) → Of olds s k e → s ≡ outside → ⊥
  live s k e o = live_at olds s p.olds_live (subst (λ i. SlotIn i olds) (sym o.slot_is) (standing olds at o.named p.olds_stand o.in_it).slot_in)

  -- names
  same_number : (i j : ℕ) (c d : Corner) → slice_get cs i ≡ Some c → slice_get cs j ≡ Some d → c ≡ d → i ≡ j
  same_number i j c d e f same = one_number cs i j c d p.distinct e f same

  same_corner : (i j : ℕ) (c d : Corner) → slice_get cs i ≡ Some c → slice_get cs j ≡ Some d → i ≡ j → c ≡ d
  same_corner i j c d e f same = same_in c d (sym e ∙ ap (slice_get cs) same ∙ f)

  new_name : (l : Named) → In l (edges_in news) → IsNamed cs l
  new_name l i = all_at (IsNamed cs) (edges_in news) l p.news_named i

  old_name : (l : Named) → In l (edges_in olds) → IsNamed cs l
  old_name l i = all_at (IsNamed cs) (edges_in olds) l p.olds_named i

  abbrev as_new : (l : Named) → In l (edges_in news) → Among (Of news)
  as_new l i = record { slot = l.slot; side = l.side; edge = l.edge; in_it = record { named = l; in_it = i; slot_is = refl; side_is = refl; edge_is = refl } }

  abbrev as_old : (l : Named) → In l (edges_in olds) → Among (Of olds)
  as_old l i = record { slot = l.slot; side = l.side; edge = l.edge; in_it = record { named = l; in_it = i; slot_is = refl; side_is = refl; edge_is = refl } }

  once : (s s' : ℕ) (k k' : Side) (e e' : Edge) → Of news s k e → Of news s' k' e' → e.tail ≡ e'.tail → e.head ≡ e'.head → (s ≡ s') × (k ≡ k')
  once s s' k k' e e' o o' t h =
      let n = new_name o.named o.in_it in
      let n' = new_name o'.named o'.in_it in
      let a = same_number o.named.tail o'.named.tail o.named.edge.tail o'.named.edge.tail n.0 n'.0 (ap (λ z. z.tail) (sym o.edge_is) ∙ t ∙ ap (λ z. z.tail) o'.edge_is) in
      let b = same_number o.named.head o'.named.head o.named.edge.head o'.named.edge.head n.1 n'.1 (ap (λ z. z.head) (sym o.edge_is) ∙ h ∙ ap (λ z. z.head) o'.edge_is) in
      let one = all_at (λ l. find l.tail l.head (edges_in news) ≡ Some l) (edges_in news) o.named p.once o.in_it in
      let two = all_at (λ l. find l.tail l.head (edges_in news) ≡ Some l) (edges_in news) o'.named p.once o'.in_it in
      let same : o.named ≡ o'.named = same_in o.named o'.named (sym one ∙ (λ i. find (a i) (b i) (edges_in news)) ∙ two) in
      (o.slot_is ∙ ap (λ z. z.slot) same ∙ sym o'.slot_is, o.side_is ∙ ap (λ z. z.side) same ∙ sym o'.side_is)

  fresh_by : (l : Named) (r : Option Named) → In l (edges_in news) → find l.tail l.head (edges_in olds) ≡ r → Fresh (edges_of at) l r
      → (s : ℕ) (k : Side) (e : Edge) → Kept s → edges_of at s k ≡ Some e → e.tail ≡ l.edge.tail → e.head ≡ l.edge.head → ⊥
  fresh_by l None i f none s k e kept there t h = none s k e there t h
  fresh_by l (Some o) i f _ s k e kept there t h =
      let g = found (edges_in olds) l.tail l.head o f in
      let n = new_name l i in
      let m = old_name o g.in_it in
      let same = net.one s o.slot k o.side e o.edge there (standing olds at o p.olds_stand g.in_it).there
      (t ∙ same_corner l.tail o.tail l.edge.tail o.edge.tail n.0 m.0 (sym g.tail))
      (h ∙ same_corner l.head o.head l.edge.head o.edge.head n.1 m.1 (sym g.head)) in
      in_and_apart s olds (subst (λ i. SlotIn i olds) (sym same.0) (standing olds at o p.olds_stand g.in_it).slot_in) kept.0

  fresh : (s s' : ℕ) (k k' : Side) (e e' : Edge) → Of news s k e → Kept s' → edges_of at s' k' ≡ Some e' → e.tail ≡ e'.tail → e.head ≡ e'.head → ⊥
  fresh s s' k k' e e' o kept there t h =
      fresh_by o.named (find o.named.tail o.named.head (edges_in olds)) o.in_it refl
      (all_at (λ l. Fresh (edges_of at) l (find l.tail l.head (edges_in olds))) (edges_in news) o.named p.fresh o.in_it)
      s' k' e' kept there (sym t ∙ ap (λ z. z.tail) o.edge_is) (sym h ∙ ap (λ z. z.head) o.edge_is)

  outer_by : (l : Named) (r : Option Named) → In l (edges_in news) → find l.tail l.head (edges_in olds) ≡ r → PartOuter l r (find l.head l.tail (edges_in olds)) → IsOuter (Of olds) l.edge
  outer_by l None i f q = absurd q
  outer_by l (Some o) i f q =
      let g = found (edges_in olds) l.tail l.head o f in
      let n = new_name l i in
      let m = old_name o g.in_it in
      record {
        was = as_old o g.in_it;
        same_tail = same_corner o.tail l.tail o.edge.tail l.edge.tail m.0 n.0 g.tail;
        same_head = same_corner o.head l.head o.edge.head l.edge.head m.1 n.1 g.head;
        same_count = q.0;
        next_is = q.1;
        alone = λ s k e r t h.
            let z = old_name r.named r.in_it in
            not_found (edges_in olds) l.head l.tail r.named q.2 r.in_it
            (same_number r.named.tail l.head r.named.edge.tail l.edge.head z.0 n.1 (ap (λ y. y.tail) (sym r.edge_is) ∙ t))
            (same_number r.named.head l.tail r.named.edge.head l.edge.tail z.1 n.0 (ap (λ y. y.head) (sym r.edge_is) ∙ h));
      }

  part_by : (l : Named) (r : Option Named) → In l (edges_in news) → find l.head l.tail (edges_in news) ≡ r → Part (edges_in news) (edges_in olds) l r → IsPaired (Of news) l.edge ⊎ IsOuter (Of olds) l.edge
  part_by l None i f q = inr (outer_by l (find l.tail l.head (edges_in olds)) i refl q)
  part_by l (Some m) i f q =
      let g = found (edges_in news) l.head l.tail m f in
      let n = new_name l i in
      let z = new_name m g.in_it in
      inl record {
        with = as_new m g.in_it;
        back_tail = same_corner m.tail l.head m.edge.tail l.edge.head z.0 n.1 g.tail;
        back_head = same_corner m.head l.tail m.edge.head l.edge.tail z.1 n.0 g.head;
        same_count = q.0;
        next_is = q.1;
      }

  parts : (s : ℕ) (k : Side) (e : Edge) → Of news s k e → IsPaired (Of news) e ⊎ IsOuter (Of olds) e
  parts s k e o = subst (λ x. IsPaired (Of news) x ⊎ IsOuter (Of olds) x) (sym o.edge_is)
      (part_by o.named (find o.named.head o.named.tail (edges_in news)) o.in_it refl
      (all_at (λ l. Part (edges_in news) (edges_in olds) l (find l.head l.tail (edges_in news))) (edges_in news) o.named p.parts o.in_it))

  open_at : (ps : List (Corner × Corner)) (a b c d : Corner) → OpenIn ps a b → c ≡ a → d ≡ b → OpenIn ps c d
  open_at ps a b c d o e f = subst (λ x. OpenIn ps x d) (sym e) (subst (λ y. OpenIn ps a y) (sym f) o)

  again_in : (o : Named) (r : Option Named) → In o (edges_in olds) → find o.tail o.head (edges_in news) ≡ r → AgainIn opens o r → IsAgain (OpenIn opens) (Of news) o.slot o.edge
  again_in o None i f q = absurd q
  again_in o (Some l) i f q =
      let g = found (edges_in news) o.tail o.head l f in
      let n = old_name o i in
      let z = new_name l g.in_it in
      record {
        now = as_new l g.in_it;
        same_tail = same_corner l.tail o.tail l.edge.tail o.edge.tail z.0 n.0 g.tail;
        same_head = same_corner l.head o.head l.edge.head o.edge.head z.1 n.1 g.head;
        same_count = q.0;
        place = elim q.1 as (λ _. (o.slot ≡ l.slot) ⊎ ((a b : Corner) → a ≡ o.edge.head → b ≡ o.edge.tail → OpenIn opens a b)) [
          | inl e ↦ inl e
          | inr y ↦ inr (λ a b u v. open_at opens o.edge.head o.edge.tail a b y u v)
        ];
      }

  again_by : (o : Named) (r : Option Named) → In o (edges_in olds) → find o.head o.tail (edges_in olds) ≡ r → Again opens (edges_in news) o r
      → ((r : Among (Of olds)) × (r.edge.tail ≡ o.edge.head) × (r.edge.head ≡ o.edge.tail)) ⊎ IsAgain (OpenIn opens) (Of news) o.slot o.edge
  again_by o None i f q = inr (again_in o (find o.tail o.head (edges_in news)) i refl q)
  again_by o (Some r) i f q =
      let g = found (edges_in olds) o.head o.tail r f in
      let n = old_name o i in
      let z = old_name r g.in_it in
      inl (as_old r g.in_it, same_corner r.tail o.head r.edge.tail o.edge.head z.0 n.1 g.tail, same_corner r.head o.tail r.edge.head o.edge.tail z.1 n.0 g.head)

  again : (s : ℕ) (k : Side) (e : Edge) → Of olds s k e → ((r : Among (Of olds)) × (r.edge.tail ≡ e.head) × (r.edge.head ≡ e.tail)) ⊎ IsAgain (OpenIn opens) (Of news) s e
  again s k e o = subst (λ x. ((r : Among (Of olds)) × (r.edge.tail ≡ x.head) × (r.edge.head ≡ x.tail)) ⊎ IsAgain (OpenIn opens) (Of news) s x) (sym o.edge_is)
      (subst (λ i. ((r : Among (Of olds)) × (r.edge.tail ≡ o.named.edge.head) × (r.edge.head ≡ o.named.edge.tail)) ⊎ IsAgain (OpenIn opens) (Of news) i o.named.edge) (sym o.slot_is)
      (again_by o.named (find o.named.head o.named.tail (edges_in olds)) o.in_it refl
      (all_at (λ l. Again opens (edges_in news) l (find l.head l.tail (edges_in olds))) (edges_in olds) o.named p.again o.in_it)))

  is_exchange : IsExchange (OpenIn opens) (edges_of at) (edges_of new) Kept (Of olds) (Of news)
  is_exchange = record { old_is = old_is; new_is = new_is; stays = stays; was = was; apart = apart; live = live; once = once; fresh = fresh; parts = parts; again = again }

  -- the step: a net with the neighbours still to be turned
  pub patched : IsNetBut (OpenIn opens) (edges_of new)
  patched = exchanged (OpenIn opens) (edges_of at) (edges_of new) Kept (Of olds) (Of news) net is_exchange
