-- An exchange keeps a net, but for the edges that it leaves open.
use Rattle.std.proofs.Common.{◌≡◌, ◌⊎◌, ℕ, Option, Some, sym, ◌∙◌, inl, inr, subst}
use Rattle.ground_model.specs.declared.corner.Corner.{Corner}
use Rattle.mesh.specs.Net.{Side, Edge, IsMet, IsNetBut}
use Rattle.mesh.proofs.Exchange.{Among, IsPaired, IsOuter, IsAgain, IsExchange}

module _ (IsOpen : Corner → Corner → Type 0) (ed new : ℕ → Side → Option Edge) (Kept : ℕ → Type 0) (Old New : ℕ → Side → Edge → Type 0) (net : IsNetBut (λ _ _. ⊥) ed) (x : IsExchange IsOpen ed new Kept Old New) where
  one_by : (s s' : ℕ) (k k' : Side) (e e' : Edge) → New s k e ⊎ (Kept s × (ed s k ≡ Some e)) → New s' k' e' ⊎ (Kept s' × (ed s' k' ≡ Some e')) → e.tail ≡ e'.tail → e.head ≡ e'.head → (s ≡ s') × (k ≡ k')
  one_by s s' k k' e e' (inl n) (inl m) t h = x.once s s' k k' e e' n m t h
  one_by s s' k k' e e' (inl n) (inr m) t h = absurd (x.fresh s s' k k' e e' n m.0 m.1 t h)
  one_by s s' k k' e e' (inr n) (inl m) t h = absurd (x.fresh s' s k' k e' e m n.0 n.1 (sym t) (sym h))
  one_by s s' k k' e e' (inr n) (inr m) t h = net.one s s' k k' e e' n.1 m.1 t h

  -- beyond a new edge
  met_new : (s : ℕ) (e : Edge) → IsPaired New e ⊎ IsOuter Old e → IsMet IsOpen new s e
  met_new s e (inl p) = record {
    slot = p.with.slot;
    side = p.with.side;
    edge = p.with.edge;
    there = x.new_is p.with.slot p.with.side p.with.edge p.with.in_it;
    back_tail = p.back_tail;
    back_head = p.back_head;
    same_count = p.same_count;
    next_is = λ _ _. p.next_is;
  }
  met_new s e (inr o) =
      let m = net.met o.was.slot o.was.side o.was.edge (x.old_is o.was.slot o.was.side o.was.edge o.was.in_it) in
      record {
        slot = m.slot;
        side = m.side;
        edge = m.edge;
        there = elim (x.stays m.slot m.side m.edge m.there) as (λ _. new m.slot m.side ≡ Some m.edge) [
          | inl r ↦ absurd (o.alone m.slot m.side m.edge r (m.back_tail ∙ o.same_head) (m.back_head ∙ o.same_tail))
          | inr r ↦ r.1
        ];
        back_tail = m.back_tail ∙ o.same_head;
        back_head = m.back_head ∙ o.same_tail;
        same_count = m.same_count ∙ o.same_count;
        next_is = λ _ _. o.next_is ∙ m.next_is (x.live o.was.slot o.was.side o.was.edge o.was.in_it) (λ b. b);
      }

  -- beyond an edge that stays: what stood there stays, or an old edge that is again one
  met_again : (s : ℕ) (k : Side) (e : Edge) → Kept s → ed s k ≡ Some e → (m : IsMet (λ _ _. ⊥) ed s e)
      → ((r : Among Old) × (r.edge.tail ≡ m.edge.head) × (r.edge.head ≡ m.edge.tail)) ⊎ IsAgain IsOpen New m.slot m.edge → IsMet IsOpen new s e
  met_again s k e kept there m (inl r) =
      let same = net.one r.0.slot s r.0.side k r.0.edge e (x.old_is r.0.slot r.0.side r.0.edge r.0.in_it) there (r.1 ∙ m.back_head) (r.2 ∙ m.back_tail) in
      absurd (x.apart r.0.slot r.0.side r.0.edge r.0.in_it (subst Kept (sym same.0) kept))
  met_again s k e kept there m (inr a) = record {
    slot = a.now.slot;
    side = a.now.side;
    edge = a.now.edge;
    there = x.new_is a.now.slot a.now.side a.now.edge a.now.in_it;
    back_tail = a.same_tail ∙ m.back_tail;
    back_head = a.same_head ∙ m.back_head;
    same_count = a.same_count ∙ m.same_count;
    next_is = λ live shut. elim a.place as (λ _. e.next ≡ a.now.slot) [
      | inl p ↦ m.next_is live (λ b. b) ∙ p
      | inr p ↦ absurd (shut (p e.tail e.head (sym m.back_head) (sym m.back_tail)))
    ];
  }

  met_kept : (s : ℕ) (k : Side) (e : Edge) → Kept s → ed s k ≡ Some e → (m : IsMet (λ _ _. ⊥) ed s e) → Old m.slot m.side m.edge ⊎ (Kept m.slot × (new m.slot m.side ≡ Some m.edge)) → IsMet IsOpen new s e
  met_kept s k e kept there m (inl o) = met_again s k e kept there m (x.again m.slot m.side m.edge o)
  met_kept s k e kept there m (inr o) = record {
    slot = m.slot;
    side = m.side;
    edge = m.edge;
    there = o.1;
    back_tail = m.back_tail;
    back_head = m.back_head;
    same_count = m.same_count;
    next_is = λ live _. m.next_is live (λ b. b);
  }

  met_by : (s : ℕ) (k : Side) (e : Edge) → New s k e ⊎ (Kept s × (ed s k ≡ Some e)) → IsMet IsOpen new s e
  met_by s k e (inl n) = met_new s e (x.parts s k e n)
  met_by s k e (inr n) = let m = net.met s k e n.1 in met_kept s k e n.0 n.1 m (x.stays m.slot m.side m.edge m.there)

  pub exchanged : IsNetBut IsOpen new
  exchanged = record {
    one = λ s s' k k' e e' there there' t h. one_by s s' k k' e e' (x.was s k e there) (x.was s' k' e' there') t h;
    met = λ s k e there. met_by s k e (x.was s k e there);
  }
