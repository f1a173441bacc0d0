-- An open edge is closed by a redirection.
use Rattle.std.proofs.Common.{◌≡◌, ℕ, Option, Some, None, List, ◌∷◌, refl, sym, ◌∙◌, inl, inr, subst}
use Rattle.ground_model.specs.declared.corner.Corner.{Corner}
use Rattle.mesh.specs.Net.{Side, Edge, outside, IsMet, IsNetBut, OpenIn}
use Rattle.mesh.specs.Redirects.{IsTurned, Turned, IsRedirected}

-- the slot q has the reverse of the edge from p to r, and beyond it is m
pub record IsHolder (ps : List (Corner × Corner)) (m q : ℕ) (p r : Corner) (ed : ℕ → Side → Option Edge) : Type 0 where
  pub side : Side
  pub edge : Edge
  pub there : ed q side ≡ Some edge
  pub tail_is : edge.tail ≡ r
  pub head_is : edge.head ≡ p
  pub next_is : edge.next ≡ m
  pub live : q ≡ outside → ⊥
  pub shut : OpenIn ps r p → ⊥

-- what an edge was, and what it is
record Pair (m q s : ℕ) (p r : Corner) (o : Option Edge) (f : Edge) : Type 0 where
  edge : Edge
  is : o ≡ Some edge
  turned : IsTurned m q s p r edge f

before : (m q s : ℕ) (p r : Corner) (o n : Option Edge) (f : Edge) → n ≡ Some f → Turned m q p r s o n → Pair m q s p r o f
before m q s p r None n f e t = absurd (subst (λ x. Turned m q p r s None x) e t)
before m q s p r (Some g) n f e t = record { edge = g; is = refl; turned = subst (λ x. Turned m q p r s (Some g) x) e t }

record Now (m q s : ℕ) (p r : Corner) (n : Option Edge) (e : Edge) : Type 0 where
  edge : Edge
  is : n ≡ Some edge
  turned : IsTurned m q s p r e edge

then : (m q s : ℕ) (p r : Corner) (o n : Option Edge) (e : Edge) → o ≡ Some e → Turned m q p r s o n → Now m q s p r n e
then m q s p r o None e h t = absurd (subst (λ x. Turned m q p r s x None) h t)
then m q s p r o (Some g) e h t = record { edge = g; is = refl; turned = subst (λ x. Turned m q p r s x (Some g)) h t }

module _ (ps : List (Corner × Corner)) (m q : ℕ) (p r : Corner) (ed new : ℕ → Side → Option Edge) (net : IsNetBut (OpenIn ((p, r) ∷ ps)) ed) (x : IsRedirected m q p r ed new) (h : IsHolder ((p, r) ∷ ps) m q p r ed) where
  next_by : (s : ℕ) (k : Side) (e f : Edge) → ed s k ≡ Some e → (t : IsMet (OpenIn ((p, r) ∷ ps)) ed s e) → IsTurned m q s p r e f → (s ≡ outside → ⊥) → (OpenIn ps e.tail e.head → ⊥) → f.next ≡ t.slot
  next_by s k e f there t w live shut = elim w.beyond as (λ _. f.next ≡ t.slot) [
    | inl b ↦
        let same = net.one q t.slot h.side t.side h.edge t.edge h.there t.there (h.tail_is ∙ sym b.1 ∙ sym t.back_tail) (h.head_is ∙ sym b.0 ∙ sym t.back_head) in
        b.2 ∙ same.0
    | inr b ↦ b.1 ∙ t.next_is live (λ o. elim o as (λ _. ⊥) [
      | inl y ↦
          let g = net.met q h.side h.edge h.there in
          let is : h.edge.next ≡ g.slot = g.next_is h.live (λ z. h.shut (open_as (h.tail_is) (h.head_is) z)) in
          let same = net.one s g.slot k g.side e g.edge there g.there (y.0 ∙ sym h.head_is ∙ sym g.back_tail) (y.1 ∙ sym h.tail_is ∙ sym g.back_head) in
          let at_m : s ≡ m = same.0 ∙ sym is ∙ h.next_is in
          b.0 at_m (λ z. live (at_m ∙ z)) y.0 y.1
      | inr y ↦ shut y
    ])
  ]
    where
      open_as : h.edge.tail ≡ r → h.edge.head ≡ p → OpenIn ((p, r) ∷ ps) h.edge.tail h.edge.head → OpenIn ((p, r) ∷ ps) r p
      open_as e f z = subst (λ c. OpenIn ((p, r) ∷ ps) c p) e (subst (λ c. OpenIn ((p, r) ∷ ps) h.edge.tail c) f z)

  met_by : (s : ℕ) (k : Side) (e f : Edge) → ed s k ≡ Some e → IsTurned m q s p r e f → (t : IsMet (OpenIn ((p, r) ∷ ps)) ed s e) → Now m q t.slot p r (new t.slot t.side) t.edge → IsMet (OpenIn ps) new s f
  met_by s k e f there w t n = record {
    slot = t.slot;
    side = t.side;
    edge = n.edge;
    there = n.is;
    back_tail = n.turned.same_tail ∙ t.back_tail ∙ sym w.same_head;
    back_head = n.turned.same_head ∙ t.back_head ∙ sym w.same_tail;
    same_count = n.turned.same_count ∙ t.same_count ∙ sym w.same_count;
    next_is = λ live shut. next_by s k e f there t w live (λ o. shut (subst (λ c. OpenIn ps c f.head) (sym w.same_tail) (subst (λ c. OpenIn ps e.tail c) (sym w.same_head) o)));
  }

  met_from : (s : ℕ) (k : Side) (f : Edge) → Pair m q s p r (ed s k) f → IsMet (OpenIn ps) new s f
  met_from s k f b =
      let t = net.met s k b.edge b.is in
      met_by s k b.edge f b.is b.turned t (then m q t.slot p r (ed t.slot t.side) (new t.slot t.side) t.edge t.there (x t.slot t.side))

  one_from : (s s' : ℕ) (k k' : Side) (f f' : Edge) → Pair m q s p r (ed s k) f → Pair m q s' p r (ed s' k') f' → f.tail ≡ f'.tail → f.head ≡ f'.head → (s ≡ s') × (k ≡ k')
  one_from s s' k k' f f' b b' t h = net.one s s' k k' b.edge b'.edge b.is b'.is (sym b.turned.same_tail ∙ t ∙ b'.turned.same_tail) (sym b.turned.same_head ∙ h ∙ b'.turned.same_head)

  pub redirected_net : IsNetBut (OpenIn ps) new
  redirected_net = record {
    one = λ s s' k k' f f' there there' t h. one_from s s' k k' f f' (before m q s p r (ed s k) (new s k) f there (x s k)) (before m q s' p r (ed s' k') (new s' k') f' there' (x s' k')) t h;
    met = λ s k f there. met_from s k f (before m q s p r (ed s k) (new s k) f there (x s k));
  }

-- another edge's holder stays one
pub held : (ps qs : List (Corner × Corner)) (m q m' q' : ℕ) (p r p' r' : Corner) (ed new : ℕ → Side → Option Edge) → IsRedirected m q p r ed new → (r' ≡ p → p' ≡ r → ⊥) → (OpenIn qs r' p' → ⊥) → IsHolder ps m' q' p' r' ed → IsHolder qs m' q' p' r' new
held ps qs m q m' q' p r p' r' ed new x other shut h =
    let n = then m q q' p r (ed q' h.side) (new q' h.side) h.edge h.there (x q' h.side) in
    record {
      side = h.side;
      edge = n.edge;
      there = n.is;
      tail_is = n.turned.same_tail ∙ h.tail_is;
      head_is = n.turned.same_head ∙ h.head_is;
      next_is = elim n.turned.beyond as (λ _. n.edge.next ≡ m') [
        | inl b ↦ absurd (other (sym h.tail_is ∙ b.0) (sym h.head_is ∙ b.1))
        | inr b ↦ b.1 ∙ h.next_is
      ];
      live = h.live;
      shut = shut;
    }
