-- A patch that is laid in place of old triangles makes a net.
use Rattle.std.proofs.Common.{◌≡◌, ◌⊎◌, ℕ, Some, List, [], sym, ap, ◌∙◌, inl, inr, subst}
use Rattle.std.specs.List.{slice_get}
use Rattle.ground_model.specs.declared.corner.Corner.{Corner}
use Rattle.tri_pages.specs.Slots.{State}
use Rattle.mesh.specs.declared.patch.Patch.{Patch}
use Rattle.mesh.specs.SlotLists.{IsKept, AreApart}
use Rattle.mesh.specs.Installs.{patch_corner, patch_count, HasEdge, PatchBack, KeptBack, Fits}
use Rattle.mesh.specs.Net.{Side, after, Edge, edges_of, slots_of, outside, IsMet, IsNetBut, OpenIn}
use Rattle.mesh.proofs.NamedEdges.{same_in}

-- an edge of an old triangle, with what is beyond it
pub record OldEdge (slots : List State) (old : List ℕ) (a b : Corner) (next : ℕ) : Type 0 where
  pub index : ℕ
  pub slot : ℕ
  pub side : Side
  pub edge : Edge
  pub old_at : slice_get old index ≡ Some slot
  pub live : slot ≡ outside → ⊥
  pub there : edges_of (slots_of slots) slot side ≡ Some edge
  pub tail : edge.tail ≡ a
  pub head : edge.head ≡ b
  pub next_is : next ≡ edge.next

-- the edge f of slot s is one of the patch, whose triangles stand in these slots
pub record NewEdge (slots : List State) (old : List ℕ) (patch : List Patch) (places : List ℕ) (s : ℕ) (k : Side) (f : Edge) : Type 0 where
  pub index : ℕ
  pub tri : Patch
  pub slot_at : slice_get places index ≡ Some s
  pub tri_at : slice_get patch index ≡ Some tri
  pub tail : f.tail ≡ patch_corner tri k
  pub head : f.head ≡ patch_corner tri (after k)
  pub count : f.count ≡ patch_count tri k
  pub leads_in : (q : ℕ) (x : HasEdge patch f.head f.tail) → slice_get places x.index ≡ Some q → f.next ≡ q
  pub leads_out : (HasEdge patch f.head f.tail → ⊥) → OldEdge slots old f.tail f.head f.next

-- the edge f of slot s is one that stays
pub record KeptEdge (slots : List State) (old : List ℕ) (patch : List Patch) (places : List ℕ) (s : ℕ) (k : Side) (f : Edge) : Type 0 where
  pub kept : IsKept old s
  pub edge : Edge
  pub there : edges_of (slots_of slots) s k ≡ Some edge
  pub tail : f.tail ≡ edge.tail
  pub head : f.head ≡ edge.head
  pub count : f.count ≡ edge.count
  pub leads_in : (s ≡ outside → ⊥) → (q : ℕ) (x : HasEdge patch f.head f.tail) → slice_get places x.index ≡ Some q → f.next ≡ q
  pub leads_out : (HasEdge patch f.head f.tail → ⊥) → f.next ≡ edge.next

-- the pages after the patch was laid and the neighbours were turned
pub record Laid (slots : List State) (old : List ℕ) (patch : List Patch) (places : List ℕ) (new : List State) : Type 0 where
  pub placed : (i : ℕ) (p : Patch) → slice_get patch i ≡ Some p → (s : ℕ) × (slice_get places i ≡ Some s)
  pub apart : AreApart places
  pub stands : (i s : ℕ) (p : Patch) (k : Side) → slice_get places i ≡ Some s → slice_get patch i ≡ Some p → (f : Edge) × (edges_of (slots_of new) s k ≡ Some f) × (f.tail ≡ patch_corner p k) × (f.head ≡ patch_corner p (after k)) × (f.count ≡ patch_count p k)
  pub stays : (s : ℕ) (k : Side) (e : Edge) → IsKept old s → edges_of (slots_of slots) s k ≡ Some e → (f : Edge) × (edges_of (slots_of new) s k ≡ Some f) × (f.tail ≡ e.tail) × (f.head ≡ e.head) × (f.count ≡ e.count)
  pub was : (s : ℕ) (k : Side) (f : Edge) → edges_of (slots_of new) s k ≡ Some f → NewEdge slots old patch places s k f ⊎ KeptEdge slots old patch places s k f

module _ (slots : List State) (old : List ℕ) (patch : List Patch) (places : List ℕ) (new : List State) (net : IsNetBut (OpenIn []) (edges_of (slots_of slots))) (fits : Fits slots old patch) (laid : Laid slots old patch places new) where
  -- a new edge is an edge of the patch
  abbrev as_patch : (s : ℕ) (k : Side) (f : Edge) (a b : Corner) → NewEdge slots old patch places s k f → f.tail ≡ a → f.head ≡ b → HasEdge patch a b
  as_patch s k f a b n t h = record { index = n.index; tri = n.tri; side = k; there = n.tri_at; tail = sym n.tail ∙ t; head = sym n.head ∙ h }

  -- two new edges with the same ends are one
  one_new : (s s' : ℕ) (k k' : Side) (f f' : Edge) → NewEdge slots old patch places s k f → NewEdge slots old patch places s' k' f' → f.tail ≡ f'.tail → f.head ≡ f'.head → (s ≡ s') × (k ≡ k')
  one_new s s' k k' f f' n n' t h =
      let same = fits.once f'.tail f'.head (as_patch s k f f'.tail f'.head n t h) (as_patch s' k' f' f'.tail f'.head n' (λ i. f'.tail) (λ i. f'.head)) in
      (same_in s s' (sym n.slot_at ∙ ap (slice_get places) same.0 ∙ n'.slot_at), same.1)

  never_both : (s s' : ℕ) (k k' : Side) (f f' : Edge) → NewEdge slots old patch places s k f → KeptEdge slots old patch places s' k' f' → f.tail ≡ f'.tail → f.head ≡ f'.head → ⊥
  never_both s s' k k' f f' n m t h = fits.fresh f'.tail f'.head (as_patch s k f f'.tail f'.head n t h) s' k' m.edge m.kept m.there (sym m.tail) (sym m.head)

  one_by : (s s' : ℕ) (k k' : Side) (f f' : Edge) → NewEdge slots old patch places s k f ⊎ KeptEdge slots old patch places s k f → NewEdge slots old patch places s' k' f' ⊎ KeptEdge slots old patch places s' k' f'
      → f.tail ≡ f'.tail → f.head ≡ f'.head → (s ≡ s') × (k ≡ k')
  one_by s s' k k' f f' (inl n) (inl m) t h = one_new s s' k k' f f' n m t h
  one_by s s' k k' f f' (inl n) (inr m) t h = absurd (never_both s s' k k' f f' n m t h)
  one_by s s' k k' f f' (inr n) (inl m) t h = absurd (never_both s' s k' k f' f m n (sym t) (sym h))
  one_by s s' k k' f f' (inr n) (inr m) t h = net.one s s' k k' n.edge m.edge n.there m.there (sym n.tail ∙ t ∙ m.tail) (sym n.head ∙ h ∙ m.head)

  -- the patch has the reverse
  met_patch : (s : ℕ) (f : Edge) (x : HasEdge patch f.head f.tail) → patch_count x.tri x.side ≡ f.count → ((s ≡ outside → ⊥) → (q : ℕ) → slice_get places x.index ≡ Some q → f.next ≡ q) → IsMet (OpenIn []) (edges_of (slots_of new)) s f
  met_patch s f x c leads =
      let at = laid.placed x.index x.tri x.there in
      let g = laid.stands x.index at.0 x.tri x.side at.1 x.there in
      record {
        slot = at.0;
        side = x.side;
        edge = g.0;
        there = g.1;
        back_tail = g.2 ∙ x.tail;
        back_head = g.3 ∙ x.head;
        same_count = g.4 ∙ c;
        next_is = λ live _. leads live at.0 at.1;
      }

  -- a triangle that stays has the reverse
  met_stay : (s : ℕ) (f : Edge) (w : KeptBack slots old f.tail f.head f.count) → ((s ≡ outside → ⊥) → f.next ≡ w.slot) → IsMet (OpenIn []) (edges_of (slots_of new)) s f
  met_stay s f w leads =
      let g = laid.stays w.slot w.side w.edge w.kept w.there in
      record {
        slot = w.slot;
        side = w.side;
        edge = g.0;
        there = g.1;
        back_tail = g.2 ∙ w.tail;
        back_head = g.3 ∙ w.head;
        same_count = g.4 ∙ w.same_count;
        next_is = λ live _. leads live;
      }

  -- the reverse of what stays isn't of the patch
  no_patch : (f : Edge) → KeptBack slots old f.tail f.head f.count → HasEdge patch f.head f.tail → ⊥
  no_patch f w x = fits.fresh f.head f.tail x w.slot w.side w.edge w.kept w.there w.tail w.head

  -- what was beyond an old edge is what stays there
  beyond_old : (f : Edge) (w : KeptBack slots old f.tail f.head f.count) → OldEdge slots old f.tail f.head f.next → f.next ≡ w.slot
  beyond_old f w o =
      let m = net.met o.slot o.side o.edge o.there in
      let same = net.one m.slot w.slot m.side w.side m.edge w.edge m.there w.there (m.back_tail ∙ o.head ∙ sym w.tail) (m.back_head ∙ o.tail ∙ sym w.head) in
      o.next_is ∙ m.next_is o.live (λ z. z) ∙ same.0

  beyond_kept : (s : ℕ) (k : Side) (f : Edge) (n : KeptEdge slots old patch places s k f) (w : KeptBack slots old f.tail f.head f.count) → (s ≡ outside → ⊥) → n.edge.next ≡ w.slot
  beyond_kept s k f n w live =
      let m = net.met s k n.edge n.there in
      let same = net.one m.slot w.slot m.side w.side m.edge w.edge m.there w.there (m.back_tail ∙ sym n.head ∙ sym w.tail) (m.back_head ∙ sym n.tail ∙ sym w.head) in
      m.next_is live (λ z. z) ∙ same.0

  met_new : (s : ℕ) (k : Side) (f : Edge) (n : NewEdge slots old patch places s k f) → PatchBack patch f.tail f.head f.count ⊎ KeptBack slots old f.tail f.head f.count → IsMet (OpenIn []) (edges_of (slots_of new)) s f
  met_new s k f n (inl x) = met_patch s f x.is x.same_count (λ _ q e. n.leads_in q x.is e)
  met_new s k f n (inr w) = met_stay s f w (λ _. beyond_old f w (n.leads_out (no_patch f w)))

  met_kept : (s : ℕ) (k : Side) (f : Edge) (n : KeptEdge slots old patch places s k f) → PatchBack patch f.tail f.head f.count ⊎ KeptBack slots old f.tail f.head f.count → IsMet (OpenIn []) (edges_of (slots_of new)) s f
  met_kept s k f n (inl x) = met_patch s f x.is x.same_count (λ live q e. n.leads_in live q x.is e)
  met_kept s k f n (inr w) = met_stay s f w (λ live. n.leads_out (no_patch f w) ∙ beyond_kept s k f n w live)

  met_by : (s : ℕ) (k : Side) (f : Edge) → NewEdge slots old patch places s k f ⊎ KeptEdge slots old patch places s k f → IsMet (OpenIn []) (edges_of (slots_of new)) s f
  met_by s k f (inl n) = met_new s k f n
      (subst (λ c. PatchBack patch f.tail f.head c ⊎ KeptBack slots old f.tail f.head c) (sym n.count) (fits.closed f.tail f.head (as_patch s k f f.tail f.head n (λ i. f.tail) (λ i. f.head))))
  met_by s k f (inr n) = met_kept s k f n
      (subst (λ x. x) (λ i. PatchBack patch (sym n.tail i) (sym n.head i) (sym n.count i) ⊎ KeptBack slots old (sym n.tail i) (sym n.head i) (sym n.count i)) (fits.closed_kept s k n.edge n.kept n.there))

  pub installed_net : IsNetBut (OpenIn []) (edges_of (slots_of new))
  installed_net = record {
    one = λ s s' k k' f f' there there' t h. one_by s s' k k' f f' (laid.was s k f there) (laid.was s' k' f' there') t h;
    met = λ s k f there. met_by s k f (laid.was s k f there);
  }
