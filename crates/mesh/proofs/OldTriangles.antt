-- The triangles that give way, and their edges.
use Rattle.std.proofs.Common.{◌≡◌, ℕ, Some, List, length, sym, ap, ◌∙◌}
use Rattle.std.specs.List.{slice_get}
use Rattle.ground_model.specs.declared.corner.Corner.{Corner}
use Rattle.tri_pages.specs.declared.tri_slot.TriSlot.{TriSlot}
use Rattle.tri_pages.specs.Slots.{State}
use Rattle.mesh.specs.EdgeSearch.{IsEdgeAt}
use Rattle.mesh.specs.Installs.{Fits}
use Rattle.mesh.specs.declared.patch.Patch.{Patch}
use Rattle.mesh.specs.Meshes.{IsMesh}
use Rattle.mesh.specs.Net.{Side, Edge, edge, edge_of, edges_of, outside, slots_of}
use Rattle.mesh.specs.SlotLists.{IsGivingBack}
use Rattle.mesh.specs.Turning.{AreOnce}
use Rattle.mesh.proofs.Lists.{get_at}
use Rattle.mesh.proofs.NamedEdges.{same_in}
use Rattle.mesh.proofs.Slots.{live_real, slot_in}

-- an edge of a slot that was given back, in the list of its triangles
pub record OldAt (was : List TriSlot) (j : ℕ) (k : Side) (e : Edge) : Type 0 where
  pub tri : TriSlot
  pub there : slice_get was j ≡ Some tri
  pub is : edge tri k ≡ e

module _ (old p1 : List State) (olds : List ℕ) (patch : List Patch) (was : List TriSlot) (mesh : IsMesh old) (fits : Fits old olds patch) (given : IsGivingBack old p1 olds was (length olds)) where
  pub old_real : (i s : ℕ) → slice_get olds i ≡ Some s → s ≡ outside → ⊥
  old_real i s e = live_real old s mesh.few (fits.live i s e)

  stood : (i s : ℕ) (t : TriSlot) → slice_get olds i ≡ Some s → slice_get was i ≡ Some t → slots_of old s ≡ Some t
  stood i s t e f = slot_in old s (old_real i s e) ∙ given.read i s t e f

  -- the triangle of an old slot
  pub old_at : (j s : ℕ) (k : Side) (e : Edge) → slice_get olds j ≡ Some s → edges_of (slots_of old) s k ≡ Some e → OldAt was j k e
  old_at j s k e at there =
      let t = get_at olds was j s at given.as_many in
      record { tri = t.0; there = t.1; is = same_in (edge t.0 k) e (sym (ap (λ o. edge_of o k) (stood j s t.0 at t.1)) ∙ there) }

  abbrev pub old_as : (j : ℕ) (k : Side) (e : Edge) (a b : Corner) → OldAt was j k e → e.tail ≡ a → e.head ≡ b → IsEdgeAt was j k a b
  old_as j k e a b x t h = record { tri = x.tri; there = x.there; tail = ap (λ y. y.tail) x.is ∙ t; head = ap (λ y. y.head) x.is ∙ h }

  -- the slot where an old triangle stood
  pub old_slot : (j : ℕ) (t : TriSlot) → slice_get was j ≡ Some t → (s : ℕ) × (slice_get olds j ≡ Some s) × (slots_of old s ≡ Some t)
  old_slot j t e =
      let s = get_at was olds j t e (sym given.as_many) in
      (s.0, s.1, stood j s.0 t s.1 e)

  pub once_was : AreOnce was
  once_was = λ i j k l a b x y.
      let r = old_slot i x.tri x.there in
      let s = old_slot j y.tri y.there in
      let same = mesh.net.one r.0 s.0 k l (edge x.tri k) (edge y.tri l) (ap (λ o. edge_of o k) r.2) (ap (λ o. edge_of o l) s.2) (x.tail ∙ sym y.tail) (x.head ∙ sym y.head) in
      (fits.apart i j s.0 (r.1 ∙ ap Some same.0) s.1, same.1)
