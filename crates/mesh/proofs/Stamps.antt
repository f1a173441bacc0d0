-- A new stamp keeps a mesh.
use Rattle.std.proofs.Common.{◌≡◌, ◌≤◌, ◌^◌, ℕ, Some, List, [], sym, ap, ◌∙◌, inl, inr, subst}
use Rattle.std.proofs.lemmas.Bool.{cases_eq}
use Rattle.tri_pages.specs.declared.tri_slot.TriSlot.{TriSlot}
use Rattle.tri_pages.specs.Slots.{State, triangle_at}
use Rattle.mesh.specs.Corners.{Distinct}
use Rattle.mesh.specs.Meshes.{IsMesh, corners_of}
use Rattle.mesh.specs.Net.{Side, edge_of, edges_of, outside, slots_of, IsNetBut, OpenIn}
use Rattle.mesh.specs.Stamps.{stamped, IsStamped}
use Rattle.mesh.proofs.FreedSlots.{WroteOne}
use Rattle.mesh.proofs.NamedEdges.{same_in}
use Rattle.mesh.proofs.Slots.{slot_in}

module _ (old new : List State) (s front : ℕ) (t : TriSlot) (mesh : IsMesh old) (here : triangle_at old s ≡ Some t) (real : s ≡ outside → ⊥) (w : WroteOne old new s (stamped t front)) where
  was : slots_of old s ≡ Some t
  was = slot_in old s real ∙ here

  -- its edges are as before
  same_edge : (i : ℕ) (k : Side) → edges_of (slots_of new) i k ≡ edges_of (slots_of old) i k
  same_edge i k = elim (cases_eq i s) as (λ _. edges_of (slots_of new) i k ≡ edges_of (slots_of old) i k) [
    | inl e ↦ ap (λ o. edge_of o k) (ap (slots_of new) e ∙ w.in_s) ∙ sym (ap (λ o. edge_of o k) (ap (slots_of old) e ∙ was))
    | inr ne ↦ ap (λ o. edge_of o k) (w.rest i ne)
  ]

  distinct_at : (i : ℕ) (u : TriSlot) → slots_of new i ≡ Some u → Distinct (corners_of u)
  distinct_at i u h = elim (cases_eq i s) as (λ _. Distinct (corners_of u)) [
    | inl e ↦ subst (λ x. Distinct (corners_of x)) (same_in (stamped t front) u (sym (ap (slots_of new) e ∙ w.in_s) ∙ h)) (mesh.distinct s t was)
    | inr ne ↦ mesh.distinct i u (sym (w.rest i ne) ∙ h)
  ]

  pub stamp_mesh : IsMesh new
  stamp_mesh = record {
    net = subst (λ ed. IsNetBut (OpenIn []) ed) (λ x i k. sym (same_edge i k) x) mesh.net;
    distinct = distinct_at;
    whole = λ i e. mesh.whole i (w.blanks i e);
    few = subst (λ m. m ≤ 2 ^ 30) (sym w.len) mesh.few;
  }

  pub stamp_is : IsStamped old new s front
  stamp_is = record { tri = t; was = here; in_s = w.in_s; rest = w.rest }
