-- Slots are taken.
use Rattle.std.proofs.Common.{◌≡◌, ◌⊎◌, ℕ, Some, None, List, sym, ap, ◌∙◌, subst, inl, inr, refl}
use Rattle.std.proofs.lemmas.Bool.{cases_eq}
use Rattle.std.proofs.lemmas.Option.{none-some}
use Rattle.tri_pages.specs.declared.tri_slot.TriSlot.{TriSlot}
use Rattle.tri_pages.specs.Slots.{State, state_at, triangle_at, joined, IsTaken, blank, free}
use Rattle.std.specs.Option.{IsSome}
use Rattle.mesh.specs.Net.{outside, slots_of}
use Rattle.mesh.specs.Takes.{IsTaking, IsTakingTwo}
use Rattle.mesh.proofs.Slots.{slot_in}

free_blank : (o : State) → o ≡ free → o ≡ blank → ⊥
free_blank o e f = none-some None (sym e ∙ f)

-- after a first slot a second one is taken
pub both_taken : (old mid new : List State) (f g : ℕ) → IsTaking old mid f → IsTaking mid new g → IsTakingTwo old new f g
both_taken old mid new f g x y =
    let apart : f ≡ g → ⊥ = λ e. free_blank (state_at mid f) (ap (state_at mid) e ∙ y.was_free) x.is_blank in
    record {
      f_free = x.was_free;
      g_free = sym (x.rest g (λ e. apart (sym e))) ∙ y.was_free;
      f_blank = y.rest f apart ∙ x.is_blank;
      g_blank = y.is_blank;
      f_live = x.live;
      g_live = y.live;
      apart = apart;
      rest = λ i a b. y.rest i b ∙ x.rest i a;
      few = y.few;
    }

-- a blank slot has no triangle, as a free one
pub blank_empty : (pages : List State) (s : ℕ) → (s ≡ outside → ⊥) → state_at pages s ≡ blank → slots_of pages s ≡ None
blank_empty pages s live e = slot_in pages s live ∙ ap joined e

pub free_empty : (pages : List State) (s : ℕ) → (s ≡ outside → ⊥) → state_at pages s ≡ free → slots_of pages s ≡ None
free_empty pages s live e = slot_in pages s live ∙ ap joined e

pub blank_taken : (pages : List State) (s : ℕ) → state_at pages s ≡ blank → IsTaken pages s
blank_taken pages s e = subst (λ o. IsSome o) (sym e) refl

-- so the triangles are as before
same_by : (old new : List State) (f g i : ℕ) → IsTakingTwo old new f g → (i ≡ f) ⊎ (i ≡ f → ⊥) → (i ≡ g) ⊎ (i ≡ g → ⊥) → triangle_at new i ≡ triangle_at old i
same_by old new f g i x (inl e) c = ap (triangle_at new) e ∙ ap joined x.f_blank ∙ sym (ap joined x.f_free) ∙ sym (ap (triangle_at old) e)
same_by old new f g i x (inr n) (inl e) = ap (triangle_at new) e ∙ ap joined x.g_blank ∙ sym (ap joined x.g_free) ∙ sym (ap (triangle_at old) e)
same_by old new f g i x (inr n) (inr m) = ap joined (x.rest i n m)

pub same_triangle : (old new : List State) (f g i : ℕ) → IsTakingTwo old new f g → triangle_at new i ≡ triangle_at old i
same_triangle old new f g i x = same_by old new f g i x (cases_eq i f) (cases_eq i g)

pub same_slot : (old new : List State) (f g i : ℕ) → IsTakingTwo old new f g → slots_of new i ≡ slots_of old i
same_slot old new f g i x = elim (cases_eq i outside) as (λ _. slots_of new i ≡ slots_of old i) [
  | inl e ↦ subst (λ k. slots_of new k ≡ slots_of old k) (sym e) refl
  | inr other ↦ slot_in new i other ∙ same_triangle old new f g i x ∙ sym (slot_in old i other)
]

pub same_slots : (old new : List State) (f g : ℕ) → IsTakingTwo old new f g → slots_of new ≡ slots_of old
same_slots old new f g x = λ i s. same_slot old new f g s x i

-- a slot with a triangle is neither
pub full_apart : (pages : List State) (s f : ℕ) (t : TriSlot) → triangle_at pages s ≡ Some t → state_at pages f ≡ blank → s ≡ f → ⊥
full_apart pages s f t h e same = none-some t (sym (ap joined e) ∙ sym (ap (triangle_at pages) same) ∙ h)
