-- The slots of pages, as one is written.
use Rattle.std.proofs.Common.{◌≡◌, ◌<◌, ◌≤◌, ◌^◌, ℕ, true, false, Option, Some, None, List, length, set, refl, sym, ap, ◌∙◌, subst, inl, inr, arith}
use Rattle.std.specs.List.{slice_get}
use Rattle.std.specs.Option.{IsSome}
use Rattle.std.proofs.lemmas.Bool.{cases_eq}
use Rattle.std.proofs.lemmas.Option.{slice_get_within, none-some}
use Rattle.tri_pages.specs.declared.tri_slot.TriSlot.{TriSlot}
use Rattle.tri_pages.specs.Slots.{State, state_at, triangle_at, joined, IsTaken, holding, blank}
use Rattle.page_vec.proofs.Lists.{slice_get-set_same, slice_get-set_other}
use Rattle.mesh.specs.Meshes.{IsLive}
use Rattle.mesh.specs.Net.{outside, slots_of}

false-true : false ≡ true → ⊥
false-true e = subst (λ b. elim b as (λ _. Type 0) [ false ↦ Unit {0} | true ↦ ⊥ ]) e tt

-- a slot that is taken is within the pages
within_by : (pages : List State) (s : ℕ) (o : Option State) → slice_get pages s ≡ o → IsSome (joined o) → s < length pages
within_by pages s None e t = absurd (false-true t)
within_by pages s (Some o) e t = slice_get_within pages s o e

pub taken_within : (pages : List State) (s : ℕ) → IsTaken pages s → s < length pages
taken_within pages s t = within_by pages s (slice_get pages s) refl t

some_taken : (o : Option State) (t : TriSlot) → joined (joined o) ≡ Some t → IsSome (joined o)
some_taken None t e = absurd (none-some t e)
some_taken (Some None) t e = absurd (none-some t e)
some_taken (Some (Some v)) t e = refl

pub holds_taken : (pages : List State) (s : ℕ) (t : TriSlot) → triangle_at pages s ≡ Some t → IsTaken pages s
holds_taken pages s t e = some_taken (slice_get pages s) t e

pub slot_in : (pages : List State) (s : ℕ) → (s ≡ outside → ⊥) → slots_of pages s ≡ triangle_at pages s
slot_in pages s ne = grind (arith, ne)

pub set_here : (pages : List State) (s : ℕ) (t : TriSlot) → (s ≡ outside → ⊥) → IsTaken pages s → slots_of (set pages s (holding t)) s ≡ Some t
set_here pages s t ne taken = slot_in (set pages s (holding t)) s ne ∙ ap (λ o. joined (joined o)) (slice_get-set_same pages s (holding t) (taken_within pages s taken))

pub set_there : (pages : List State) (s : ℕ) (y : State) (i : ℕ) → (i ≡ s → ⊥) → slots_of (set pages s y) i ≡ slots_of pages i
set_there pages s y i ne = elim (cases_eq i outside) as (λ _. slots_of (set pages s y) i ≡ slots_of pages i) [
  | inl e ↦ subst (λ k. slots_of (set pages s y) k ≡ slots_of pages k) (sym e) refl
  | inr other ↦ slot_in (set pages s y) i other ∙ ap (λ o. joined (joined o)) (slice_get-set_other pages s y i ne) ∙ sym (slot_in pages i other)
]

pub taken_set : (pages : List State) (s : ℕ) (t : TriSlot) (i : ℕ) → IsTaken pages s → IsTaken pages i → IsTaken (set pages s (holding t)) i
taken_set pages s t i h k = elim (cases_eq i s) as (λ _. IsTaken (set pages s (holding t)) i) [
  | inl e ↦ subst (λ o. IsSome (joined o)) (sym (ap (slice_get (set pages s (holding t))) e ∙ slice_get-set_same pages s (holding t) (taken_within pages s h))) refl
  | inr ne ↦ subst (λ o. IsSome (joined o)) (sym (slice_get-set_other pages s (holding t) i ne)) k
]

-- what the write of a slot leaves blank was blank, in another slot
pub record WasBlank (pages : List State) (s i : ℕ) : Type 0 where
  pub other : i ≡ s → ⊥
  pub was : state_at pages i ≡ blank

blank_other : (pages : List State) (s : ℕ) (y : State) (i : ℕ) → (i ≡ s → ⊥) → state_at (set pages s y) i ≡ state_at pages i
blank_other pages s y i ne = ap joined (slice_get-set_other pages s y i ne)

holding_blank : (t : TriSlot) → holding t ≡ blank → ⊥
holding_blank t e = none-some t (sym (ap joined e))

pub blank_set : (pages : List State) (s : ℕ) (t : TriSlot) (i : ℕ) → IsTaken pages s → state_at (set pages s (holding t)) i ≡ blank → WasBlank pages s i
blank_set pages s t i taken e = elim (cases_eq i s) as (λ _. WasBlank pages s i) [
  | inl same ↦ absurd (holding_blank t (sym (ap joined (slice_get-set_same pages s (holding t) (taken_within pages s taken))) ∙ sym (ap (state_at (set pages s (holding t))) same) ∙ e))
  | inr ne ↦ record { other = ne; was = sym (blank_other pages s (holding t) i ne) ∙ e }
]

-- a triangle that stands in a slot
pub record Standing (o : Option TriSlot) : Type 0 where
  pub tri : TriSlot
  pub is : o ≡ Some tri

pub some_is : (o : Option TriSlot) → IsSome o → Standing o
some_is None e = absurd (false-true e)
some_is (Some t) e = record { tri = t; is = refl }

pub is_some : (o : Option TriSlot) (t : TriSlot) → o ≡ Some t → IsSome o
is_some o t e = subst (λ x. IsSome x) (sym e) refl

-- a live slot is within the pages, so it isn't outside
pub live_within : (pages : List State) (s : ℕ) → IsLive pages s → s < length pages
live_within pages s live = let t = some_is (triangle_at pages s) live in taken_within pages s (holds_taken pages s t.tri t.is)

pub within_real : (n s : ℕ) → s < n → n ≤ 2 ^ 30 → s ≡ outside → ⊥
within_real n s h few e = omega (arith, h, few, e)

pub live_real : (pages : List State) (s : ℕ) → length pages ≤ 2 ^ 30 → IsLive pages s → s ≡ outside → ⊥
live_real pages s few live = within_real (length pages) s (live_within pages s live) few
