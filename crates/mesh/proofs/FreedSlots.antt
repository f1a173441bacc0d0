-- Slots are written, and others given back.
use Rattle.std.proofs.Common.{◌≡◌, ℕ, Some, None, List, length, set, sym, ap, ◌∙◌, subst, inl, inr}
use Rattle.std.specs.Option.{IsSome}
use Rattle.std.proofs.lemmas.Bool.{cases_eq}
use Rattle.std.proofs.lemmas.List.{length-set}
use Rattle.std.proofs.lemmas.Option.{none-some}
use Rattle.page_vec.proofs.Lists.{slice_get-set_same, slice_get-set_other}
use Rattle.tri_pages.specs.declared.tri_slot.TriSlot.{TriSlot}
use Rattle.tri_pages.specs.Slots.{State, state_at, joined, blank, free, IsTaken, holding}
use Rattle.mesh.specs.Net.{outside, slots_of}
use Rattle.mesh.proofs.Slots.{WasBlank, slot_in, set_here, set_there, taken_set, taken_within, blank_set}

-- a slot that was given back is free
free_here : (pages : List State) (s : ℕ) → IsTaken pages s → state_at (set pages s free) s ≡ free
free_here pages s taken = ap joined (slice_get-set_same pages s free (taken_within pages s taken))

-- and the states of the others are as before
other_state : (pages : List State) (s : ℕ) (y : State) (i : ℕ) → (i ≡ s → ⊥) → state_at (set pages s y) i ≡ state_at pages i
other_state pages s y i ne = ap joined (slice_get-set_other pages s y i ne)

free_set : (pages : List State) (s i : ℕ) → IsTaken pages i → (i ≡ s → ⊥) → IsTaken (set pages s free) i
free_set pages s i taken ne = subst (λ o. IsSome o) (sym (other_state pages s free i ne)) taken

blank_free : (pages : List State) (s i : ℕ) → IsTaken pages s → state_at (set pages s free) i ≡ blank → WasBlank pages s i
blank_free pages s i taken e = elim (cases_eq i s) as (λ _. WasBlank pages s i) [
  | inl same ↦ absurd (none-some None (sym (free_here pages s taken) ∙ sym (ap (state_at (set pages s free)) same) ∙ e))
  | inr ne ↦ record { other = ne; was = sym (other_state pages s free i ne) ∙ e }
]

-- two slots are given back
pub record FreedTwo (pages new : List State) (f g : ℕ) : Type 0 where
  pub out_f : slots_of new f ≡ None
  pub out_g : slots_of new g ≡ None
  pub f_free : state_at new f ≡ free
  pub g_free : state_at new g ≡ free
  pub rest : (i : ℕ) → (i ≡ f → ⊥) → (i ≡ g → ⊥) → slots_of new i ≡ slots_of pages i
  pub blanks : (i : ℕ) → state_at new i ≡ blank → state_at pages i ≡ blank
  pub len : length new ≡ length pages

freed_two : (pages : List State) (f g : ℕ) → (f ≡ outside → ⊥) → (g ≡ outside → ⊥) → (f ≡ g → ⊥) → IsTaken pages f → IsTaken pages g → FreedTwo pages (set (set pages f free) g free) f g
freed_two pages f g f_live g_live apart f_in g_in =
    let once = set pages f free in
    let g_taken = free_set pages f g g_in (λ e. apart (sym e)) in
    let f_is : state_at (set once g free) f ≡ free = other_state once g free f apart ∙ free_here pages f f_in in
    let g_is : state_at (set once g free) g ≡ free = free_here once g g_taken in
    record {
      out_f = slot_in (set once g free) f f_live ∙ ap joined f_is;
      out_g = slot_in (set once g free) g g_live ∙ ap joined g_is;
      f_free = f_is;
      g_free = g_is;
      rest = λ i a b. set_there once g free i b ∙ set_there pages f free i a;
      blanks = λ i e. (blank_free pages f i f_in (blank_free once g i g_taken e).was).was;
      len = length-set once g free ∙ length-set pages f free;
    }

pub freed : (pages new : List State) (f g : ℕ) → new ≡ set (set pages f free) g free → (f ≡ outside → ⊥) → (g ≡ outside → ⊥) → (f ≡ g → ⊥) → IsTaken pages f → IsTaken pages g → FreedTwo pages new f g
freed pages new f g e f_live g_live apart f_in g_in = subst (λ ps. FreedTwo pages ps f g) (sym e) (freed_two pages f g f_live g_live apart f_in g_in)

-- one slot is written
pub record WroteOne (pages new : List State) (s : ℕ) (one : TriSlot) : Type 0 where
  pub in_s : slots_of new s ≡ Some one
  pub rest : (i : ℕ) → (i ≡ s → ⊥) → slots_of new i ≡ slots_of pages i
  pub blanks : (i : ℕ) → state_at new i ≡ blank → state_at pages i ≡ blank
  pub len : length new ≡ length pages
  pub taken : (i : ℕ) → IsTaken pages i → IsTaken new i

wrote_one_at : (pages : List State) (s : ℕ) (x : TriSlot) → (s ≡ outside → ⊥) → IsTaken pages s → WroteOne pages (set pages s (holding x)) s x
wrote_one_at pages s x live s_in = record {
  in_s = set_here pages s x live s_in;
  rest = λ i a. set_there pages s (holding x) i a;
  blanks = λ i e. (blank_set pages s x i s_in e).was;
  len = length-set pages s (holding x);
  taken = λ i h. taken_set pages s x i s_in h;
}

pub wrote_one : (pages new : List State) (s : ℕ) (x x' : TriSlot) → new ≡ set pages s (holding x) → x ≡ x' → (s ≡ outside → ⊥) → IsTaken pages s → WroteOne pages new s x'
wrote_one pages new s x x' e f live s_in = subst (λ ps. WroteOne pages ps s x') (sym (e ∙ (λ i. set pages s (holding (f i))))) (wrote_one_at pages s x' live s_in)
