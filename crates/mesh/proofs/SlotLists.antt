-- Slots are taken and given back, one more at a time.
use Rattle.std.proofs.Common.{◌≡◌, ◌⊎◌, ◌+◌, ◌≤◌, ◌^◌, ℕ, Some, None, List, [], ◌∷◌, ◌++◌, length, set, sym, ap, ◌∙◌, inl, inr, arith}
use Rattle.std.specs.List.{slice_get}
use Rattle.std.proofs.lemmas.Bool.{cases_eq}
use Rattle.std.proofs.lemmas.List.{length-set, length-append}
use Rattle.std.proofs.lemmas.Option.{none-some}
use Rattle.page_vec.proofs.Lists.{slice_get-set_same, slice_get-set_other}
use Rattle.tri_pages.specs.declared.tri_slot.TriSlot.{TriSlot}
use Rattle.tri_pages.specs.Slots.{State, state_at, triangle_at, joined, blank, free, IsTaken}
use Rattle.mesh.specs.Net.{outside}
use Rattle.mesh.specs.SlotLists.{AreApart, IsTakingMany, IsGivingBack}
use Rattle.mesh.specs.Takes.{IsTaking}
use Rattle.mesh.proofs.Lists.{pushed, stays_pushed, last_pushed}
use Rattle.mesh.proofs.NamedEdges.{same_in}
use Rattle.mesh.proofs.Slots.{taken_within}

free_blank : (o : State) → o ≡ free → o ≡ blank → ⊥
free_blank o e f = none-some None (sym e ∙ f)

pub none_taken : (pages : List State) → length pages ≤ 2 ^ 30 → IsTakingMany pages pages []
none_taken pages few = record {
  was_free = λ i s e. absurd (none-some s e);
  is_blank = λ i s e. absurd (none-some s e);
  live = λ i s e. absurd (none-some s e);
  apart = λ i j s e _. absurd (none-some s e);
  rest = λ s _ i. state_at pages s;
  few = few;
}

-- the slot that is taken next is none of those that were taken
other_than : (old mid new : List State) (slots : List ℕ) (s : ℕ) → IsTakingMany old mid slots → IsTaking mid new s → (i r : ℕ) → slice_get slots i ≡ Some r → r ≡ s → ⊥
other_than old mid new slots s x y i r e same = free_blank (state_at mid s) y.was_free (sym (ap (state_at mid) same) ∙ x.is_blank i r e)

last_apart : (old mid new : List State) (slots : List ℕ) (s : ℕ) (x : IsTakingMany old mid slots) (y : IsTaking mid new s) (i j r : ℕ)
    → (slice_get slots i ≡ Some r) ⊎ ((i ≡ length slots) × (s ≡ r)) → (slice_get slots j ≡ Some r) ⊎ ((j ≡ length slots) × (s ≡ r)) → i ≡ j
last_apart old mid new slots s x y i j r (inl e) (inl f) = x.apart i j r e f
last_apart old mid new slots s x y i j r (inl e) (inr f) = absurd (other_than old mid new slots s x y i r e (sym f.1))
last_apart old mid new slots s x y i j r (inr e) (inl f) = absurd (other_than old mid new slots s x y j r f (sym e.1))
last_apart old mid new slots s x y i j r (inr e) (inr f) = e.0 ∙ sym f.0

pub one_more_taken : (old mid new : List State) (slots : List ℕ) (s : ℕ) → IsTakingMany old mid slots → IsTaking mid new s → IsTakingMany old new (slots ++ s ∷ [])
one_more_taken old mid new slots s x y = record {
  was_free = λ i r e. elim (pushed slots s r i e) as (λ _. state_at old r ≡ free) [
    | inl h ↦ x.was_free i r h
    | inr h ↦ ap (state_at old) (sym h.1) ∙ sym (x.rest s (λ j f. other_than old mid new slots s x y j s f (λ k. s))) ∙ y.was_free
  ];
  is_blank = λ i r e. elim (pushed slots s r i e) as (λ _. state_at new r ≡ blank) [
    | inl h ↦ y.rest r (other_than old mid new slots s x y i r h) ∙ x.is_blank i r h
    | inr h ↦ ap (state_at new) (sym h.1) ∙ y.is_blank
  ];
  live = λ i r e. elim (pushed slots s r i e) as (λ _. r ≡ outside → ⊥) [
    | inl h ↦ x.live i r h
    | inr h ↦ λ o. y.live (h.1 ∙ o)
  ];
  apart = λ i j r e f. last_apart old mid new slots s x y i j r (pushed slots s r i e) (pushed slots s r j f);
  rest = λ r kept. y.rest r (λ e. kept (length slots) (last r e)) ∙ x.rest r (λ i e. kept i (further i r e));
  few = y.few;
}
  where
    last : (r : ℕ) → r ≡ s → slice_get (slots ++ s ∷ []) (length slots) ≡ Some r
    last r e = last_pushed slots s ∙ ap Some (sym e)

    further : (i r : ℕ) → slice_get slots i ≡ Some r → slice_get (slots ++ s ∷ []) i ≡ Some r
    further i r e = stays_pushed slots s r i e

pub none_given : (pages : List State) (slots : List ℕ) → IsGivingBack pages pages slots [] 0
none_given pages slots = record {
  as_many = λ i. 0;
  read = λ i s t _ e. absurd (none-some t e);
  is_free = λ i s h _. absurd (omega (arith, h));
  rest = λ s _ i. state_at pages s;
  same_length = λ i. length pages;
}

-- the next slot is given back
pub one_more_given : (old mid new : List State) (slots : List ℕ) (was : List TriSlot) (n s : ℕ) (t : TriSlot) → IsGivingBack old mid slots was n → AreApart slots → slice_get slots n ≡ Some s
    → triangle_at mid s ≡ Some t → IsTaken mid s → new ≡ set mid s free → IsGivingBack old new slots (was ++ t ∷ []) (n + 1)
one_more_given old mid new slots was n s t x apart here tri taken is = record {
  as_many = length-append was (t ∷ []) ∙ ap (λ k. k + 1) x.as_many;
  read = λ i r u e f. elim (pushed was t u i f) as (λ _. triangle_at old r ≡ Some u) [
    | inl h ↦ x.read i r u e h
    | inr h ↦
        let at_n : slice_get slots n ≡ Some r = ap (slice_get slots) (sym (h.0 ∙ x.as_many)) ∙ e in
        let same : s ≡ r = same_in s r (sym here ∙ at_n) in
        ap (triangle_at old) (sym same) ∙ sym (ap joined before) ∙ tri ∙ ap Some h.1
  ];
  is_free = λ i r h e. elim (cases_eq i n) as (λ _. state_at new r ≡ free) [
    | inl at_n ↦ ap (state_at new) (sym (same_in s r (sym here ∙ ap (slice_get slots) (sym at_n) ∙ e))) ∙ gone
    | inr ne ↦ elsewhere r (λ same. ne (apart i n s (e ∙ ap Some same) here)) ∙ x.is_free i r (omega (arith, h, ne)) e
  ];
  rest = λ r kept. elsewhere r (λ same. kept n (omega arith) (here ∙ ap Some (sym same))) ∙ x.rest r (λ i h e. kept i (omega (arith, h)) e);
  same_length = ap length is ∙ length-set mid s free ∙ x.same_length;
}
  where
    before : state_at mid s ≡ state_at old s
    before = x.rest s (λ i h e. absurd (omega (arith, h, apart i n s e here)))

    gone : state_at new s ≡ free
    gone = ap (λ ps. state_at ps s) is ∙ ap joined (slice_get-set_same mid s free (taken_within mid s taken))

    elsewhere : (r : ℕ) → (r ≡ s → ⊥) → state_at new r ≡ state_at mid r
    elsewhere r ne = ap (λ ps. state_at ps r) is ∙ ap joined (slice_get-set_other mid s free r ne)
