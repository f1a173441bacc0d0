-- New triangles are laid, one more at a time.
use Rattle.std.proofs.Common.{◌≡◌, ◌+◌, ℕ, Some, List, length, set, sym, ap, ◌∙◌, subst, inl, inr, arith}
use Rattle.std.specs.List.{slice_get}
use Rattle.std.specs.Option.{IsSome}
use Rattle.std.proofs.lemmas.Bool.{cases_eq}
use Rattle.std.proofs.lemmas.List.{length-set}
use Rattle.page_vec.proofs.Lists.{slice_get-set_same, slice_get-set_other}
use Rattle.tri_pages.specs.declared.tri_slot.TriSlot.{TriSlot}
use Rattle.tri_pages.specs.Slots.{State, state_at, joined, holding, IsTaken}
use Rattle.mesh.specs.Laying.{Layout, IsLed, IsLaid, IsLaying}
use Rattle.mesh.specs.SlotLists.{AreApart}
use Rattle.mesh.proofs.NamedEdges.{same_in}
use Rattle.mesh.proofs.Slots.{taken_within}

pub none_laid : (pages : List State) (lay : Layout) (front : ℕ) → IsLaying pages pages lay front 0
none_laid pages lay front = record {
  laid = λ i s t h _ _. absurd (omega (arith, h));
  rest = λ s _ i. state_at pages s;
  same_length = λ i. length pages;
}

pub one_more_laid : (old mid new : List State) (lay : Layout) (front n s : ℕ) (t w : TriSlot) → IsLaying old mid lay front n → AreApart lay.slots
    → slice_get lay.slots n ≡ Some s → slice_get lay.news n ≡ Some t → IsLed lay front t w → IsTaken mid s → new ≡ set mid s (holding w) → IsLaying old new lay front (n + 1)
one_more_laid old mid new lay front n s t w x apart here tri led taken is = record {
  laid = λ i r u h e f. elim (cases_eq i n) as (λ _. IsLaid lay front new r u) [
    | inl at_n ↦
        let same : s ≡ r = same_in s r (sym here ∙ ap (slice_get lay.slots) (sym at_n) ∙ e) in
        let is_t : t ≡ u = same_in t u (sym tri ∙ ap (slice_get lay.news) (sym at_n) ∙ f) in
        record { tri = w; holds = ap (state_at new) (sym same) ∙ written; led = subst (λ y. IsLed lay front y w) is_t led }
    | inr ne ↦
        let y = x.laid i r u (omega (arith, h, ne)) e f in
        record { tri = y.tri; holds = elsewhere r (λ same. ne (apart i n s (e ∙ ap Some same) here)) ∙ y.holds; led = y.led }
  ];
  rest = λ r kept. elsewhere r (λ same. kept n (omega arith) (here ∙ ap Some (sym same))) ∙ x.rest r (λ i h e. kept i (omega (arith, h)) e);
  same_length = ap length is ∙ length-set mid s (holding w) ∙ x.same_length;
}
  where
    written : state_at new s ≡ holding w
    written = ap (λ ps. state_at ps s) is ∙ ap joined (slice_get-set_same mid s (holding w) (taken_within mid s taken))

    elsewhere : (r : ℕ) → (r ≡ s → ⊥) → state_at new r ≡ state_at mid r
    elsewhere r ne = ap (λ ps. state_at ps r) is ∙ ap joined (slice_get-set_other mid s (holding w) r ne)

-- the next slot is as it was taken
pub still_taken : (old mid : List State) (lay : Layout) (front n s : ℕ) → IsLaying old mid lay front n → AreApart lay.slots → slice_get lay.slots n ≡ Some s → IsTaken old s → IsTaken mid s
still_taken old mid lay front n s x apart here taken = subst (λ o. IsSome o) (sym (x.rest s (λ i h e. absurd (omega (arith, h, apart i n s e here))))) taken
