-- What a mesh is beside its net: each triangle has three corners, no slot is blank, and there aren't too many slots.
use Rattle.std.proofs.Common.{◌≡◌, ◌≤◌, ◌^◌, ℕ, Option, Some, None, List, [], ◌∷◌, length, get_or, refl, sym, ap, ◌∙◌, subst, inl, inr}
use Rattle.std.specs.Option.{option_map}
use Rattle.std.proofs.lemmas.Bool.{cases_eq}
use Rattle.std.proofs.lemmas.Option.{none-some}
use Rattle.ground_model.specs.declared.corner.Corner.TheVariants.{Far}
use Rattle.tri_pages.specs.declared.tri_slot.TriSlot.{TriSlot}
use Rattle.tri_pages.specs.Slots.{State, state_at, blank}
use Rattle.mesh.specs.Corners.{Distinct}
use Rattle.mesh.specs.Faces.{Face, face, KeepsFaces}
use Rattle.mesh.specs.Meshes.{corners_of, IsMesh}
use Rattle.mesh.specs.Net.{slots_of, IsNet}
use Rattle.mesh.proofs.NamedEdges.{same_in}
use Rattle.mesh.proofs.WrittenSlots.{WroteTwo, WroteThree, WroteFour}

-- each triangle has three corners
abbrev pub AreDistinct : (ℕ → Option TriSlot) → Type 0
AreDistinct at = (s : ℕ) (t : TriSlot) → at s ≡ Some t → Distinct (corners_of t)

pub record Filled (slots : List State) : Type 0 where
  pub distinct : AreDistinct (slots_of slots)
  pub whole : (s : ℕ) → state_at slots s ≡ blank → ⊥
  pub few : length slots ≤ 2 ^ 30

pub filled : (slots : List State) → IsMesh slots → Filled slots
filled slots m = record { distinct = m.distinct; whole = m.whole; few = m.few }

pub mesh_of : (slots : List State) → IsNet (slots_of slots) → Filled slots → IsMesh slots
mesh_of slots net f = record { net = net; distinct = f.distinct; whole = f.whole; few = f.few }

-- a triangle with the face
pub record Faced (o : Option TriSlot) (f : Face) : Type 0 where
  pub tri : TriSlot
  pub is : o ≡ Some tri
  pub same : face tri ≡ f

pub faced : (o : Option TriSlot) (f : Face) → option_map face o ≡ Some f → Faced o f
faced None f e = absurd (none-some f e)
faced (Some t) f e = record { tri = t; is = refl; same = same_in (face t) f e }

same_corners : (t u : TriSlot) → face u ≡ face t → Distinct (corners_of u) → Distinct (corners_of t)
same_corners t u e d = subst (λ f. Distinct (get_or f.corners 0 (Far 0) ∷ get_or f.corners 1 (Far 0) ∷ get_or f.corners 2 (Far 0) ∷ [])) e d

pub kept_filled : (old new : List State) → KeepsFaces old new → Filled old → Filled new
kept_filled old new k f = record {
  distinct = λ s t h.
      let w = faced (slots_of old s) (face t) (sym (k.faces s) ∙ ap (option_map face) h) in
      same_corners t w.tri w.same (f.distinct s w.tri w.is);
  whole = λ s e. f.whole s (k.blanks s e);
  few = subst (λ n. n ≤ 2 ^ 30) (sym k.len) f.few;
}

written : (o : Option TriSlot) (x t : TriSlot) → o ≡ Some x → o ≡ Some t → Distinct (corners_of x) → Distinct (corners_of t)
written o x t e h d = subst (λ y. Distinct (corners_of y)) (same_in x t (sym e ∙ h)) d

pub filled_two : (pages new : List State) (s n : ℕ) (x y : TriSlot) → WroteTwo pages new s n x y → AreDistinct (slots_of pages)
    → ((i : ℕ) → (i ≡ s → ⊥) → (i ≡ n → ⊥) → state_at pages i ≡ blank → ⊥) → length pages ≤ 2 ^ 30
    → Distinct (corners_of x) → Distinct (corners_of y) → Filled new
filled_two pages new s n x y w d whole few dx dy = record {
  distinct = λ i t h. elim (cases_eq i s) as (λ _. Distinct (corners_of t)) [
    | inl e ↦ written (slots_of new i) x t (ap (slots_of new) e ∙ w.in_s) h dx
    | inr a ↦ elim (cases_eq i n) as (λ _. Distinct (corners_of t)) [
      | inl e ↦ written (slots_of new i) y t (ap (slots_of new) e ∙ w.in_n) h dy
      | inr b ↦ d i t (sym (w.rest i a b) ∙ h)
    ]
  ];
  whole = λ i e. let b = w.blanks i e in whole i b.0 b.1 b.2;
  few = subst (λ k. k ≤ 2 ^ 30) (sym w.len) few;
}

pub filled_three : (pages new : List State) (s f g : ℕ) (x y z : TriSlot) → WroteThree pages new s f g x y z → AreDistinct (slots_of pages)
    → ((i : ℕ) → (i ≡ s → ⊥) → (i ≡ f → ⊥) → (i ≡ g → ⊥) → state_at pages i ≡ blank → ⊥) → length pages ≤ 2 ^ 30
    → Distinct (corners_of x) → Distinct (corners_of y) → Distinct (corners_of z) → Filled new
filled_three pages new s f g x y z w d whole few dx dy dz = record {
  distinct = λ i t h. elim (cases_eq i s) as (λ _. Distinct (corners_of t)) [
    | inl e ↦ written (slots_of new i) x t (ap (slots_of new) e ∙ w.in_s) h dx
    | inr a ↦ elim (cases_eq i f) as (λ _. Distinct (corners_of t)) [
      | inl e ↦ written (slots_of new i) y t (ap (slots_of new) e ∙ w.in_f) h dy
      | inr b ↦ elim (cases_eq i g) as (λ _. Distinct (corners_of t)) [
        | inl e ↦ written (slots_of new i) z t (ap (slots_of new) e ∙ w.in_g) h dz
        | inr c ↦ d i t (sym (w.rest i a b c) ∙ h)
      ]
    ]
  ];
  whole = λ i e. let b = w.blanks i e in whole i b.0 b.1 b.2 b.3;
  few = subst (λ k. k ≤ 2 ^ 30) (sym w.len) few;
}

pub filled_four : (pages new : List State) (s n f g : ℕ) (x y z v : TriSlot) → WroteFour pages new s n f g x y z v → AreDistinct (slots_of pages)
    → ((i : ℕ) → (i ≡ s → ⊥) → (i ≡ n → ⊥) → (i ≡ f → ⊥) → (i ≡ g → ⊥) → state_at pages i ≡ blank → ⊥) → length pages ≤ 2 ^ 30
    → Distinct (corners_of x) → Distinct (corners_of y) → Distinct (corners_of z) → Distinct (corners_of v) → Filled new
filled_four pages new s n f g x y z v w d whole few dx dy dz dv = record {
  distinct = λ i t h. elim (cases_eq i s) as (λ _. Distinct (corners_of t)) [
    | inl e ↦ written (slots_of new i) x t (ap (slots_of new) e ∙ w.in_s) h dx
    | inr a ↦ elim (cases_eq i n) as (λ _. Distinct (corners_of t)) [
      | inl e ↦ written (slots_of new i) y t (ap (slots_of new) e ∙ w.in_n) h dy
      | inr b ↦ elim (cases_eq i f) as (λ _. Distinct (corners_of t)) [
        | inl e ↦ written (slots_of new i) z t (ap (slots_of new) e ∙ w.in_f) h dz
        | inr c ↦ elim (cases_eq i g) as (λ _. Distinct (corners_of t)) [
          | inl e ↦ written (slots_of new i) v t (ap (slots_of new) e ∙ w.in_g) h dv
          | inr k ↦ d i t (sym (w.rest i a b c k) ∙ h)
        ]
      ]
    ]
  ];
  whole = λ i e. let b = w.blanks i e in whole i b.0 b.1 b.2 b.3 b.4;
  few = subst (λ k. k ≤ 2 ^ 30) (sym w.len) few;
}
