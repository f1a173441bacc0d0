-- Each step names the slots of the edges that may be no longer locally Delaunay.
use Rattle.std.proofs.Common.{◌≡◌, ◌⊎◌, ℕ, Some, List, [], ◌∷◌, ◌++◌, sym, ap, ◌∙◌, inl, inr, arith}
use Rattle.std.specs.List.{slice_get}
use Rattle.std.proofs.lemmas.Bool.{cases_eq}
use Rattle.std.proofs.lemmas.Option.{none-some}
use Rattle.ground_model.specs.declared.corner.Corner.{Corner}
use Rattle.tri_pages.specs.declared.tri_slot.TriSlot.{TriSlot}
use Rattle.tri_pages.specs.Slots.{State, triangle_at, joined}
use Rattle.mesh.specs.EdgeSplits.{IsEdgeSplit}
use Rattle.mesh.specs.EdgeUnsplits.{IsEdgeUnsplit}
use Rattle.mesh.specs.Faces.{face_at}
use Rattle.mesh.specs.Flips.{IsFlipped}
use Rattle.mesh.specs.Meshes.{IsMesh}
use Rattle.mesh.specs.Net.{Side, slots_of}
use Rattle.mesh.specs.Recounts.{IsRecounted}
use Rattle.mesh.specs.Splits.{IsSplit}
use Rattle.mesh.specs.Suspects.{IsNamedFrom, KeepsSuspects}
use Rattle.mesh.specs.Unsplits.{IsUnsplit}
use Rattle.mesh.proofs.Legality.{suspects_kept, named_on, named_now}

-- the slot is one of these, or keeps its face
abbrev IsOneOrKept : (old new : List State) (more : List ℕ) (i : ℕ) → Type 0
IsOneOrKept old new more i = ((j : ℕ) × (slice_get more j ≡ Some i)) ⊎ (face_at (slots_of new) i ≡ face_at (slots_of old) i)

named_among : (old new : List State) (before more : List ℕ) → IsMesh new → ((i : ℕ) (t : TriSlot) → triangle_at new i ≡ Some t → IsOneOrKept old new more i) → KeepsSuspects old new before (before ++ more)
named_among old new before more mesh each = suspects_kept old new before (before ++ more) 0 0 mesh
    (λ i t there. elim (each i t there) as (λ _. IsNamedFrom (before ++ more) 0 i ⊎ (face_at (slots_of new) i ≡ face_at (slots_of old) i)) [
      | inl j ↦ inl (named_now before more 0 j.0 i (omega arith) j.1)
      | inr h ↦ inr h
    ])
    (named_on before more 0)

pub split_suspects : (old new : List State) (s f g : ℕ) (p : Corner) (before : List ℕ) → IsMesh new → IsSplit old new s f g p → KeepsSuspects old new before (before ++ s ∷ f ∷ g ∷ [])
split_suspects old new s f g p before mesh is = named_among old new before (s ∷ f ∷ g ∷ []) mesh (λ i t there.
    elim (cases_eq i s) as (λ _. IsOneOrKept old new (s ∷ f ∷ g ∷ []) i) [
      | inl e ↦ inl (0, ap Some (sym e))
      | inr not_s ↦ elim (cases_eq i f) as (λ _. IsOneOrKept old new (s ∷ f ∷ g ∷ []) i) [
        | inl e ↦ inl (1, ap Some (sym e))
        | inr not_f ↦ elim (cases_eq i g) as (λ _. IsOneOrKept old new (s ∷ f ∷ g ∷ []) i) [
          | inl e ↦ inl (2, ap Some (sym e))
          | inr not_g ↦ inr (is.rest i not_s not_f not_g)
        ]
      ]
    ])

pub edge_split_suspects : (old new : List State) (s : ℕ) (k : Side) (p : Corner) (n f g : ℕ) (before : List ℕ) → IsMesh new → IsEdgeSplit old new s k p n f g → KeepsSuspects old new before (before ++ s ∷ n ∷ f ∷ g ∷ [])
edge_split_suspects old new s k p n f g before mesh is = named_among old new before (s ∷ n ∷ f ∷ g ∷ []) mesh (λ i t there.
    elim (cases_eq i s) as (λ _. IsOneOrKept old new (s ∷ n ∷ f ∷ g ∷ []) i) [
      | inl e ↦ inl (0, ap Some (sym e))
      | inr not_s ↦ elim (cases_eq i n) as (λ _. IsOneOrKept old new (s ∷ n ∷ f ∷ g ∷ []) i) [
        | inl e ↦ inl (1, ap Some (sym e))
        | inr not_n ↦ elim (cases_eq i f) as (λ _. IsOneOrKept old new (s ∷ n ∷ f ∷ g ∷ []) i) [
          | inl e ↦ inl (2, ap Some (sym e))
          | inr not_f ↦ elim (cases_eq i g) as (λ _. IsOneOrKept old new (s ∷ n ∷ f ∷ g ∷ []) i) [
            | inl e ↦ inl (3, ap Some (sym e))
            | inr not_g ↦ inr (is.rest i not_s not_n not_f not_g)
          ]
        ]
      ]
    ])

pub flip_suspects : (old new : List State) (s : ℕ) (k : Side) (n : ℕ) (before : List ℕ) → IsMesh new → IsFlipped old new s k n → KeepsSuspects old new before (before ++ s ∷ n ∷ [])
flip_suspects old new s k n before mesh is = named_among old new before (s ∷ n ∷ []) mesh (λ i t there.
    elim (cases_eq i s) as (λ _. IsOneOrKept old new (s ∷ n ∷ []) i) [
      | inl e ↦ inl (0, ap Some (sym e))
      | inr not_s ↦ elim (cases_eq i n) as (λ _. IsOneOrKept old new (s ∷ n ∷ []) i) [
        | inl e ↦ inl (1, ap Some (sym e))
        | inr not_n ↦ inr (is.rest i not_s not_n)
      ]
    ])

pub recount_suspects : (old new : List State) (s : ℕ) (k : Side) (n m : ℕ) (before : List ℕ) → IsMesh new → IsRecounted old new s k n m → KeepsSuspects old new before (before ++ s ∷ n ∷ [])
recount_suspects old new s k n m before mesh is = named_among old new before (s ∷ n ∷ []) mesh (λ i t there.
    elim (cases_eq i s) as (λ _. IsOneOrKept old new (s ∷ n ∷ []) i) [
      | inl e ↦ inl (0, ap Some (sym e))
      | inr not_s ↦ elim (cases_eq i n) as (λ _. IsOneOrKept old new (s ∷ n ∷ []) i) [
        | inl e ↦ inl (1, ap Some (sym e))
        | inr not_n ↦ inr (is.rest i not_s not_n)
      ]
    ])

pub unsplit_suspects : (old new : List State) (s : ℕ) (k : Side) (f g : ℕ) (before : List ℕ) → IsMesh new → IsUnsplit old new s k f g → KeepsSuspects old new before (before ++ s ∷ [])
unsplit_suspects old new s k f g before mesh is = named_among old new before (s ∷ []) mesh (λ i t there.
    elim (cases_eq i s) as (λ _. IsOneOrKept old new (s ∷ []) i) [
      | inl e ↦ inl (0, ap Some (sym e))
      | inr not_s ↦ elim (cases_eq i f) as (λ _. IsOneOrKept old new (s ∷ []) i) [
        | inl e ↦ absurd (none-some t (sym (ap joined is.f_free) ∙ ap (triangle_at new) (sym e) ∙ there))
        | inr not_f ↦ elim (cases_eq i g) as (λ _. IsOneOrKept old new (s ∷ []) i) [
          | inl e ↦ absurd (none-some t (sym (ap joined is.g_free) ∙ ap (triangle_at new) (sym e) ∙ there))
          | inr not_g ↦ inr (is.rest i not_s not_f not_g)
        ]
      ]
    ])

pub edge_unsplit_suspects : (old new : List State) (s : ℕ) (k : Side) (f n g : ℕ) (before : List ℕ) → IsMesh new → IsEdgeUnsplit old new s k f n g → KeepsSuspects old new before (before ++ s ∷ n ∷ [])
edge_unsplit_suspects old new s k f n g before mesh is = named_among old new before (s ∷ n ∷ []) mesh (λ i t there.
    elim (cases_eq i s) as (λ _. IsOneOrKept old new (s ∷ n ∷ []) i) [
      | inl e ↦ inl (0, ap Some (sym e))
      | inr not_s ↦ elim (cases_eq i f) as (λ _. IsOneOrKept old new (s ∷ n ∷ []) i) [
        | inl e ↦ absurd (none-some t (sym (ap joined is.f_free) ∙ ap (triangle_at new) (sym e) ∙ there))
        | inr not_f ↦ elim (cases_eq i n) as (λ _. IsOneOrKept old new (s ∷ n ∷ []) i) [
          | inl e ↦ inl (1, ap Some (sym e))
          | inr not_n ↦ elim (cases_eq i g) as (λ _. IsOneOrKept old new (s ∷ n ∷ []) i) [
            | inl e ↦ absurd (none-some t (sym (ap joined is.g_free) ∙ ap (triangle_at new) (sym e) ∙ there))
            | inr not_g ↦ inr (is.rest i not_s not_f not_n not_g)
          ]
        ]
      ]
    ])
