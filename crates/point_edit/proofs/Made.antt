-- What the script of a removal names is what was written.
use Rattle.std.proofs.Common.{◌≡◌, ◌⊎◌, ℕ, Some, None, List, [], ◌∷◌, ◌++◌, sym, ap, subst, ◌∙◌, inl, inr, arith}
use Rattle.std.specs.Option.{option_map}
use Rattle.std.proofs.lemmas.Bool.{cases_eq}
use Rattle.ground_model.specs.declared.corner.Corner.{Corner}
use Rattle.ground_model.specs.declared.corner.Corner.TheVariants.{At}
use Rattle.ground_model.specs.Place.{Coords}
use Rattle.tri_pages.specs.declared.tri_slot.TriSlot.{TriSlot}
use Rattle.tri_pages.specs.Slots.{State, state_at, triangle_at, free, joined}
use Rattle.mesh.specs.EdgeUnsplits.{IsEdgeUnsplit}
use Rattle.mesh.specs.Faces.{face, face_at}
use Rattle.mesh.specs.FlipRuns.{Flip, slots_named}
use Rattle.mesh.specs.Meshes.{IsMesh, MeshView}
use Rattle.mesh.specs.Net.{Side, slots_of}
use Rattle.mesh.specs.Suspects.{IsNamedFrom}
use Rattle.mesh.specs.Unsplits.{IsUnsplit}
use Rattle.mesh.proofs.Legality.{named_on, named_now}
use Rattle.mesh.proofs.SheetLaw.{real}
use Rattle.mesh.proofs.Slots.{slot_in}
use Rattle.point_edit.specs.Removals.{AreFlipsAt, IsClosed, Removal}
use Rattle.point_edit.specs.Results.{NamesMade, NamesWritten}
use Rattle.point_edit.proofs.Written.{named, flip_written, flips_written, written_on}

abbrev Kept : List State → List State → List ℕ → ℕ → Type 0
Kept old new script i = IsNamedFrom script 0 i ⊎ ((face_at (slots_of new) i ≡ face_at (slots_of old) i) ⊎ (face_at (slots_of new) i ≡ None))

made_of_written : (old new : List State) (xs : List ℕ) → NamesWritten old new xs → NamesMade old new xs
made_of_written old new xs h = λ i. elim (h i) as (λ _. Kept old new xs i) [ inl w ↦ inl w | inr e ↦ inr (inl e) ]

made_on : (old mid new : List State) (xs ys : List ℕ) → NamesMade old mid xs → NamesMade mid new ys → NamesMade old new (xs ++ ys)
made_on old mid new xs ys first_part last_part = λ i. elim (last_part i) as (λ _. Kept old new (xs ++ ys) i) [
  | inl w ↦ inl (named_now xs ys 0 w.index i (omega arith) w.at)
  | inr late ↦ elim late as (λ _. Kept old new (xs ++ ys) i) [
    | inr gone ↦ inr (inr gone)
    | inl same ↦ elim (first_part i) as (λ _. Kept old new (xs ++ ys) i) [
      | inl w ↦ inl (named_on xs ys 0 i w)
      | inr early ↦ elim early as (λ _. Kept old new (xs ++ ys) i) [ inl e ↦ inr (inl (same ∙ e)) | inr e ↦ inr (inr (same ∙ e)) ]
    ]
  ]
]

flips_at_written : (c : Corner) (fs : List Flip) (old new : List State) → AreFlipsAt c fs old new → NamesWritten old new (slots_named fs)
flips_at_written c [] old new same = λ i. inr (ap (λ slots. face_at (slots_of slots) i) (sym same))
flips_at_written c (f ∷ fs) old new run = written_on old run.0 new (f.slot ∷ f.beyond ∷ []) (slots_named fs) (flip_written old run.0 f.slot f.side f.beyond run.1.is) (flips_at_written c fs run.0 new run.2)

-- a slot that had a triangle and is free now
freed : (old new : List State) (f : ℕ) (u : TriSlot) → IsMesh old → triangle_at old f ≡ Some u → state_at new f ≡ free → face_at (slots_of new) f ≡ None
freed old new f u mesh there gone = ap (option_map face) (slot_in new f (real old mesh f u there)) ∙ ap (λ o. option_map face (joined o)) gone

unsplit_made : (old new : List State) (s : ℕ) (k : Side) (f g : ℕ) → IsMesh old → IsUnsplit old new s k f g → NamesMade old new (s ∷ [])
unsplit_made old new s k f g mesh is = λ i.
    elim (cases_eq i s) as (λ _. Kept old new (s ∷ []) i) [
      | inl e ↦ inl (named (s ∷ []) 0 i (ap Some (sym e)))
      | inr not_s ↦ elim (cases_eq i f) as (λ _. Kept old new (s ∷ []) i) [
        | inl e ↦ inr (inr (ap (face_at (slots_of new)) e ∙ freed old new f is.ahead mesh is.around.ahead.there is.f_free))
        | inr not_f ↦ elim (cases_eq i g) as (λ _. Kept old new (s ∷ []) i) [
          | inl e ↦ inr (inr (ap (face_at (slots_of new)) e ∙ freed old new g is.before mesh is.around.before.there is.g_free))
          | inr not_g ↦ inr (inl (is.rest i not_s not_f not_g))
        ]
      ]
    ]

edge_unsplit_made : (old new : List State) (s : ℕ) (k : Side) (f n g : ℕ) → IsMesh old → IsEdgeUnsplit old new s k f n g → NamesMade old new (s ∷ n ∷ [])
edge_unsplit_made old new s k f n g mesh is = λ i.
    elim (cases_eq i s) as (λ _. Kept old new (s ∷ n ∷ []) i) [
      | inl e ↦ inl (named (s ∷ n ∷ []) 0 i (ap Some (sym e)))
      | inr not_s ↦ elim (cases_eq i f) as (λ _. Kept old new (s ∷ n ∷ []) i) [
        | inl e ↦ inr (inr (ap (face_at (slots_of new)) e ∙ freed old new f is.ahead mesh is.four.ahead.there is.f_free))
        | inr not_f ↦ elim (cases_eq i n) as (λ _. Kept old new (s ∷ n ∷ []) i) [
          | inl e ↦ inl (named (s ∷ n ∷ []) 1 i (ap Some (sym e)))
          | inr not_n ↦ elim (cases_eq i g) as (λ _. Kept old new (s ∷ n ∷ []) i) [
            | inl e ↦ inr (inr (ap (face_at (slots_of new)) e ∙ freed old new g is.under mesh is.four.under.there is.g_free))
            | inr not_g ↦ inr (inl (is.rest i not_s not_f not_n not_g))
          ]
        ]
      ]
    ]

-- what is named after what was
record IsMore (old new : List State) (before after_it : List ℕ) : Type 0 where
  names : List ℕ
  are : after_it ≡ before ++ names
  made : NamesMade old new names

closed_made : (old new : List State) (before after_it : List ℕ) → IsMesh old → IsClosed old new before after_it → IsMore old new before after_it
closed_made old new before after_it mesh (inl x) = record { names = x.0 ∷ []; are = x.2.named; made = unsplit_made old new x.0 x.1 x.2.f x.2.g mesh x.2.is }
closed_made old new before after_it mesh (inr x) = record { names = x.2.slot ∷ x.2.n ∷ []; are = x.2.named; made = edge_unsplit_made old new x.2.slot x.2.side x.2.f x.2.n x.2.g mesh x.2.is }

pub removal_made : (old new : MeshView) (p : Coords) (script : List ℕ) → (r : Removal old new p script) → IsMesh r.few.slots → NamesMade old.slots new.slots script
removal_made old new p script r mesh =
    let c = closed_made r.few.slots r.without.slots r.named r.then_named mesh r.closed in
    let first = subst (λ xs. NamesMade old.slots r.few.slots xs) (sym r.flips.named) (made_of_written old.slots r.few.slots (slots_named r.flips.flips) (flips_at_written (At p) r.flips.flips old.slots r.few.slots r.flips.are)) in
    let second = subst (λ xs. NamesMade old.slots r.without.slots xs) (sym c.are) (made_on old.slots r.few.slots r.without.slots r.named c.names first c.made) in
    subst (λ xs. NamesMade old.slots new.slots xs) (sym r.legal.named)
    (made_on old.slots r.without.slots new.slots r.then_named (slots_named r.legal.flips) second (made_of_written r.without.slots new.slots (slots_named r.legal.flips) (flips_written r.legal.flips r.without.slots new.slots r.legal.are)))
