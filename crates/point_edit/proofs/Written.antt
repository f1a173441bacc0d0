-- What a script names is what was written.
use Rattle.std.proofs.Common.{◌≡◌, ◌⊎◌, ℕ, Some, List, [], ◌∷◌, ◌++◌, sym, ap, subst, ◌∙◌, inl, inr, arith}
use Rattle.std.specs.List.{slice_get}
use Rattle.std.proofs.lemmas.Bool.{cases_eq}
use Rattle.ground_model.specs.declared.corner.Corner.{Corner}
use Rattle.ground_model.specs.Place.{Coords}
use Rattle.locate.specs.declared.spot.Spot.{Spot}
use Rattle.locate.specs.declared.spot.Spot.TheVariants.{Inside, OnEdge, Corner as AtCorner}
use Rattle.tri_pages.specs.Slots.{State}
use Rattle.mesh.specs.EdgeSplits.{IsEdgeSplit}
use Rattle.mesh.specs.Faces.{face_at}
use Rattle.mesh.specs.FlipRuns.{Flip, AreFlips, slots_named}
use Rattle.mesh.specs.Flips.{IsFlipped}
use Rattle.mesh.specs.Net.{Side, slots_of}
use Rattle.mesh.specs.Splits.{IsSplit}
use Rattle.mesh.specs.Suspects.{IsNamedFrom}
use Rattle.mesh.proofs.Legality.{named_on, named_now}
use Rattle.point_edit.specs.Insertions.{IsPlaced}
use Rattle.point_edit.specs.Results.{NamesWritten}

-- the slot is named, or keeps its face
abbrev Kept : List State → List State → List ℕ → ℕ → Type 0
Kept old new script i = IsNamedFrom script 0 i ⊎ (face_at (slots_of new) i ≡ face_at (slots_of old) i)

pub named : (xs : List ℕ) (j i : ℕ) → slice_get xs j ≡ Some i → IsNamedFrom xs 0 i
named xs j i at = record { index = j; later = omega arith; at = at }

split_written : (old new : List State) (s f g : ℕ) (p : Corner) → IsSplit old new s f g p → NamesWritten old new (s ∷ f ∷ g ∷ [])
split_written old new s f g p is = λ i.
    elim (cases_eq i s) as (λ _. Kept old new (s ∷ f ∷ g ∷ []) i) [
      | inl e ↦ inl (named (s ∷ f ∷ g ∷ []) 0 i (ap Some (sym e)))
      | inr not_s ↦ elim (cases_eq i f) as (λ _. Kept old new (s ∷ f ∷ g ∷ []) i) [
        | inl e ↦ inl (named (s ∷ f ∷ g ∷ []) 1 i (ap Some (sym e)))
        | inr not_f ↦ elim (cases_eq i g) as (λ _. Kept old new (s ∷ f ∷ g ∷ []) i) [
          | inl e ↦ inl (named (s ∷ f ∷ g ∷ []) 2 i (ap Some (sym e)))
          | inr not_g ↦ inr (is.rest i not_s not_f not_g)
        ]
      ]
    ]

edge_split_written : (old new : List State) (s : ℕ) (k : Side) (p : Corner) (n f g : ℕ) → IsEdgeSplit old new s k p n f g → NamesWritten old new (s ∷ n ∷ f ∷ g ∷ [])
edge_split_written old new s k p n f g is = λ i.
    elim (cases_eq i s) as (λ _. Kept old new (s ∷ n ∷ f ∷ g ∷ []) i) [
      | inl e ↦ inl (named (s ∷ n ∷ f ∷ g ∷ []) 0 i (ap Some (sym e)))
      | inr not_s ↦ elim (cases_eq i n) as (λ _. Kept old new (s ∷ n ∷ f ∷ g ∷ []) i) [
        | inl e ↦ inl (named (s ∷ n ∷ f ∷ g ∷ []) 1 i (ap Some (sym e)))
        | inr not_n ↦ elim (cases_eq i f) as (λ _. Kept old new (s ∷ n ∷ f ∷ g ∷ []) i) [
          | inl e ↦ inl (named (s ∷ n ∷ f ∷ g ∷ []) 2 i (ap Some (sym e)))
          | inr not_f ↦ elim (cases_eq i g) as (λ _. Kept old new (s ∷ n ∷ f ∷ g ∷ []) i) [
            | inl e ↦ inl (named (s ∷ n ∷ f ∷ g ∷ []) 3 i (ap Some (sym e)))
            | inr not_g ↦ inr (is.rest i not_s not_n not_f not_g)
          ]
        ]
      ]
    ]

pub flip_written : (old new : List State) (s : ℕ) (k : Side) (n : ℕ) → IsFlipped old new s k n → NamesWritten old new (s ∷ n ∷ [])
flip_written old new s k n is = λ i.
    elim (cases_eq i s) as (λ _. Kept old new (s ∷ n ∷ []) i) [
      | inl e ↦ inl (named (s ∷ n ∷ []) 0 i (ap Some (sym e)))
      | inr not_s ↦ elim (cases_eq i n) as (λ _. Kept old new (s ∷ n ∷ []) i) [
        | inl e ↦ inl (named (s ∷ n ∷ []) 1 i (ap Some (sym e)))
        | inr not_n ↦ inr (is.rest i not_s not_n)
      ]
    ]

-- one script after the other
pub written_on : (old mid new : List State) (xs ys : List ℕ) → NamesWritten old mid xs → NamesWritten mid new ys → NamesWritten old new (xs ++ ys)
written_on old mid new xs ys first_part last_part = λ i. elim (last_part i) as (λ _. Kept old new (xs ++ ys) i) [
  | inl w ↦ inl (named_now xs ys 0 w.index i (omega arith) w.at)
  | inr late ↦ elim (first_part i) as (λ _. Kept old new (xs ++ ys) i) [
    | inl w ↦ inl (named_on xs ys 0 i w)
    | inr early ↦ inr (late ∙ early)
  ]
]

pub flips_written : (fs : List Flip) (old new : List State) → AreFlips fs old new → NamesWritten old new (slots_named fs)
flips_written [] old new same = λ i. inr (ap (λ slots. face_at (slots_of slots) i) (sym same))
flips_written (f ∷ fs) old new run = written_on old run.0 new (f.slot ∷ f.beyond ∷ []) (slots_named fs) (flip_written old run.0 f.slot f.side f.beyond run.1.is) (flips_written fs run.0 new run.2)

pub placed_written : (old new : List State) (spot : Spot) (p : Coords) (script : List ℕ) → IsPlaced old new spot p script → NamesWritten old new script
placed_written old new (Inside s) p script x = subst (λ xs. NamesWritten old new xs) (sym x.named) (split_written old new s x.f x.g _ x.is)
placed_written old new (OnEdge s k) p script x = subst (λ xs. NamesWritten old new xs) (sym x.named) (edge_split_written old new s _ _ x.n x.f x.g x.is)
placed_written old new (AtCorner s k) p script x = absurd x
