-- What a draft is loaded as: the journal that its edits make, and the first of them that is refused.
use Rattle.std.specs.Prelude.{◌≡◌, ℕ, ◌+◌, ◌-◌, List, [], ◌∷◌, length, Option, None, Some}
use Rattle.ground_model.specs.declared.edit.Edit.{Edit}
use Rattle.ground_model.specs.declared.limits.Limits.{Limits}
use Rattle.ground_model.specs.declared.refusal.Refusal.{Refusal}
use Rattle.turn_lock.specs.declared.journal.Journal.{Journal}
use Rattle.landxml_surface.specs.declared.draft.Draft.{Draft}
use Rattle.store.specs.Versions.{newest_refusal, with_next}

-- the journal of a draft's surface before its edits
abbrev pub ground_of : Draft → Limits → Journal
ground_of d limits = record { head = d.head; limits = limits; entries = [] }

-- the journal with each of the edits as the next entry of author 0
abbrev pub with_edits : Journal → List Edit → Journal
with_edits j [] = j
with_edits j (edit ∷ edits) = with_edits (with_next 0 j edit) edits

-- the front and the cause where there is one, and else what comes later
abbrev pub refused_by : ℕ → Option Refusal → Option (ℕ × Refusal) → Option (ℕ × Refusal)
refused_by front None later = later
refused_by front (Some cause) later = Some (front, cause)

-- of edits that are made one after the other, the first that is refused: the front there, and why
abbrev pub first_refused : Journal → List Edit → Option (ℕ × Refusal)
first_refused j [] = None
first_refused j (edit ∷ edits) = refused_by (length j.entries) (newest_refusal j edit) (first_refused (with_next 0 j edit) edits)

-- no edit is refused, and the journal afterwards has all of them
pub record Loads (before after : Journal) (edits : List Edit) : Type 0 where
  pub lawful : first_refused before edits ≡ None
  pub journal : after ≡ with_edits before edits

-- an edit is refused for this cause, as the first: after so many points it is the line with this number, counted from 1, and 0 for a point
pub record Refuses (before : Journal) (edits : List Edit) (points line : ℕ) (cause : Refusal) : Type 0 where
  pub front : ℕ
  pub first : first_refused before edits ≡ Some (front, cause)
  pub number : line ≡ front + 1 - points

-- all edits are made, or one is refused
abbrev pub Ends : ℕ → Journal → Journal → List Edit → Option (ℕ × Refusal) → Type 0
Ends points before after edits None = Loads before after edits
Ends points before after edits (Some r) = Refuses before edits points r.0 r.1
