-- The answer to an edit that was planned at a base.
use Rattle.std.specs.Prelude.{ℕ, ◌+◌, Bool, not, ◌||◌, List, length, take, find, Option, Some, None, is_some, if◌then◌else◌, nat_lt}
use Rattle.ground_model.specs.declared.line.LineId.{LineId}
use Rattle.ground_model.specs.declared.limits.Limits.{Limits}
use Rattle.ground_model.specs.declared.entry.Entry.{Entry}
use Rattle.ground_model.specs.declared.edit.Edit.{Edit}
use Rattle.ground_model.specs.declared.edit.Edit.TheVariants.{AddLine}
use Rattle.ground_model.specs.declared.refusal.Refusal.{Refusal}
use Rattle.ground_model.specs.declared.mark.Mark.{Mark}
use Rattle.ground_model.specs.declared.mark.Mark.TheVariants.{Point, Tri}
use Rattle.ground_model.specs.Content.{Content, level_of}
use Rattle.ground_model.specs.Tri.{is_facet_of}
use Rattle.ground_model.specs.Zone.{zone}
use Rattle.ground_model.specs.History.{content_of, born, entries_of}
use Rattle.ground_model.specs.Refusal.{refusal}

-- a planned edit, and the front that it was planned at
pub record Pending : Type 0 where
  pub base : ℕ
  pub edit : Edit

-- what is answered: a conflict, a refusal, or done, each with the number of entries there then are
pub data Answer : Type 0 where
  Conflict : ℕ → Mark → Answer
  Refused : ℕ → Refusal → Answer
  Done : ℕ → Option LineId → Answer

-- whether the mark is there: the facet as it is, or the point at any level
abbrev pub is_there : Content → Mark → Bool
is_there c (Point p) = is_some (level_of c p)
is_there c (Tri f) = is_facet_of c f

-- whether the mark has changed since the base: it is gone, or was born after
abbrev pub has_changed : List Entry → ℕ → Mark → Bool
has_changed h base m = not (is_there (content_of h) m) || nat_lt base (born h m)

-- the least mark of the plan's zone that has changed; at the newest front there is none
unfoldable pub conflict : List Entry → ℕ → Edit → Option Mark
conflict h base edit = if nat_lt base (length h) then find (has_changed h base) (zone (content_of (take base h)) edit) else None

-- the number that the content gives to a new line
abbrev pub given_number : Content → Edit → Option LineId
given_number c (AddLine kind places) = Some (record { 0 = c.table.next })
given_number c edit = None

-- done, where there is no refusal
abbrev pub by_refusal : List Entry → Edit → Option Refusal → Answer
by_refusal h edit (Some cause) = Refused (length h) cause
by_refusal h edit None = Done (length h + 1) (given_number (content_of h) edit)

-- a conflict comes before a refusal
abbrev pub by_conflict : List Entry → Edit → Option Mark → Option Refusal → Answer
by_conflict h edit (Some m) cause = Conflict (length h) m
by_conflict h edit None cause = by_refusal h edit cause

-- the answer at the history h to an edit that was planned at its first `base` entries
unfoldable pub answer : Limits → List Entry → ℕ → Edit → Answer
answer limits h base edit = by_conflict h edit (conflict h base edit) (refusal (content_of h) (length h) limits edit)

-- the author's next entry, with this edit
abbrev pub next_entry : ℕ → List Entry → Edit → Entry
next_entry author h edit = record { author = author; number = entries_of author h + 1; edit = edit }
