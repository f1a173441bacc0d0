-- What an edit comes to on a version.
use Rattle.std.specs.Prelude.{◌≡◌, Bool, ◌||◌, List, length, None, Some, is_none}
use Rattle.ground_model.specs.declared.edit.Edit.{Edit}
use Rattle.ground_model.specs.declared.entry.Entry.{Entry}
use Rattle.ground_model.specs.declared.limits.Limits.{Limits}
use Rattle.ground_model.specs.Content.{is_new_line}
use Rattle.ground_model.specs.History.{content_of}
use Rattle.ground_model.specs.Refusal.{refusal}
use Rattle.turn_lock.specs.declared.journal.Journal.{Journal}
use Rattle.store.specs.declared.outcome.Outcome.{Outcome}
use Rattle.store.specs.declared.outcome.Outcome.TheVariants.{Lawful, Refused}
use Rattle.store.specs.Versions.{newest_refusal, IsMadeBy}

-- whether trying the edit takes memory: a new line takes some before it is known whether it is lawful, any other edit only where it is
abbrev pub takes_room : Limits → List Entry → Edit → Bool
takes_room limits h edit = is_new_line edit || is_none (refusal (content_of h) (length h) limits edit)

-- lawful, with the surface that it makes; or refused, with the first cause
abbrev pub IsOutcome : Journal → Edit → Outcome → Type 0
IsOutcome j edit (Lawful made) = (newest_refusal j edit ≡ None) × IsMadeBy j edit made
IsOutcome j edit (Refused cause) = newest_refusal j edit ≡ Some cause
