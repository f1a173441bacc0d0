-- The report on a document: a line for each surface, and one more.
use Rattle.std.specs.Prelude.{◌≡◌, ℕ, ◌+◌, Bool, true, false, List, [], ◌∷◌, ◌++◌, codes, if◌then◌else◌, Option, None, Some, is_none, Result, Ok, Err}
use Rattle.std.specs.List.{list_all}
use Rattle.std.specs.Io.KnownBytes.{Appends}
use Rattle.ground_io.specs.Causes.{Rose}
use Rattle.ground_io.specs.Streams.{AppendsSome}
use Rattle.ground_model.specs.declared.limits.Limits.{Limits}
use Rattle.ground_model.specs.declared.refusal.Refusal.{Refusal}
use Rattle.landxml_surface.specs.declared.draft.Draft.{Draft}
use Rattle.landxml_surface.specs.declared.origin.OriginRule.{OriginRule}
use Rattle.line_protocol.specs.Replies.{spaced}
use Rattle.document_source.specs.declared.drafted.Drafted.{Drafted}
use Rattle.document_source.specs.declared.fault.SourceFault.{SourceFault}
use Rattle.document_source.specs.Reading.{ReadsDrafts}
use Rattle.document_commands.specs.declared.ending.Ending.{Ending}
use Rattle.document_commands.specs.declared.ending.Ending.TheVariants.{Done, BadDocument, ReadFault, WriteFault, Memory, TooLarge, BadSurface}
use Rattle.document_commands.specs.Lines.{line_text}
use Rattle.document_commands.specs.Loaded.{refused, facets_of}
use Rattle.document_commands.specs.Reaching.{refusal_of}
use Rattle.document_commands.specs.Streams.{Stream, Sides, WritesLine, Refuses, HasReadCause}

-- a surface's line, and then others, where it can be loaded
abbrev pub lines_by : Option (ℕ × Refusal) → List ℕ → List ℕ → List ℕ
lines_by None line more = line ++ more
lines_by (Some r) line more = []

-- after so many surfaces, the lines of these up to the first that can't be loaded
unfoldable pub lines_after : Limits → ℕ → List Draft → List ℕ
lines_after limits k [] = []
lines_after limits k (d ∷ ds) = lines_by (refused limits d) (line_text (k + 1) d (facets_of limits d)) (lines_after limits (k + 1) ds)

-- the fault line of a surface, where it can't be loaded, and else a later line
abbrev pub last_by : Option (ℕ × Refusal) → ℕ → Draft → List ℕ → List ℕ
last_by None number d later = later
last_by (Some r) number d later = refusal_of number d r

-- after so many surfaces, the last line: the fault of the first of these that can't be loaded, or how many surfaces there are in all
unfoldable pub last_after : Limits → ℕ → List Draft → List ℕ
last_after limits k [] = codes "surfaces" ++ spaced k ++ 10 ∷ []
last_after limits k (d ∷ ds) = last_by (refused limits d) (k + 1) d (last_after limits (k + 1) ds)

-- all surfaces can be loaded
abbrev pub are_loaded : Limits → List Draft → Bool
are_loaded limits ds = list_all (λ d. is_none (refused limits d)) ds

-- the whole text
abbrev pub report_text : Limits → List Draft → List ℕ
report_text limits ds = lines_after limits 0 ds ++ last_after limits 0 ds

-- how many surfaces there are, where all can be loaded
abbrev pub closing : Limits → List Draft → List ℕ
closing limits ds = if are_loaded limits ds then last_after limits 0 ds else []

-- the text but for a fault line
abbrev pub sound_text : Limits → List Draft → List ℕ
sound_text limits ds = lines_after limits 0 ds ++ closing limits ds

-- how a report on these surfaces ends
abbrev pub Reports : Limits → List Draft → Stream → Stream → Ending → Type 0
Reports limits ds before after Done = (are_loaded limits ds ≡ true) × Appends before.bytes after.bytes (report_text limits ds) × (after.faults ≡ before.faults)
Reports limits ds before after BadSurface = (are_loaded limits ds ≡ false) × WritesLine before after (lines_after limits 0 ds) (last_after limits 0 ds)
Reports limits ds before after WriteFault = AppendsSome before.bytes after.bytes (sound_text limits ds) × Rose before.faults after.faults
Reports limits ds before after Memory = AppendsSome before.bytes after.bytes (sound_text limits ds) × (after.faults ≡ before.faults)
Reports limits ds before after BadDocument = ⊥
Reports limits ds before after ReadFault = ⊥
Reports limits ds before after TooLarge = ⊥

-- what is written for what came of a reading
abbrev pub Tells : Limits → Stream → Stream → Ending → Result Drafted SourceFault → Type 0
Tells limits before after end (Ok drafted) = Reports limits drafted.drafts before after end
Tells limits before after end (Err fault) = Refuses before after end fault

-- a document is read, and its surfaces are reported
pub record Checks (rule : OriginRule) (limits : Limits) (before after : Sides) (end : Ending) : Type 0 where
  pub came : Result Drafted SourceFault
  pub reads : ReadsDrafts rule before.source.bytes after.source.bytes came
  pub cause : HasReadCause before.source after.source came
  pub tells : Tells limits before.sink after.sink end came
