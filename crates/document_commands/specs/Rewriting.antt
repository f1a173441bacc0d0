-- A surface of a document, written anew.
use Rattle.std.specs.Prelude.{◌≡◌, ℕ, ◌+◌, Bool, true, List, [], bytes_eq, Option, None, Some, Result, Ok, Err, slice_get}
use Rattle.std.specs.List.{position}
use Rattle.ground_model.specs.declared.limits.Limits.{Limits}
use Rattle.landxml_surface.specs.declared.draft.Draft.{Draft}
use Rattle.landxml_surface.specs.declared.origin.OriginRule.{OriginRule}
use Rattle.landxml_write.specs.Text.{document}
use Rattle.document_source.specs.declared.drafted.Drafted.{Drafted}
use Rattle.document_source.specs.declared.fault.SourceFault.{SourceFault}
use Rattle.document_source.specs.Reading.{ReadsDrafts}
use Rattle.store.specs.Shown.{shown_by}
use Rattle.store.specs.Versions.{StoreView}
use Rattle.document_commands.specs.declared.ending.Ending.{Ending}
use Rattle.document_commands.specs.declared.ending.Ending.TheVariants.{BadDocument}
use Rattle.document_commands.specs.Faults.{missing_line}
use Rattle.document_commands.specs.Loaded.{loaded}
use Rattle.document_commands.specs.Reaching.{Reaches, Writes}
use Rattle.document_commands.specs.Streams.{Stream, Sides, WritesLine, Refuses, HasReadCause}

-- whether the draft is one that is asked for: by its name, or by none
abbrev pub is_asked : Option (List ℕ) → Draft → Bool
is_asked None d = true
is_asked (Some name) d = bytes_eq d.head.name name

-- the draft at an index is loaded, or none is there
abbrev pub OpensAt : Limits → Drafted → Stream → Stream → Result StoreView Ending → Option ℕ → Type 0
OpensAt limits drafted before after (Ok store) None = ⊥
OpensAt limits drafted before after (Err end) None = (end ≡ BadDocument) × WritesLine before after [] (missing_line drafted.length)
OpensAt limits drafted before after result (Some k) = (d : Draft) × (slice_get drafted.drafts k ≡ Some d) × Reaches limits (k + 1) d before after result

-- what comes of what came of a reading: the store of the first draft that is asked for
abbrev pub OpensFor : Option (List ℕ) → Limits → Stream → Stream → Result StoreView Ending → Result Drafted SourceFault → Type 0
OpensFor name limits before after result (Ok drafted) = OpensAt limits drafted before after result (position (is_asked name) drafted.drafts)
OpensFor name limits before after (Ok store) (Err fault) = ⊥
OpensFor name limits before after (Err end) (Err fault) = Refuses before after end fault

-- a document is read, and the first of its surfaces that is asked for is loaded
pub record Opens (name : Option (List ℕ)) (rule : OriginRule) (limits : Limits) (before after : Sides) (result : Result StoreView Ending) : Type 0 where
  pub came : Result Drafted SourceFault
  pub reads : ReadsDrafts rule before.source.bytes after.source.bytes came
  pub cause : HasReadCause before.source after.source came
  pub opens : OpensFor name limits before.sink after.sink result came

-- the document of a draft that is loaded
abbrev pub text_of : Limits → Draft → List ℕ
text_of limits d = document (shown_by (loaded limits d))

-- the draft at this index is written, or none is there
abbrev pub WritesAt : Limits → Drafted → Stream → Stream → Ending → Option ℕ → Type 0
WritesAt limits drafted before after end None = (end ≡ BadDocument) × WritesLine before after [] (missing_line drafted.length)
WritesAt limits drafted before after end (Some k) = (d : Draft) × (slice_get drafted.drafts k ≡ Some d) × Writes limits (k + 1) d (text_of limits d) before after end

-- what is written for what came of a reading: the first draft that is asked for
abbrev pub Answers : Option (List ℕ) → Limits → Stream → Stream → Ending → Result Drafted SourceFault → Type 0
Answers name limits before after end (Ok drafted) = WritesAt limits drafted before after end (position (is_asked name) drafted.drafts)
Answers name limits before after end (Err fault) = Refuses before after end fault

-- a document is read, and the first of its surfaces that is asked for is written
pub record Rewrites (name : Option (List ℕ)) (rule : OriginRule) (limits : Limits) (before after : Sides) (end : Ending) : Type 0 where
  pub came : Result Drafted SourceFault
  pub reads : ReadsDrafts rule before.source.bytes after.source.bytes came
  pub cause : HasReadCause before.source after.source came
  pub answers : Answers name limits before.sink after.sink end came
