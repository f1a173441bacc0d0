-- What a command does to its source and its sink.
use Rattle.std.specs.Prelude.{◌≡◌, ◌≢◌, ℕ, ◌≤◌, ◌⊎◌, List, [], ◌++◌, length, take, Option, Result, Err}
use Rattle.std.specs.Io.KnownBytes.{Appends}
use Rattle.ground_io.specs.Causes.{Rose}
use Rattle.document_source.specs.declared.drafted.Drafted.{Drafted}
use Rattle.document_source.specs.declared.fault.SourceFault.{SourceFault}
use Rattle.document_source.specs.declared.fault.SourceFault.TheVariants.{Document, TooLarge, Failed, Memory}
use Rattle.document_commands.specs.declared.ending.Ending.{Ending}
use Rattle.document_commands.specs.declared.ending.Ending.TheVariants as endings
use Rattle.document_commands.specs.Faults.{document_line, cause_word, too_large_line}

-- a source or a sink at one moment: the bytes that it has left, or that were written to it, where they are known, and its count of faults
pub record Stream : Type 0 where
  pub bytes : Option (List ℕ)
  pub faults : ℕ

abbrev pub stream : Option (List ℕ) → ℕ → Stream
stream bytes faults = record { bytes = bytes; faults = faults }

-- the source and the sink of a command
pub record Sides : Type 0 where
  pub source : Stream
  pub sink : Stream

abbrev pub sides : Option (List ℕ) → ℕ → Option (List ℕ) → ℕ → Sides
sides left read_faults written write_faults = record { source = stream left read_faults; sink = stream written write_faults }

-- the text was written, and the line after it, or a beginning of the line where the count of faults rose
pub record WritesLine (before after : Stream) (text line : List ℕ) : Type 0 where
  pub count : ℕ
  pub within : count ≤ length line
  pub appended : Appends before.bytes after.bytes (text ++ take count line)
  pub cause : (count ≡ length line) ⊎ Rose before.faults after.faults

-- nothing was written, and no write failed
pub record WritesNothing (before after : Stream) : Type 0 where
  pub bytes : after.bytes ≡ before.bytes
  pub faults : after.faults ≡ before.faults

-- how a command ends whose source gave no drafts
abbrev pub Refuses : Stream → Stream → Ending → SourceFault → Type 0
Refuses before after end (Document f) = (end ≡ endings.BadDocument) × WritesLine before after [] (document_line f.at (cause_word f.cause))
Refuses before after end TooLarge = (end ≡ endings.TooLarge) × WritesLine before after [] too_large_line
Refuses before after end Failed = (end ≡ endings.ReadFault) × WritesNothing before after
Refuses before after end Memory = (end ≡ endings.Memory) × WritesNothing before after

-- the count of faults of reads rose where a read failed, and else it stands
pub record HasReadCause (before after : Stream) (result : Result Drafted SourceFault) : Type 0 where
  pub failed : result ≡ Err Failed → Rose before.faults after.faults
  pub passed : result ≢ Err Failed → after.faults ≡ before.faults
