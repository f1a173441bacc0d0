-- A source's bytes, fed to a reader up to the end, a fault or the most that a document has.
use Rattle.std.specs.Prelude.{◌≡◌, ℕ, ◌≤◌, ◌<◌, ◌⊎◌, ⊤, List, ◌++◌, length, take, Option, Result, MatchResult}
use Rattle.std.specs.Io.KnownBytes.{Consumes, IsAtEnd}
use Rattle.landxml_read.specs.declared.raw.RawDoc.{RawDoc}
use Rattle.landxml_read.specs.declared.reader.Reader.{Reader}
use Rattle.landxml_read.specs.Course.{IsShown}
use Rattle.landxml_read.specs.Lawful.{IsLawful}
use Rattle.landxml_read.specs.Reader.{fed, HasReadAll, IsRead}
use Rattle.document_source.specs.declared.drafted.Read.{Read}
use Rattle.document_source.specs.declared.fault.SourceFault.{SourceFault}
use Rattle.document_source.specs.declared.fault.SourceFault.TheVariants.{Document, TooLarge, Failed, Memory}
use Rattle.document_source.specs.Reading.{longest, ShowsFault, ShowsNoFault}

-- a reader that was fed the bytes, which showed no fault
pub record IsGoing (seen : List ℕ) (reader : Reader) (count : ℕ) : Type 0 where
  pub reading : HasReadAll seen reader
  pub quiet : ShowsNoFault seen
  pub taken : fed reader ≡ count
  pub size : count ≡ length seen
  pub within : count ≤ longest

-- what ends the feeding before the end of the bytes
abbrev pub IsCutOff : List ℕ → SourceFault → Type 0
IsCutOff read (Document f) = ShowsFault (take longest read) f
IsCutOff read TooLarge = (longest < length read) × ShowsNoFault (take longest read)
IsCutOff read Failed = (length read ≤ longest) × ShowsNoFault read
IsCutOff read Memory = ⊤

-- one piece more, for whatever was fed before
abbrev pub FeedsPiece : Reader → Reader → ℕ → List ℕ → Result ℕ SourceFault → Type 0
FeedsPiece before after count piece result = (seen : List ℕ) → IsGoing seen before count → MatchResult result (IsGoing (seen ++ piece) after) (IsCutOff (seen ++ piece))

-- all bytes of a source, or those up to what ends the feeding
pub record FeedsAll (before after : Option (List ℕ)) (reader : Reader) (result : Result ℕ SourceFault) : Type 0 where
  pub read : List ℕ
  pub consumed : Consumes before after read
  pub comes : MatchResult result (λ count. IsGoing read reader count × IsAtEnd after) (IsCutOff read)

-- a document that was read to its end
pub record IsReadWhole (read : List ℕ) (left : Option (List ℕ)) (whole : Read) : Type 0 where
  pub doc : IsRead read whole.doc
  pub lawful : IsLawful whole.doc
  pub size : whole.length ≡ length read
  pub within : length read ≤ longest
  pub end : IsAtEnd left

-- what ends the reading of a document, at its end too
abbrev pub IsUnread : List ℕ → Option (List ℕ) → SourceFault → Type 0
IsUnread read left (Document f) = ShowsFault (take longest read) f ⊎ ((length read ≤ longest) × IsAtEnd left × IsShown read f)
IsUnread read left TooLarge = IsCutOff read TooLarge
IsUnread read left Failed = IsCutOff read Failed
IsUnread read left Memory = ⊤

-- a document, or why there is none
pub record ReadsWhole (before after : Option (List ℕ)) (result : Result Read SourceFault) : Type 0 where
  pub read : List ℕ
  pub consumed : Consumes before after read
  pub comes : MatchResult result (IsReadWhole read after) (IsUnread read after)
