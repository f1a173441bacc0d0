-- What comes of a document that is read from a source: the drafts of its surfaces, or why there are none.
use Rattle.std.specs.Prelude.{◌≡◌, ℕ, ◌≤◌, ◌<◌, ◌^◌, ◌⊎◌, ⊤, List, ◌++◌, length, take, map, Option, None, Some, Result, MatchResult}
use Rattle.std.specs.Io.KnownBytes.{Consumes, IsAtEnd}
use Rattle.landxml_read.specs.declared.fault.DocFault.{DocFault}
use Rattle.landxml_read.specs.declared.fault.ReadFault.{ReadFault}
use Rattle.landxml_read.specs.declared.fault.ReadFault.TheVariants as reader
use Rattle.landxml_read.specs.Markup.{Document as Tree}
use Rattle.landxml_read.specs.Faults.{Fault}
use Rattle.landxml_read.specs.Answer.{Shows, IsTreeOf}
use Rattle.landxml_read.specs.Course.{IsShown}
use Rattle.landxml_read.specs.Lists.{unit_of, surfaces_of}
use Rattle.landxml_surface.specs.declared.draft.Draft.{Draft}
use Rattle.landxml_surface.specs.declared.origin.OriginRule.{OriginRule}
use Rattle.landxml_surface.specs.Drafts.{draft_of, document_faults}
use Rattle.landxml_surface.specs.Faults.{least_of}
use Rattle.document_source.specs.declared.drafted.Drafted.{Drafted}
use Rattle.document_source.specs.declared.fault.SourceFault.{SourceFault}
use Rattle.document_source.specs.declared.fault.SourceFault.TheVariants.{Document, TooLarge, Failed, Memory}

-- the most bytes of a document
abbrev pub longest : ℕ
longest = 2 ^ 28

-- whatever comes after the bytes, no fault is shown by a byte of theirs
abbrev pub ShowsNoFault : List ℕ → Type 0
ShowsNoFault bytes = (more : List ℕ) (f : Fault) → Shows (bytes ++ more) f → length bytes ≤ f.show

-- whatever comes after the bytes, the fault is the document's
abbrev pub ShowsFault : List ℕ → DocFault → Type 0
ShowsFault bytes f = (more : List ℕ) → IsShown (bytes ++ more) f

-- a reader's fault, as its source's
abbrev pub fault_of : ReadFault → SourceFault
fault_of (reader.Doc f) = Document f
fault_of reader.Memory = Memory

-- the bytes spell a document without a fault, whose surfaces have none, and these are their drafts
pub record AreDraftsOf (rule : OriginRule) (bytes : List ℕ) (drafts : List Draft) : Type 0 where
  pub tree : Tree
  pub spelled : IsTreeOf bytes tree
  pub faultless : least_of (document_faults rule (surfaces_of tree)) ≡ None
  pub drafted : drafts ≡ map (draft_of (unit_of tree) rule) (surfaces_of tree)

-- the fault of a whole document: the one that its bytes show, and where they show none, the least of its surfaces
abbrev pub IsFaultOfWhole : OriginRule → List ℕ → DocFault → Type 0
IsFaultOfWhole rule bytes f = IsShown bytes f ⊎ ((tree : Tree) × IsTreeOf bytes tree × (least_of (document_faults rule (surfaces_of tree)) ≡ Some f))

-- a document that was read to its end, with its length
pub record IsWhole (rule : OriginRule) (read : List ℕ) (left : Option (List ℕ)) (drafted : Drafted) : Type 0 where
  pub drafts : AreDraftsOf rule read drafted.drafts
  pub size : drafted.length ≡ length read
  pub within : length read ≤ longest
  pub end : IsAtEnd left

-- why the bytes that were read give no drafts
abbrev pub IsRefused : OriginRule → List ℕ → Option (List ℕ) → SourceFault → Type 0
IsRefused rule read left (Document f) = ShowsFault (take longest read) f ⊎ ((length read ≤ longest) × IsAtEnd left × IsFaultOfWhole rule read f)
IsRefused rule read left TooLarge = (longest < length read) × ShowsNoFault (take longest read)
IsRefused rule read left Failed = (length read ≤ longest) × ShowsNoFault read
IsRefused rule read left Memory = ⊤

-- a source whose bytes were read, before and after, and what came of them
pub record ReadsDrafts (rule : OriginRule) (before after : Option (List ℕ)) (result : Result Drafted SourceFault) : Type 0 where
  pub read : List ℕ
  pub consumed : Consumes before after read
  pub comes : MatchResult result (IsWhole rule read after) (IsRefused rule read after)
