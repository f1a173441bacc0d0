-- What a reader has read, and what it answers at the end of the bytes.
use Rattle.std.specs.Prelude.{◌≡◌, ℕ, List, Option, Some, None}
use Rattle.landxml_read.specs.declared.fault.ReadFault.{ReadFault}
use Rattle.landxml_read.specs.declared.fault.ReadFault.TheVariants.{Doc, Memory}
use Rattle.landxml_read.specs.declared.course.Course.{Course}
use Rattle.landxml_read.specs.declared.raw.RawDoc.{RawDoc}
use Rattle.landxml_read.specs.declared.reader.Reader.{Reader}
use Rattle.landxml_read.specs.Markup.{Document}
use Rattle.landxml_read.specs.Answer.{IsTreeOf}
use Rattle.landxml_read.specs.Lists.{unit_of, surfaces_of}
use Rattle.landxml_read.specs.Course.{HasTaken, IsShown, IsEnd}

-- how many bytes were fed without a fault
abbrev pub fed : Reader → ℕ
fed r = r.course.standing.offset

-- what was read: where it stands, or what ended it
abbrev pub HasReadBy : List ℕ → Course → Option ReadFault → Type 0
HasReadBy seen c None = HasTaken seen c
HasReadBy seen c (Some e) = IsEnd seen e

-- what the reader has read
abbrev pub HasReadAll : List ℕ → Reader → Type 0
HasReadAll seen r = HasReadBy seen r.course r.ended

-- what the tree holds
pub record IsDocOf (d : Document) (doc : RawDoc) : Type 0 where
  pub unit : doc.unit ≡ unit_of d
  pub surfaces : doc.surfaces ≡ surfaces_of d

-- the bytes spell a tree without a fault, and this is what it holds
abbrev pub IsRead : List ℕ → RawDoc → Type 0
IsRead bytes doc = (d : Document) × IsTreeOf bytes d × IsDocOf d doc

-- what else the end of the bytes is answered: their fault
abbrev pub IsEndOf : List ℕ → ReadFault → Type 0
IsEndOf bytes (Doc f) = IsShown bytes f
IsEndOf bytes Memory = Unit {0}
