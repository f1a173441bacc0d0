-- Where encoding and markup stand after some bytes.
use Rattle.std.specs.Prelude.{◌≡◌, ℕ, ◌-◌, ◌≤◌, ◌==◌, ◌&&◌, if◌then◌else◌, List, ◌++◌, length, Option, Some, None}
use Rattle.landxml_read.specs.declared.standing.Standing.{Standing}
use Rattle.landxml_read.specs.declared.markup.Outline.{Outline}
use Rattle.landxml_read.specs.declared.fault.DocCause.TheVariants.{Doctype, Syntax}
use Rattle.landxml_read.specs.declared.utf8.Utf8.TheVariants.{Ready}
use Rattle.landxml_read.specs.declared.fault.DocFault.{DocFault}
use Rattle.landxml_read.specs.Faults.{fault}
use Rattle.landxml_read.specs.Answer.{IsLastUtf8, IsOutlineFault}
use Rattle.landxml_read.specs.Scan.{run, start, is_bang}
use Rattle.landxml_read.specs.Utf8.{utf8_run}

-- where encoding and markup stand after the bytes
pub record StandsAt (seen : List ℕ) (s : Standing) : Type 0 where
  pub utf8 : utf8_run (Some Ready) seen ≡ Some s.utf8
  pub scan : run (Some start) seen ≡ Some s.scan
  pub offset : s.offset ≡ length seen
  pub within : s.sequence ≤ length seen
  pub sequence : IsLastUtf8 seen s.sequence

-- the fault is that of the bytes, shown by the byte at an offset
abbrev pub IsShownAt : ℕ → List ℕ → DocFault → Type 0
IsShownAt show bytes f = IsOutlineFault bytes (fault show f.cause f.at)

-- what a byte that the scan doesn't take is reported as: after <! a D is a document type declaration, all else is syntax
abbrev pub IsStrayFault : Standing → ℕ → DocFault → Type 0
IsStrayFault s b f = f ≡ (if b == 68 && is_bang s.scan.part then record { at = s.offset - 2; cause = Doctype } else record { at = s.offset; cause = Syntax })

-- what the reader has read: where encoding and markup stand after it, or the fault that it shows, whatever comes after it
abbrev pub HasRead : List ℕ → Outline → Type 0
HasRead seen o = by_fault o.fault where
  by_fault : Option DocFault → Type 0
  by_fault None = StandsAt seen o.standing
  by_fault (Some f) = (more : List ℕ) → (show : ℕ) × IsShownAt show (seen ++ more) f
