-- What a reading of a document has taken, as long as no byte shows a fault, and what ends it.
use Rattle.std.specs.Prelude.{◌≡◌, ℕ, Bool, true, ◌==◌, ◌&&◌, not, nat_lt, List, [], ◌++◌, flat_map, Some}
use Rattle.landxml_read.specs.declared.standing.Standing.{Standing}
use Rattle.landxml_read.specs.declared.tokens.Tokens.{Tokens}
use Rattle.landxml_read.specs.declared.fault.DocFault.{DocFault}
use Rattle.landxml_read.specs.declared.fault.ReadFault.{ReadFault}
use Rattle.landxml_read.specs.declared.fault.ReadFault.TheVariants.{Doc, Memory}
use Rattle.landxml_read.specs.declared.course.Course.{Course}
use Rattle.landxml_read.specs.declared.scan.Part.TheVariants.{Text}
use Rattle.landxml_read.specs.declared.utf8.Utf8.TheVariants.{Ready}
use Rattle.landxml_read.specs.Markup.{is_white, is_free}
use Rattle.landxml_read.specs.Scan.{is_inside}
use Rattle.landxml_read.specs.Faults.{fault, has_text}
use Rattle.landxml_read.specs.Answer.{IsFaultOf}
use Rattle.landxml_read.specs.Events.{Event, event_faults, longer}
use Rattle.landxml_read.specs.Outline.{StandsAt}
use Rattle.landxml_read.specs.Tokens.{kind_in, word_of, reads, at_start}
use Rattle.landxml_read.specs.Gather.{gathered_of}

-- encoding, markup and tokens stand so after the bytes, and they showed no fault
pub record Reads (seen : List ℕ) (s : Standing) (t : Tokens) : Type 0 where
  pub outline : StandsAt seen s
  pub told : List Event
  pub reading : reads (Some at_start) seen ≡ Some (record { scan = s.scan; offset = s.offset; tokens = t; told = told })
  pub quiet : flat_map event_faults told ≡ []

-- so they do, and what the bytes showed was gathered
pub record HasTaken (seen : List ℕ) (c : Course) : Type 0 where
  pub read : Reads seen c.standing c.tokens
  pub gathered : c.gathered ≡ gathered_of read.told

-- the fault is that of the bytes
abbrev pub IsShown : List ℕ → DocFault → Type 0
IsShown bytes f = (show : ℕ) × IsFaultOf bytes (fault show f.cause f.at)

-- what ends a reading: a fault that the bytes show, whatever comes after them; of memory nothing is said
abbrev pub IsEnd : List ℕ → ReadFault → Type 0
IsEnd seen (Doc f) = (more : List ℕ) → IsShown (seen ++ more) f
IsEnd seen Memory = Unit {0}

-- a byte of a word, which is UTF-8 by itself and shows nothing
abbrev pub is_plain_byte : ℕ → Bool
is_plain_byte b = nat_lt b 128 && is_free b && not (is_white b) && not (b == 60) && not (b == 38)

-- such a byte in text that is read
pub record IsLetter (c : Course) (b : ℕ) : Type 0 where
  pub plain : is_plain_byte b ≡ true
  pub part : c.standing.scan.part ≡ Text
  pub level : is_inside c.standing.scan.level ≡ true
  pub utf8 : c.standing.utf8 ≡ Ready
  pub text : has_text (kind_in c.tokens.stack) ≡ true

-- with one byte more of the open word
abbrev pub with_longer : ℕ → ℕ → Tokens → Tokens
with_longer at b t = record t { word_at = (longer at b (word_of t)).at; word = (longer at b (word_of t)).text }
