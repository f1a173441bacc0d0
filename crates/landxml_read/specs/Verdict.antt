-- The first fault that a byte shows, by what it is to the tokens.
use Rattle.std.specs.Prelude.{ℕ, Bool, ◌==◌, not, List, [], ◌∷◌, length, bytes_eq, Option, Some, None, option_map, if◌then◌else◌}
use Rattle.landxml_read.specs.declared.kind.Kind.{Kind}
use Rattle.landxml_read.specs.declared.tokens.Tokens.{Tokens}
use Rattle.landxml_read.specs.declared.act.Act.{Act}
use Rattle.landxml_read.specs.declared.act.Act.TheVariants.{Pass, Letter, Less, BeginName, Name, BeginAttribute, Attribute, BeginValue, Value, EndValue, Opens, Passes, Closes, Quotes}
use Rattle.landxml_read.specs.declared.fault.DocCause.{DocCause}
use Rattle.landxml_read.specs.declared.fault.DocCause.TheVariants as cause
use Rattle.landxml_read.specs.declared.fault.DocFault.{DocFault}
use Rattle.landxml_read.specs.Markup.{is_white}
use Rattle.landxml_read.specs.Faults.{Fault, has_text, is_miscounted}
use Rattle.landxml_read.specs.Events.{Closing, opening_rows, closing_rows, word_rows}
use Rattle.landxml_read.specs.Tokens.{kind_in, name_in, words_in, kind_of, word_of, opening_at}

-- the cause of the first row whose test holds
abbrev pub first_cause : List (Bool × DocCause) → Option DocCause
first_cause [] = None
first_cause (row ∷ rows) = if row.0 then Some row.1 else first_cause rows

-- the first of some faults
abbrev pub first_of : List Fault → Option DocFault
first_of [] = None
first_of (f ∷ fs) = Some (record { at = f.place; cause = f.cause })

-- a cause at an offset
abbrev pub caused : ℕ → Option DocCause → Option DocFault
caused at cause = option_map (λ c. record { at = at; cause = c }) cause

-- the element that an end tag closes
abbrev pub closing_at : ℕ → Tokens → Closing
closing_at shown t = record { kind = kind_in t.stack; words = words_in t.stack; is_misnamed = not (bytes_eq t.name (name_in t.stack)); at = t.at; shown = shown }

-- of the open word, where one is open
abbrev pub word_verdict : Tokens → Option DocFault
word_verdict t = if length t.word == 0 then None else caused t.word_at (first_cause (word_rows (kind_in t.stack) (word_of t)))

-- of a byte of text
abbrev pub letter_verdict : ℕ → ℕ → Tokens → Option DocFault
letter_verdict at b t =
    if has_text (kind_in t.stack) then (if is_white b then word_verdict t else (if b == 38 then Some (record { at = at; cause = cause.Entity }) else None)) else None

-- of the tag of an empty element: its own faults, and then that it has no words
abbrev pub empty_cause : Kind → Option DocCause → Option DocCause
empty_cause kind (Some c) = Some c
empty_cause kind None = if is_miscounted kind 0 then Some cause.Count else None

-- of a byte at an offset
abbrev pub verdict_of : Act → ℕ → ℕ → Tokens → Option DocFault
verdict_of Letter at b t = letter_verdict at b t
verdict_of Less at b t = word_verdict t
verdict_of Opens at b t = caused t.at (first_cause (opening_rows (opening_at 0 t)))
verdict_of Passes at b t = caused t.at (empty_cause (kind_of t) (first_cause (opening_rows (opening_at 0 t))))
verdict_of Closes at b t = caused t.at (first_cause (closing_rows (closing_at 0 t)))
verdict_of Quotes at b t = if has_text (kind_in t.stack) then Some (record { at = t.at; cause = cause.Entity }) else None
verdict_of Pass at b t = None
verdict_of BeginName at b t = None
verdict_of Name at b t = None
verdict_of BeginAttribute at b t = None
verdict_of Attribute at b t = None
verdict_of BeginValue at b t = None
verdict_of Value at b t = None
verdict_of EndValue at b t = None
