-- A whole session over a link: what was read, which lines were taken, what was written and when, and how it ended.
use Rattle.std.specs.Prelude.{◌≡◌, ◌≢◌, ℕ, ◌+◌, ◌≤◌, ◌<◌, Bool, true, false, List, [], ◌∷◌, ◌++◌, take, length, All, if◌then◌else◌, Option, Some, None, ⊤}
use Rattle.std.specs.List.{list_any, flat_map}
use Rattle.std.specs.Io.KnownBytes.{Appends, Consumes, IsAtEnd}
use Rattle.ground_io.specs.Order.{Event, GoesOnWith}
use Rattle.ground_io.specs.Wires.{WireView}
use Rattle.ground_model.specs.declared.entry.Entry.{Entry}
use Rattle.line_protocol.specs.declared.reply.Reply.{Reply}
use Rattle.line_protocol.specs.Spoken.{Spoken, Sync, Plan, Commit, Apply, Level, Contour, Volume, Stat, Export}
use Rattle.line_protocol.specs.Spoken as ask
use Rattle.line_protocol.specs.Grammar.{spoken}
use Rattle.session.specs.Lines.{ended, whole_lines, unfinished}
use Rattle.session.specs.Order.{received as received_in, AnswersInTime}
use Rattle.session.specs.Texts.{text_at}
use Rattle.session.specs.Fronts.{Visits}
use Rattle.session.specs.Told.{told_nothing, fronts_told}
use Rattle.session.specs.Transcript.{Sitting, Transcript}
use Rattle.session.specs.declared.conversation.Ended.{Ended}
use Rattle.session.specs.declared.conversation.Ended.TheVariants.{Quit, End, Cut, LongLine, Spent, ReadFault, WriteFault, Memory}

-- the longest line, in bytes with its end
abbrev pub line_limit : ℕ
line_limit = 131072

-- whether a request, if there is one, is to quit
abbrev pub asks_quit : Option Spoken → Bool
asks_quit None = false
asks_quit (Some ask.Quit) = true
asks_quit (Some Sync) = false
asks_quit (Some (Plan edit)) = false
asks_quit (Some Commit) = false
asks_quit (Some (Apply edit)) = false
asks_quit (Some (Level p)) = false
asks_quit (Some (Contour z)) = false
asks_quit (Some (Volume z)) = false
asks_quit (Some Stat) = false
asks_quit (Some Export) = false

-- whether a line asks to quit
abbrev pub is_quit : List ℕ → Bool
is_quit line = asks_quit (spoken line)

-- the lines up to the first that asks to quit
abbrev pub up_to_quit : List (List ℕ) → List (List ℕ)
up_to_quit [] = []
up_to_quit (line ∷ lines) = if is_quit line then line ∷ [] else line ∷ up_to_quit lines

-- whether one of the lines asks to quit
abbrev pub has_quit : List (List ℕ) → Bool
has_quit lines = list_any is_quit lines

-- no line asked to quit, and the line that has not ended yet is short
pub record IsOpen (read : List ℕ) : Type 0 where
  pub no_quit : has_quit (whole_lines read) ≡ false
  pub short : length (unfinished read) < line_limit

-- which bytes a session read that ended so, where the source has `left` left
abbrev pub IsEnding : ℕ → List ℕ → Option (List ℕ) → Ended → Type 0
IsEnding budget read left Quit = has_quit (whole_lines read) ≡ true
IsEnding budget read left End = IsOpen read × (unfinished read ≡ []) × (length read < budget) × IsAtEnd left
IsEnding budget read left Cut = IsOpen read × (unfinished read ≢ []) × (length read < budget) × IsAtEnd left
IsEnding budget read left LongLine = (has_quit (whole_lines read) ≡ false) × (length (unfinished read) ≡ line_limit)
IsEnding budget read left Spent = IsOpen read × (length read ≡ budget)
IsEnding budget read left ReadFault = IsOpen read × (length read < budget)
IsEnding budget read left WriteFault = ⊤
IsEnding budget read left Memory = read ≡ []

-- the lines that were taken: all of these, but where a reply could not be written, those up to its line
abbrev pub AreTaken : List (List ℕ) → List (List ℕ) → Ended → Type 0
AreTaken lines taken WriteFault = (n : ℕ) × (taken ≡ take n lines)
AreTaken lines taken Quit = taken ≡ lines
AreTaken lines taken End = taken ≡ lines
AreTaken lines taken Cut = taken ≡ lines
AreTaken lines taken LongLine = taken ≡ lines
AreTaken lines taken Spent = taken ≡ lines
AreTaken lines taken ReadFault = taken ≡ lines
AreTaken lines taken Memory = taken ≡ lines

-- the texts of all replies but the last were written, and a beginning of the last one's
pub record AreWrittenInPart (text : Reply → List ℕ) (old new : Option (List ℕ)) (replies : List Reply) : Type 0 where
  pub earlier : List Reply
  pub last : Reply
  pub are : replies ≡ earlier ++ last ∷ []
  pub count : ℕ
  pub within : count ≤ length (text last)
  pub appended : Appends old new (flat_map text earlier ++ take count (text last))

-- the texts of the replies were written, and where a write failed, of the last one a beginning
abbrev pub AreWritten : (Reply → List ℕ) → Option (List ℕ) → Option (List ℕ) → List Reply → Ended → Type 0
AreWritten text old new replies WriteFault = AreWrittenInPart text old new replies
AreWritten text old new replies Quit = Appends old new (flat_map text replies)
AreWritten text old new replies End = Appends old new (flat_map text replies)
AreWritten text old new replies Cut = Appends old new (flat_map text replies)
AreWritten text old new replies LongLine = Appends old new (flat_map text replies)
AreWritten text old new replies Spent = Appends old new (flat_map text replies)
AreWritten text old new replies ReadFault = Appends old new (flat_map text replies)
AreWritten text old new replies Memory = Appends old new (flat_map text replies)

-- what a session changes: the entries of the journal, and the link
pub record State : Type 0 where
  pub entries : List Entry
  pub wire : WireView

-- a session, in whatever pieces its bytes came, whose first version is at this front and whose turns found these fronts
pub record Visit (s : Sitting) (first : ℕ) (fronts : List ℕ) (budget : ℕ) (before after : State) (end : Ended) : Type 0 where
  pub read : List ℕ
  pub lines : List (List ℕ)
  pub replies : List Reply
  pub events : List Event
  pub consumed : Consumes before.wire.left after.wire.left read
  pub within : length read ≤ budget
  pub short : All (λ (line : List ℕ). length line < line_limit) (ended read)
  pub taken : AreTaken (up_to_quit (whole_lines read)) lines end
  pub transcript : Transcript s after.entries lines replies
  pub turns : Visits s after.entries first told_nothing lines replies fronts
  pub begins : (more : List Entry) × (after.entries ≡ before.entries ++ more)
  pub written : AreWritten (text_at s.setting after.entries) before.wire.written after.wire.written replies end
  pub ordered : GoesOnWith before.wire.order after.wire.order events
  pub received : received_in events ≡ read
  pub in_time : AnswersInTime s.setting after.entries events replies
  pub ending : IsEnding budget read after.wire.left end

-- a session which has the store to itself: nobody else's entries came in between
pub record Talk (s : Sitting) (budget : ℕ) (before after : State) (end : Ended) : Type 0 where
  pub first : ℕ
  pub fronts : List ℕ
  pub visit : Visit s first fronts budget before after end
  pub alone : length after.entries ≡ length before.entries + length (fronts_told visit.replies)
