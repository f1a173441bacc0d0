-- What the calls of a session do to it, line by line and piece by piece.
use Rattle.std.specs.Prelude.{◌≡◌, ◌⊎◌, ℕ, ◌≤◌, Bool, true, false, List, [], ◌∷◌, ◌++◌, take, drop, length, Option, Some, Result, MatchOption, MatchResult, unwrap_or, ⊤}
use Rattle.std.specs.Io.KnownBytes.{Appends, Consumes, Keeps, IsAtEnd}
use Rattle.ground_io.specs.Order.{Event, GoesOnWith, SendsAll, SendsSome}
use Rattle.ground_io.specs.Streams.{AppendsSome}
use Rattle.ground_model.specs.declared.entry.Entry.{Entry}
use Rattle.ground_model.specs.Answer.{Pending}
use Rattle.ground_model.specs.History.{IsLegal}
use Rattle.line_protocol.specs.declared.reply.Reply.{Reply}
use Rattle.line_protocol.specs.declared.reply.Reply.TheVariants.{Held, Planned, Done, Conflict, Refused, Level, Contour, Volume, Stat, Export, Bye, Syntax, Range, NoPlan, Memory}
use Rattle.line_protocol.specs.declared.request.Request.{Request}
use Rattle.line_protocol.specs.Within.{request_of}
use Rattle.turn_lock.specs.Journal.{OthersAdded}
use Rattle.turn_lock.specs.Setting.{Setting, setting}
use Rattle.turn_lock.specs.declared.journal.Journal.{Journal}
use Rattle.session.specs.Lines.{whole_lines, unfinished}
use Rattle.session.specs.Order.{received, sent, AnswersInTime}
use Rattle.session.specs.Texts.{text_at, held_text, texts}
use Rattle.session.specs.Told.{Told, told_nothing, told_after, pending_after, edit_made, entries_after, fronts_told}
use Rattle.session.specs.Transcript.{Sitting, Transcript, AnswersLine, IsAnswer, fronts_by}
use Rattle.session.specs.Sessions.{SessionView, held_after}
use Rattle.session.specs.Fronts.{asks_turn, LacksRoom, Visits}
use Rattle.session.specs.Talk.{AreTaken, AreWritten, up_to_quit, has_quit, is_quit}
use Rattle.session.specs.declared.conversation.Ended.{Ended}
use Rattle.session.specs.declared.conversation.Ended.TheVariants.{Quit, End, Cut, LongLine, Spent, ReadFault, WriteFault}
use Rattle.session.specs.declared.conversation.Ended.TheVariants as ended

-- what a session works on: the history that is seen, the version that is held, and the pending plan
pub record Position : Type 0 where
  pub seen : Journal
  pub held : Journal
  pub pending : Option Pending

-- what a session works on, where this history is seen
abbrev pub position : Journal → SessionView → Position
position seen s = record { seen = seen; held = s.journal; pending = s.pending }

-- what a line did at the held version: it found no front, and history and version stay
pub record HeldStep (change : Position × Position) (request : Option Request) (reply : Reply) (fronts : List ℕ) (Is : Journal → Type 0) : Type 0 where
  pub is : Is change.0.held
  pub quiet : (asks_turn change.0.pending request ≡ false) ⊎ LacksRoom request reply
  pub pending : change.1.pending ≡ pending_after request reply change.0.pending
  pub seen : change.1.seen ≡ change.0.seen
  pub held : change.1.held ≡ change.0.held
  pub own : fronts ≡ []

-- what a line did in a turn of this author: the history found is answered at, and has the author's next entry where an edit was made
pub record FoundStep (author : ℕ) (change : Position × Position) (request : Option Request) (reply : Reply) (fronts : List ℕ) (Is : Journal → Type 0) : Type 0 where
  pub found : Journal
  pub added : OthersAdded (author ∷ []) change.0.seen found
  pub is : Is found
  pub turn : asks_turn change.0.pending request ≡ true
  pub pending : change.1.pending ≡ pending_after request reply change.0.pending
  pub entries : change.1.seen.entries ≡ entries_after author found.entries (edit_made change.0.pending request) reply
  pub stays : setting change.1.seen ≡ setting found
  pub legal : IsLegal change.1.seen.limits change.1.seen.entries
  pub held : change.1.held ≡ held_after reply change.0.held change.1.seen
  pub own : fronts ≡ length found.entries ∷ []

-- what a line did, with the fronts that its turn found
abbrev pub Steps : ℕ → Position × Position → Option Request → Reply → List ℕ → (Journal → Type 0) → Type 0
Steps author change request reply own Is = HeldStep change request reply own Is ⊎ FoundStep author change request reply own Is

-- what one request did
abbrev pub Serves : ℕ → Position × Position → Request → Reply → List ℕ → Type 0
Serves author change request reply own = Steps author change (Some request) reply own (λ j. IsAnswer (setting j) j.entries change.0.pending request reply)

-- what one line did
abbrev pub ServesLine : ℕ → Position × Position → List ℕ → Reply → List ℕ → Type 0
ServesLine author change line reply own = Steps author change (request_of change.0.held.head.origin line) reply own (λ j. AnswersLine (setting j) j.entries change.0.pending line reply)

-- the farewell, which ends a session
abbrev pub is_bye : Reply → Bool
is_bye Bye = true
is_bye (Held f) = false
is_bye (Planned f size) = false
is_bye (Done f line) = false
is_bye (Conflict f mark) = false
is_bye (Refused f cause) = false
is_bye (Level f z) = false
is_bye (Contour f cuts) = false
is_bye (Volume f v) = false
is_bye (Stat f points lines) = false
is_bye (Export f bytes) = false
is_bye (Syntax offset) = false
is_bye Range = false
is_bye NoPlan = false
is_bye Memory = false

-- what is known after these replies to these lines
abbrev pub told_by : Setting → List (List ℕ) → List Reply → Told → Told
told_by set [] replies told = told
told_by set (line ∷ lines) [] told = told
told_by set (line ∷ lines) (reply ∷ replies) told = told_by set lines replies (told_after (request_of set.head.origin line) reply told)

-- what a session knows of the output side of its link
pub record Output : Type 0 where
  pub written : Option (List ℕ)
  pub order : Option (List Event)

-- how a session began: with these entries, on the version at this front, and on this output
pub record Start : Type 0 where
  pub setting : Setting
  pub author : ℕ
  pub first : List Entry
  pub front : ℕ
  pub output : Output

-- the session that began so
abbrev pub sitting : Start → Sitting
sitting b = record { setting = b.setting; author = b.author; start = length b.first }

-- a session so far, of which this history is seen, and whose turns found these fronts: it holds the version at this front, and this plan is pending
pub record Going (b : Start) (h : List Entry) (held : ℕ) (pending : Option Pending) (lines : List (List ℕ)) (replies : List Reply) (fronts : List ℕ) : Type 0 where
  pub visits : Visits (sitting b) h b.front told_nothing lines replies fronts
  pub each_once : fronts_by b.author (length b.first) (drop (length b.first) h) ≡ fronts_told replies
  pub shown : unwrap_or (told_by b.setting lines replies told_nothing).shown b.front ≡ held
  pub from : length b.first ≤ held
  pub within : held ≤ length h
  pub plans : (told_by b.setting lines replies told_nothing).pending ≡ pending
  pub begins : (more : List Entry) × (h ≡ b.first ++ more)

-- a session that goes on: of the bytes that it got, these were looked at, and all of their lines are answered
pub record Talking (b : Start) (h : List Entry) (held : ℕ) (pending : Option Pending) (output : Output) (fronts : List ℕ) (got seen : List ℕ) : Type 0 where
  pub replies : List Reply
  pub events : List Event
  pub legal : IsLegal b.setting.limits h
  pub going : Going b h held pending (whole_lines seen) replies fronts
  pub written : Appends b.output.written output.written (texts b.setting h replies)
  pub no_quit : has_quit (whole_lines seen) ≡ false
  pub ordered : GoesOnWith b.output.order output.order events
  pub received : received events ≡ got
  pub sent : sent events ≡ texts b.setting h replies
  pub in_time : AnswersInTime b.setting h events replies

-- the two ends that a line can make
abbrev pub IsStop : Bool → Ended → Type 0
IsStop quits Quit = quits ≡ true
IsStop quits WriteFault = ⊤
IsStop quits End = ⊥
IsStop quits Cut = ⊥
IsStop quits LongLine = ⊥
IsStop quits Spent = ⊥
IsStop quits ReadFault = ⊥
IsStop quits ended.Memory = ⊥

-- a session that one of these bytes ended, by a quit or by a reply that could not be written
pub record Stops (b : Start) (h : List Entry) (output : Output) (fronts : List ℕ) (read : List ℕ) (end : Ended) : Type 0 where
  pub lines : List (List ℕ)
  pub replies : List Reply
  pub events : List Event
  pub taken : AreTaken (up_to_quit (whole_lines read)) lines end
  pub transcript : Transcript (sitting b) h lines replies
  pub turns : Visits (sitting b) h b.front told_nothing lines replies fronts
  pub begins : (more : List Entry) × (h ≡ b.first ++ more)
  pub written : AreWritten (text_at b.setting h) b.output.written output.written replies end
  pub ordered : GoesOnWith b.output.order output.order events
  pub received : received events ≡ read
  pub in_time : AnswersInTime b.setting h events replies
  pub ending : IsStop (has_quit (whole_lines read)) end

-- the whole text was written, and nothing was read between
pub record Puts (old new : Output) (text : List ℕ) : Type 0 where
  pub appended : Appends old.written new.written text
  pub sent : SendsAll old.order new.order text

-- a beginning of the text was written, and nothing was read between
pub record PutsSome (old new : Output) (text : List ℕ) : Type 0 where
  pub appended : AppendsSome old.written new.written text
  pub sent : SendsSome old.order new.order text

-- one line that was answered, by what the session held then: at Ok its reply is written whole, and it is known whether the line asks to quit; at Err a beginning of its reply is written
pub record Answered {E : Type 0} (author : ℕ) (change : Position × Position) (line : List ℕ) (output : Output × Output) (own : List ℕ) (result : Result Bool E) : Type 0 where
  pub reply : Reply
  pub serves : ServesLine author change line reply own
  pub told : MatchResult result (λ quit. (quit ≡ is_quit line) × Puts output.0 output.1 (held_text change.1.held reply)) (λ _. PutsSome output.0 output.1 (held_text change.1.held reply))

-- a session at one moment within a piece: what it works on, the line so far, and the output
pub record Moment : Type 0 where
  pub position : Position
  pub rest : List ℕ
  pub output : Output

-- how a session began whose setting is this journal's
abbrev pub start_at : ℕ → Journal → List Entry → ℕ → Output → Start
start_at author journal first front output = record { setting = setting journal; author = author; first = first; front = front; output = output }

-- a session that goes on at this moment
abbrev pub TalkingAt : Start → Moment → List ℕ → List ℕ → List ℕ → Type 0
TalkingAt b m fronts got seen = Talking b m.position.seen.entries (length m.position.held.entries) m.position.pending m.output fronts got seen

-- what a session that goes on becomes by these bytes, which are the last that it got, and by turns that found these fronts
abbrev pub GoesOn : ℕ → Moment → Moment → List ℕ → List ℕ → Option Ended → Type 0
GoesOn author old new bytes own result =
    (first : List Entry) (front : ℕ) (seen fronts : List ℕ) (at_first : Output) → let b = start_at author old.position.seen first front at_first in
    TalkingAt b old fronts (seen ++ bytes) seen → unfinished seen ≡ old.rest
    → MatchOption result (TalkingAt b new (fronts ++ own) (seen ++ bytes) (seen ++ bytes) × (unfinished (seen ++ bytes) ≡ new.rest))
    (λ end. Stops b new.position.seen.entries new.output (fronts ++ own) (seen ++ bytes) end)

-- a read gave the first n bytes of the piece, none only at the end, and nothing where it failed
abbrev pub ReadsFront : {E : Type 0} → Option (List ℕ) → Option (List ℕ) → List ℕ → Result ℕ E → Type 0
ReadsFront old new piece result = MatchResult result (λ n. Consumes old new (take n piece) × (n ≡ 0 → IsAtEnd new)) (λ _. Keeps old new)
