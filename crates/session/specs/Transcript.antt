-- Which replies a session may give to its lines, over one history.
use Rattle.std.specs.Prelude.{◌≡◌, ◌==◌, ℕ, suc, ◌+◌, ◌≤◌, ◌⊎◌, Bool, true, false, List, [], ◌∷◌, take, drop, slice_get, length, Option, Some, None, is_some, IfSome, IsSomeAnd, MatchOption, if◌then◌else◌, ⊤}
use Rattle.ground_model.specs.declared.edit.Edit.{Edit}
use Rattle.ground_model.specs.declared.entry.Entry.{Entry}
use Rattle.ground_model.specs.declared.limits.Limits.{Limits}
use Rattle.ground_model.specs.Answer.{Pending}
use Rattle.ground_model.specs.History.{IsLegal}
use Rattle.line_protocol.specs.declared.reply.Reply.{Reply}
use Rattle.line_protocol.specs.declared.reply.Reply.TheVariants.{Syntax, Range, Memory}
use Rattle.line_protocol.specs.declared.request.Request.{Request}
use Rattle.line_protocol.specs.declared.request.Request.TheVariants as asks
use Rattle.line_protocol.specs.Spoken.{Spoken, Sync, Plan, Commit, Apply, Level, Contour, Volume, Stat, Export, Quit}
use Rattle.line_protocol.specs.Grammar.{spoken}
use Rattle.line_protocol.specs.Fault.{IsFaultOffset}
use Rattle.line_protocol.specs.Within.{request_within, request_of}
use Rattle.store.specs.Outcomes.{takes_room}
use Rattle.turn_lock.specs.Setting.{Setting}
use Rattle.session.specs.Told.{Told, told_nothing, told_after, done_front, edit_made, fronts_told}
use Rattle.session.specs.Table.{IsReply}

-- a session: the setting of its surface, its author, and the front before it
pub record Sitting : Type 0 where
  pub setting : Setting
  pub author : ℕ
  pub start : ℕ

-- how a request takes its front: a query and a plan at the shown front, a turn at one that isn't below it
pub data Reading : Type 0 where
  Shown : Reading
  Turned : Reading
  Free : Reading

-- how each request takes its front
abbrev pub reading : Spoken → Reading
reading Sync = Turned
reading Commit = Turned
reading (Apply edit) = Turned
reading Quit = Free
reading (Plan edit) = Shown
reading (Level p) = Shown
reading (Contour z) = Shown
reading (Volume z) = Shown
reading Stat = Shown
reading Export = Shown

-- whether a reply may speak of this front: where nothing is shown yet, it may speak of any
abbrev pub IsFrontBy : Reading → Option ℕ → ℕ → Type 0
IsFrontBy Shown shown front = IfSome shown (λ f. front ≡ f)
IsFrontBy Turned shown front = IfSome shown (λ f. f ≤ front)
IsFrontBy Free shown front = ⊤

-- whether a line's reply may speak of this front: where the line spells no request, it may speak of any
abbrev pub IsFrontFor : Option ℕ → Option Spoken → ℕ → Type 0
IsFrontFor shown None front = ⊤
IsFrontFor shown (Some s) front = IsFrontBy (reading s) shown front

-- whether a request within its limits takes memory at the history h, where this plan is pending: a version that is held takes some, so does an edit that is planned, where it is lawful or a new line, and so do the cuts of a contour
abbrev pub takes_memory : Limits → List Entry → Option Pending → Request → Bool
takes_memory limits h pending asks.Sync = true
takes_memory limits h pending (asks.Plan edit) = takes_room limits h edit
takes_memory limits h pending asks.Commit = is_some pending
takes_memory limits h pending (asks.Apply edit) = true
takes_memory limits h pending (asks.Level p) = false
takes_memory limits h pending (asks.Contour z) = true
takes_memory limits h pending (asks.Volume z) = false
takes_memory limits h pending asks.Stat = false
takes_memory limits h pending asks.Export = false
takes_memory limits h pending asks.Quit = false

-- the reply to a request within its limits, at the history h, or that the session is out of memory
abbrev pub IsAnswer : Setting → List Entry → Option Pending → Request → Reply → Type 0
IsAnswer set h pending request reply = IsReply set h pending request reply ⊎ ((takes_memory set.limits h pending request ≡ true) × (reply ≡ Memory))

-- the reply to a line that spells a request, which is outside its limits where there is none
abbrev pub IsAnswerWithin : Setting → List Entry → Option Pending → Option Request → Reply → Type 0
IsAnswerWithin set h pending None reply = reply ≡ Range
IsAnswerWithin set h pending (Some request) reply = IsAnswer set h pending request reply

-- the reply to a line that spells no request has the offset of its fault
abbrev pub IsFaultReply : List ℕ → Reply → Type 0
IsFaultReply line reply = (k : ℕ) × IsFaultOffset line k × (reply ≡ Syntax k)

-- the reply to a line, at the history h, where this plan is pending
abbrev pub AnswersLine : Setting → List Entry → Option Pending → List ℕ → Reply → Type 0
AnswersLine set h pending line reply = MatchOption (spoken line) (IsFaultReply line reply) (λ s. IsAnswerWithin set h pending (request_within set.head.origin s) reply)

-- the entry after this front is the author's, with this edit
abbrev pub IsEntry : List Entry → ℕ → ℕ → Edit → Type 0
IsEntry h author front edit = (x : Entry) × (slice_get h front ≡ Some x) × (x.author ≡ author) × (x.edit ≡ edit)

-- a reply that an edit was made has its entry
abbrev pub HasEntry : List Entry → ℕ → ℕ → Option Edit → Reply → Type 0
HasEntry h author front edit reply = IfSome (done_front reply) (λ _. IsSomeAnd edit (IsEntry h author front))

-- one line and its reply, which is that of the history up to some front between the session's start and the end of h
pub record Exchange (s : Sitting) (h : List Entry) (told : Told) (line : List ℕ) (reply : Reply) : Type 0 where
  pub front : ℕ
  pub not_before : s.start ≤ front
  pub there : front ≤ length h
  pub seen : IsFrontFor told.shown (spoken line) front
  pub is : AnswersLine s.setting (take front h) told.pending line reply
  pub entry : HasEntry h s.author front (edit_made told.pending (request_of s.setting.head.origin line)) reply

-- one reply for each line, in order
abbrev pub Exchanges : Sitting → List Entry → Told → List (List ℕ) → List Reply → Type 0
Exchanges s h told [] [] = ⊤
Exchanges s h told (line ∷ lines) (reply ∷ replies) = Exchange s h told line reply × Exchanges s h (told_after (request_of s.setting.head.origin line) reply told) lines replies
Exchanges s h told [] (reply ∷ replies) = ⊥
Exchanges s h told (line ∷ lines) [] = ⊥

-- nothing comes after a line that asks to quit
abbrev pub QuitIsLast : List (List ℕ) → Type 0
QuitIsLast lines = (k : ℕ) (line : List ℕ) → slice_get lines k ≡ Some line → spoken line ≡ Some Quit → k + 1 ≡ length lines

-- the fronts of the author's entries, in order, where so many entries come before these
abbrev pub fronts_by : ℕ → ℕ → List Entry → List ℕ
fronts_by author before [] = []
fronts_by author before (x ∷ xs) = if x.author == author then suc before ∷ fronts_by author (suc before) xs else fronts_by author (suc before) xs

-- the replies to these lines over the history h, in which this author made each entry that they report, and no other after the start
pub record Transcript (s : Sitting) (h : List Entry) (lines : List (List ℕ)) (replies : List Reply) : Type 0 where
  pub legal : IsLegal s.setting.limits h
  pub exchanges : Exchanges s h told_nothing lines replies
  pub quit_is_last : QuitIsLast lines
  pub each_once : fronts_by s.author s.start (drop s.start h) ≡ fronts_told replies
