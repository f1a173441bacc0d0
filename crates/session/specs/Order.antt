-- That a session answers in time: before each read all lines that earlier reads ended are answered.
use Rattle.std.specs.Prelude.{◌≡◌, ℕ, List, [], ◌∷◌, ◌++◌, length}
use Rattle.ground_io.specs.Order.{Event, Received, Sent}
use Rattle.ground_model.specs.declared.entry.Entry.{Entry}
use Rattle.line_protocol.specs.declared.reply.Reply.{Reply}
use Rattle.turn_lock.specs.Setting.{Setting}
use Rattle.session.specs.Lines.{whole_lines}
use Rattle.session.specs.Texts.{texts}

-- the bytes that the reads gave
abbrev pub received : List Event → List ℕ
received [] = []
received (Received bytes ∷ events) = bytes ++ received events
received (Sent bytes ∷ events) = received events

-- the bytes that the writes took
abbrev pub sent : List Event → List ℕ
sent [] = []
sent (Received bytes ∷ events) = sent events
sent (Sent bytes ∷ events) = bytes ++ sent events

-- the first of these replies, one for each whole line that was received, were written, and nothing else was
pub record IsAnswered (set : Setting) (h : List Entry) (events : List Event) (replies : List Reply) : Type 0 where
  pub answered : List Reply
  pub later : List Reply
  pub are : replies ≡ answered ++ later
  pub each : length answered ≡ length (whole_lines (received events))
  pub written : sent events ≡ texts set h answered

-- before each read all whole lines that were received are answered
abbrev pub AnswersInTime : Setting → List Entry → List Event → List Reply → Type 0
AnswersInTime set h events replies = (before after : List Event) (bytes : List ℕ) → events ≡ before ++ Received bytes ∷ after → IsAnswered set h before replies
