-- The law over runs of the core: whatever its sessions interleave, each one's replies are a transcript over the run's one history.
use Rattle.std.specs.Prelude.{◌≡◌, ◌==◌, ℕ, List, [], ◌∷◌, filter, Some, if◌then◌else◌, ⊤}
use Rattle.ground_num.specs.declared.head.Origin.{Origin}
use Rattle.line_protocol.specs.declared.reply.Reply.{Reply}
use Rattle.line_protocol.specs.declared.reply.Reply.TheVariants as replies
use Rattle.line_protocol.specs.declared.request.Request.{Request}
use Rattle.line_protocol.specs.declared.request.Request.TheVariants as asks
use Rattle.line_protocol.specs.Within.{request_of}
use Rattle.store.specs.declared.event.CoreReply.{CoreReply}
use Rattle.store.specs.declared.event.CoreReply.TheVariants.{Held, Planned, Done, Conflict, Refused, Level, Contour, Volume, Stat, NoPlan}
use Rattle.store.specs.declared.event.Event.{Event}
use Rattle.store.specs.declared.event.Event.TheVariants.{Hold, Plan, Commit, Apply, Read}
use Rattle.store.specs.declared.event.Query.{Query}
use Rattle.store.specs.declared.event.Query.TheVariants as queries
use Rattle.store.specs.Core.{session_of, core}
use Rattle.turn_lock.specs.Setting.{Setting}
use Rattle.session.specs.Transcript.{Transcript}

-- the request that reads the same
abbrev pub request_to_read : Query → Request
request_to_read (queries.Level p) = asks.Level p
request_to_read (queries.Contour z) = asks.Contour z
request_to_read (queries.Volume z) = asks.Volume z
request_to_read queries.Stat = asks.Stat

-- the request that asks for an event
abbrev pub request_in : Event → Request
request_in (Hold s) = asks.Sync
request_in (Plan s edit) = asks.Plan edit
request_in (Commit s) = asks.Commit
request_in (Apply s edit) = asks.Apply edit
request_in (Read s query) = request_to_read query

-- a reply of the core as one of the protocol
abbrev pub reply_in : CoreReply → Reply
reply_in (Held front) = replies.Held front
reply_in (Planned front size) = replies.Planned front size
reply_in (Done front line) = replies.Done front line
reply_in (Conflict front mark) = replies.Conflict front mark
reply_in (Refused front cause) = replies.Refused front cause
reply_in (Level front z) = replies.Level front z
reply_in (Contour front cuts) = replies.Contour front cuts
reply_in (Volume front v) = replies.Volume front v
reply_in (Stat front points lines) = replies.Stat front points lines
reply_in NoPlan = replies.NoPlan

-- the session's events
abbrev pub events_of : ℕ → List Event → List Event
events_of s events = filter (λ event. session_of event == s) events

-- the replies to them, of the replies to all events
abbrev pub replies_to : ℕ → List Event → List CoreReply → List Reply
replies_to s [] given = []
replies_to s (event ∷ events) [] = []
replies_to s (event ∷ events) (reply ∷ given) = if session_of event == s then reply_in reply ∷ replies_to s events given else replies_to s events given

-- the lines are texts of the events, one for each
abbrev pub AreTexts : Origin → List (List ℕ) → List Event → Type 0
AreTexts o [] [] = ⊤
AreTexts o (line ∷ lines) (event ∷ events) = (request_of o line ≡ Some (request_in event)) × AreTexts o lines events
AreTexts o [] (event ∷ events) = ⊥
AreTexts o (line ∷ lines) [] = ⊥

-- in every run of the core the replies to a session's events, asked for by these lines, are a transcript of that author over the history at the end of the run
abbrev pub TranscriptLaw : Type 0
TranscriptLaw = (set : Setting) (events : List Event) (s : ℕ) (lines : List (List ℕ)) → AreTexts set.head.origin lines (events_of s events)
    → Transcript (record { setting = set; author = s; start = 0 }) (core set.limits events).0 lines (replies_to s events (core set.limits events).1)
