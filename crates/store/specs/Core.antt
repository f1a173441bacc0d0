-- The core: what is answered to each event of some sessions on one store, and what there is afterwards.
use Rattle.std.specs.Prelude.{ℕ, nat_eq, List, [], ◌∷◌, ◌++◌, length, take, Option, Some, None, if◌then◌else◌}
use Rattle.std.specs.FinMap as map
use Rattle.ground_model.specs.declared.edit.Edit.{Edit}
use Rattle.ground_model.specs.declared.entry.Entry.{Entry}
use Rattle.ground_model.specs.declared.limits.Limits.{Limits}
use Rattle.ground_model.specs.declared.refusal.Refusal.{Refusal}
use Rattle.ground_model.specs.Answer as answers
use Rattle.ground_model.specs.Answer.{Answer, Pending, answer, next_entry}
use Rattle.ground_model.specs.Content.{Content}
use Rattle.ground_model.specs.Contour.{contour_at}
use Rattle.ground_model.specs.History.{content_of}
use Rattle.ground_model.specs.Level.{level_at}
use Rattle.ground_model.specs.Refusal.{refusal}
use Rattle.ground_model.specs.Slope.{relief}
use Rattle.ground_model.specs.Volume.{volume_over}
use Rattle.ground_model.specs.Zone.{zone}
use Rattle.store.specs.declared.event.CoreReply.{CoreReply}
use Rattle.store.specs.declared.event.CoreReply.TheVariants.{Held, Planned, Done, Conflict, Refused, Level, Contour, Volume, Stat, NoPlan}
use Rattle.store.specs.declared.event.Event.{Event}
use Rattle.store.specs.declared.event.Event.TheVariants.{Hold, Plan, Commit, Apply, Read}
use Rattle.store.specs.declared.event.Query.{Query}
use Rattle.store.specs.declared.event.Query.TheVariants as asks

-- what a session has between its events: the front that it holds, and its pending plan
pub record Holding : Type 0 where
  pub front : ℕ
  pub pending : Option Pending

-- at the start a session holds the empty version, and no plan is pending
abbrev pub first_holding : Holding
first_holding = record { front = 0; pending = None }

-- the one history, and what each session has
pub record CoreState : Type 0 where
  pub history : List Entry
  pub holdings : ℕ → Holding

-- at the start there is no entry
abbrev pub first_state : CoreState
first_state = record { history = []; holdings = λ s. first_holding }

-- what one event comes to: the history and the session's holding afterwards, and the reply
pub record Move : Type 0 where
  pub history : List Entry
  pub holding : Holding
  pub reply : CoreReply

-- the session whose event it is
abbrev pub session_of : Event → ℕ
session_of (Hold s) = s
session_of (Plan s edit) = s
session_of (Commit s) = s
session_of (Apply s edit) = s
session_of (Read s query) = s

-- the answer to an edit, as a reply
abbrev pub reply_of : Answer → CoreReply
reply_of (answers.Conflict front mark) = Conflict front mark
reply_of (answers.Refused front cause) = Refused front cause
reply_of (answers.Done front line) = Done front line

-- only an edit that is done makes an entry
abbrev pub history_after : ℕ → List Entry → Edit → Answer → List Entry
history_after s h edit (answers.Conflict front mark) = h
history_after s h edit (answers.Refused front cause) = h
history_after s h edit (answers.Done front line) = h ++ next_entry s h edit ∷ []

-- the answer to an edit of this session, which then holds the newest front, with this plan pending
abbrev pub answered : ℕ → List Entry → Option Pending → Edit → Answer → Move
answered s h pending edit a = record { history = history_after s h edit a; holding = record { front = length (history_after s h edit a); pending = pending }; reply = reply_of a }

-- a session holds the newest front
abbrev pub held : List Entry → Holding → Move
held h has = record { history = h; holding = record { front = length h; pending = has.pending }; reply = Held (length h) }

-- an edit is planned at the held front, and is pending from now on; or it is refused there
abbrev pub planned : List Entry → Holding → Edit → Option Refusal → Move
planned h has edit (Some cause) = record { history = h; holding = has; reply = Refused has.front cause }
planned h has edit None = record {
  history = h;
  holding = record { front = has.front; pending = Some (record { base = has.front; edit = edit }) };
  reply = Planned has.front (length (zone (content_of (take has.front h)) edit));
}

-- an edit is planned at the held front of a journal
abbrev pub plan_at : Limits → List Entry → Holding → Edit → Move
plan_at limits h has edit = planned h has edit (refusal (content_of (take has.front h)) has.front limits edit)

-- the pending plan is answered, if there is one, and is pending no more
abbrev pub committed : Limits → ℕ → List Entry → Holding → Option Pending → Move
committed limits s h has None = record { history = h; holding = has; reply = NoPlan }
committed limits s h has (Some plan) = answered s h None plan.edit (answer limits h plan.base plan.edit)

-- an edit is planned at the newest front and answered at once
abbrev pub applied : Limits → ℕ → List Entry → Holding → Edit → Move
applied limits s h has edit = answered s h has.pending edit (answer limits h (length h) edit)

-- what is read of a content
abbrev pub read : ℕ → Content → Query → CoreReply
read front c (asks.Level p) = Level front (level_at (relief c) p)
read front c (asks.Contour z) = Contour front (contour_at (relief c) z)
read front c (asks.Volume z) = Volume front (volume_over (relief c) z)
read front c asks.Stat = Stat front (map.len c.points) (map.len c.table.lines)

-- one event of a session that has this
abbrev pub move : Limits → List Entry → Holding → Event → Move
move limits h has (Hold s) = held h has
move limits h has (Plan s edit) = plan_at limits h has edit
move limits h has (Commit s) = committed limits s h has has.pending
move limits h has (Apply s edit) = applied limits s h has edit
move limits h has (Read s query) = record { history = h; holding = has; reply = read has.front (content_of (take has.front h)) query }

-- the event at a state
abbrev pub move_at : Limits → CoreState → Event → Move
move_at limits state event = move limits state.history (state.holdings (session_of event)) event

-- the state after a move of this session
abbrev pub moved : CoreState → ℕ → Move → CoreState
moved state s m = record { history = m.history; holdings = λ t. if nat_eq s t then m.holding else state.holdings t }

-- the state after an event
abbrev pub state_after : Limits → CoreState → Event → CoreState
state_after limits state event = moved state (session_of event) (move_at limits state event)

-- the history after some events, and their replies
abbrev pub core_from : Limits → CoreState → List Event → List Entry × List CoreReply
core_from limits state [] = (state.history, [])
core_from limits state (event ∷ events) = ((core_from limits (state_after limits state event) events).0, (move_at limits state event).reply ∷ (core_from limits (state_after limits state event) events).1)

-- a run of the core, from an empty store
unfoldable pub core : Limits → List Event → List Entry × List CoreReply
core limits events = core_from limits first_state events
