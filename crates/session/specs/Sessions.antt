-- What a session is seen as, and what its steps do.
use Rattle.std.specs.Prelude.{◌≡◌, ℕ, length, Bool, true, false, Option, None, Some, Ok, Err, is_some, ⊤}
use Rattle.ground_model.specs.Answer.{Pending}
use Rattle.line_protocol.specs.declared.reply.Reply.{Reply}
use Rattle.line_protocol.specs.declared.reply.Reply.TheVariants.{Held, Planned, Done, Conflict, Refused, Level, Contour, Volume, Stat, Export, Bye, Syntax, Range, NoPlan, Memory}
use Rattle.line_protocol.specs.declared.request.Request.{Request}
use Rattle.line_protocol.specs.declared.request.Request.TheVariants as asks
use Rattle.turn_lock.specs.Journal.{IsPrefix}
use Rattle.turn_lock.specs.Setting.{setting}
use Rattle.turn_lock.specs.declared.journal.Journal.{Journal}
use Rattle.store.specs.Versions.{as_pending}
use Rattle.store.specs.declared.plan.PlanFault.{PlanFault}
use Rattle.store.specs.declared.plan.PlanFault.TheVariants as faults
use Rattle.store.specs.declared.answers.Applied.TheVariants as applied
use Rattle.store.specs.declared.answers.Commit.TheVariants as commits
use Rattle.session.specs.Told.{pending_after, edit_made, entries_after}
use Rattle.session.specs.Transcript.{IsAnswer}
use Rattle.session.specs.declared.session.Work.{Work}
use Rattle.session.specs.declared.session.Work.TheVariants as works
use Rattle.session.specs.declared.session.WorkDone.{WorkDone}
use Rattle.session.specs.declared.session.WorkDone.TheVariants as dones

-- a session: its author, the journal of the version that it holds, and its pending plan
pub record SessionView : Type 0 where
  pub author : ℕ
  pub journal : Journal
  pub pending : Option Pending

-- whether a request takes a turn on the store
abbrev pub takes_turn : Option Pending → Request → Bool
takes_turn pending asks.Sync = true
takes_turn pending (asks.Apply edit) = true
takes_turn pending asks.Commit = is_some pending
takes_turn pending (asks.Plan edit) = false
takes_turn pending (asks.Level p) = false
takes_turn pending (asks.Contour z) = false
takes_turn pending (asks.Volume z) = false
takes_turn pending asks.Stat = false
takes_turn pending asks.Export = false
takes_turn pending asks.Quit = false

-- a request that was answered at the held version
pub record OwnStep (old new : SessionView) (request : Request) (reply : Reply) : Type 0 where
  pub is : IsAnswer (setting old.journal) old.journal.entries old.pending request reply
  pub holds : new.journal ≡ old.journal
  pub plans : new.pending ≡ pending_after (Some request) reply old.pending
  pub author : new.author ≡ old.author

-- the reply to an edit that is not planned at this front
abbrev pub IsUnplanned : ℕ → PlanFault → Reply → Type 0
IsUnplanned front (faults.Refused edit cause) reply = reply ≡ Refused front cause
IsUnplanned front (faults.Memory edit) reply = reply ≡ Memory

-- the journal that is held after a turn which found this one: the newest, but out of memory
abbrev pub held_after : Reply → Journal → Journal → Journal
held_after Memory held newest = held
held_after (Held f) held newest = newest
held_after (Planned f size) held newest = newest
held_after (Done f line) held newest = newest
held_after (Conflict f mark) held newest = newest
held_after (Refused f cause) held newest = newest
held_after (Level f z) held newest = newest
held_after (Contour f cuts) held newest = newest
held_after (Volume f v) held newest = newest
held_after (Stat f points lines) held newest = newest
held_after (Export f bytes) held newest = newest
held_after Bye held newest = newest
held_after (Syntax offset) held newest = newest
held_after Range held newest = newest
held_after NoPlan held newest = newest

-- a request that was answered at the newest version, in a turn on the store
pub record TurnStep (change : Journal × Journal) (old new : SessionView) (request : Request) (reply : Reply) : Type 0 where
  pub is : IsAnswer (setting change.0) change.0.entries old.pending request reply
  pub entries : change.1.entries ≡ entries_after old.author change.0.entries (edit_made old.pending (Some request)) reply
  pub stays : setting change.1 ≡ setting change.0
  pub holds : new.journal ≡ held_after reply old.journal change.1
  pub plans : new.pending ≡ pending_after (Some request) reply old.pending
  pub author : new.author ≡ old.author

-- what a turn is to do, for a request of a session that then is so
abbrev pub Begins : SessionView → SessionView → Request → Work → Type 0
Begins old new request works.Hold = (request ≡ asks.Sync) × (new ≡ old)
Begins old new request (works.Commit plan) = (request ≡ asks.Commit) × (old.pending ≡ Some (as_pending plan)) × IsPrefix plan.journal old.journal × (new ≡ record old { pending = None })
Begins old new request (works.Apply edit) = (request ≡ asks.Apply edit) × (new ≡ old)

-- the held version begins every version that a turn gives, and a plan that comes back is of one that begins the held one
abbrev pub MayEnd : SessionView → WorkDone → Type 0
MayEnd s (dones.Held (Ok version)) = IsPrefix s.journal version.journal
MayEnd s (dones.Held (Err out)) = ⊤
MayEnd s (dones.Committed (commits.Done version line)) = IsPrefix s.journal version.journal × (s.pending ≡ None)
MayEnd s (dones.Committed (commits.Conflict version mark edit)) = IsPrefix s.journal version.journal × (s.pending ≡ None)
MayEnd s (dones.Committed (commits.Refused version cause)) = IsPrefix s.journal version.journal × (s.pending ≡ None)
MayEnd s (dones.Committed (commits.Memory plan)) = IsPrefix plan.journal s.journal × (s.pending ≡ None)
MayEnd s (dones.Applied (applied.Done version line)) = IsPrefix s.journal version.journal
MayEnd s (dones.Applied (applied.Refused version cause)) = IsPrefix s.journal version.journal
MayEnd s (dones.Applied (applied.Memory edit)) = ⊤

-- the reply to what a turn did, and the session afterwards
abbrev pub Ends : SessionView → SessionView → WorkDone → Reply → Type 0
Ends old new (dones.Held (Ok version)) reply = (reply ≡ Held (length version.journal.entries)) × (new ≡ record old { journal = version.journal })
Ends old new (dones.Held (Err out)) reply = (reply ≡ Memory) × (new ≡ old)
Ends old new (dones.Committed (commits.Done version line)) reply = (reply ≡ Done (length version.journal.entries) line) × (new ≡ record old { journal = version.journal })
Ends old new (dones.Committed (commits.Conflict version mark edit)) reply = (reply ≡ Conflict (length version.journal.entries) mark) × (new ≡ record old { journal = version.journal })
Ends old new (dones.Committed (commits.Refused version cause)) reply = (reply ≡ Refused (length version.journal.entries) cause) × (new ≡ record old { journal = version.journal })
Ends old new (dones.Committed (commits.Memory plan)) reply = (reply ≡ Memory) × (new ≡ record old { pending = Some (as_pending plan) })
Ends old new (dones.Applied (applied.Done version line)) reply = (reply ≡ Done (length version.journal.entries) line) × (new ≡ record old { journal = version.journal })
Ends old new (dones.Applied (applied.Refused version cause)) reply = (reply ≡ Refused (length version.journal.entries) cause) × (new ≡ record old { journal = version.journal })
Ends old new (dones.Applied (applied.Memory edit)) reply = (reply ≡ Memory) × (new ≡ old)
