-- A run of the core, as it is kept, and where it stands in the core.
use Rattle.std.specs.Prelude.{◌≡◌, ℕ, false, [], nat_eq, Option, None, Some, ⊤}
use Rattle.std.specs.BTreeMap.{is_at}
use Rattle.std.specs.Map.{lookup}
use Rattle.std.specs.Ordering.{nat_cmp}
use Rattle.turn_lock.specs.Journal.{IsPrefix}
use Rattle.turn_lock.specs.declared.journal.Journal.{Journal}
use Rattle.store.specs.declared.event.CoreReply.{CoreReply}
use Rattle.store.specs.declared.event.Event.{Event}
use Rattle.store.specs.declared.run.Run.{Run}
use Rattle.store.specs.Core.{CoreState, move_at, state_after}
use Rattle.store.specs.Members.{MemberView, holding_of, holding_at}

-- the kept session of this number
abbrev pub member_at : Run → ℕ → Option MemberView
member_at run s = lookup (is_at (nat_cmp s)) run.members.entries

-- the state of the core at which a run stands
abbrev pub state_of : Run → CoreState
state_of run = record { history = run.store.journal.entries; holdings = λ s. holding_at (member_at run s) }

-- a session holds a version with which the store's begins, if it is kept
abbrev pub HoldsPrefix : Journal → Option MemberView → Type 0
HoldsPrefix j None = ⊤
HoldsPrefix j (Some m) = IsPrefix m.journal j

-- what is true of a run: its first version is the empty one, and each session's version begins that of the store
pub record IsRun (run : Run) : Type 0 where
  pub first : run.first.journal ≡ record run.store.journal { entries = [] }
  pub held : (s : ℕ) → HoldsPrefix run.store.journal (member_at run s)

-- a session is taken out of a run
pub record IsTaken (change : Run × Run) (s : ℕ) (m : MemberView) : Type 0 where
  pub run : IsRun change.1
  pub store : change.1.store ≡ change.0.store
  pub holding : holding_of m ≡ holding_at (member_at change.0 s)
  pub held : IsPrefix m.journal change.1.store.journal
  pub others : (t : ℕ) → nat_eq s t ≡ false → member_at change.1 t ≡ member_at change.0 t

-- an event was carried out in a run, and answered
pub record Serves (change : Run × Run) (event : Event) (answer : CoreReply) : Type 0 where
  pub run : IsRun change.1
  pub limits : change.1.store.journal.limits ≡ change.0.store.journal.limits
  pub state : state_of change.1 ≡ state_after change.0.store.journal.limits (state_of change.0) event
  pub reply : answer ≡ (move_at change.0.store.journal.limits (state_of change.0) event).reply
