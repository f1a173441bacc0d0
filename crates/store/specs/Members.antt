-- The sessions of a run, as they are kept, and what they are in the core.
use Rattle.std.specs.Prelude.{◌≡◌, length, Option, None, Some}
use Rattle.ground_model.specs.Answer.{Pending}
use Rattle.turn_lock.specs.Journal.{IsPrefix}
use Rattle.turn_lock.specs.declared.journal.Journal.{Journal}
use Rattle.store.specs.declared.event.CoreReply.{CoreReply}
use Rattle.store.specs.Core.{Holding, Move, first_holding}

-- a session of a run: the journal of the version that it holds, and its pending plan
pub record MemberView : Type 0 where
  pub journal : Journal
  pub pending : Option Pending

-- what it has in the core
abbrev pub holding_of : MemberView → Holding
holding_of m = record { front = length m.journal.entries; pending = m.pending }

-- the same of a session that may not have had an event yet
abbrev pub holding_at : Option MemberView → Holding
holding_at None = first_holding
holding_at (Some m) = holding_of m

-- a session made this move, and with it the journal, and was answered
pub record Makes (change : Journal × Journal) (move : Move) (m : MemberView) (answer : CoreReply) : Type 0 where
  pub journal : change.1 ≡ record change.0 { entries = move.history }
  pub grows : IsPrefix change.0 change.1
  pub held : IsPrefix m.journal change.1
  pub holding : holding_of m ≡ move.holding
  pub reply : answer ≡ move.reply
