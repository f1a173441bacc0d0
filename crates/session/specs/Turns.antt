-- What a turn of a session does, whoever makes it.
use Rattle.std.specs.Prelude.{◌≡◌, ℕ, ◌≤◌, List, [], ◌∷◌, length}
use Rattle.ground_io.specs.Wires.{WireView}
use Rattle.ground_model.specs.History.{IsLegal}
use Rattle.line_protocol.specs.declared.reply.Reply.{Reply}
use Rattle.line_protocol.specs.declared.request.Request.{Request}
use Rattle.turn_lock.specs.Journal.{OthersAdded}
use Rattle.turn_lock.specs.Setting.{setting}
use Rattle.turn_lock.specs.declared.journal.Journal.{Journal}
use Rattle.session.specs.Sessions.{SessionView, TurnStep}
use Rattle.session.specs.Talk.{Visit}
use Rattle.session.specs.declared.conversation.Ended.{Ended}
use Rattle.session.specs.declared.conversation.Ended.TheVariants.{Quit, End, Cut, LongLine, Spent, ReadFault, WriteFault, Memory}

-- a turn of this author: the history found in it begins with what was seen, and what was added is by others; the request is answered at it
pub record TakesTurn (author : ℕ) (seen : Journal × Journal) (old new : SessionView) (request : Request) (reply : Reply) (Finds : List ℕ → Type 0) : Type 0 where
  pub found : Journal
  pub added : OthersAdded (author ∷ []) seen.0 found
  pub step : TurnStep (found, seen.1) old new request reply
  pub legal : IsLegal seen.1.limits seen.1.entries
  pub finds : Finds (length found.entries ∷ [])

-- a session whose turns were made so, from the first version on
pub record Converses (author : ℕ) (seen : Journal × Journal) (Finds : List ℕ → Type 0) (budget : ℕ) (wires : WireView × WireView) (end : Ended) : Type 0 where
  pub front : ℕ
  pub own : List ℕ
  pub finds : Finds (front ∷ own)
  pub visit : Visit (record { setting = setting seen.0; author = author; start = length seen.0.entries }) front own budget (record { entries = seen.0.entries; wire = wires.0 }) (record { entries = seen.1.entries; wire = wires.1 }) end

-- there was no memory for the line buffer or for the first version: nothing was read or written, and at most one front was found
pub record LacksMemory (author : ℕ) (seen : Journal × Journal) (Finds : List ℕ → Type 0) (wires : WireView × WireView) : Type 0 where
  pub fronts : List ℕ
  pub few : length fronts ≤ 1
  pub finds : Finds fronts
  pub added : OthersAdded (author ∷ []) seen.0 seen.1
  pub same : wires.1 ≡ wires.0

-- a whole session, by how it ended
abbrev pub Conversed : ℕ → Journal × Journal → (List ℕ → Type 0) → ℕ → WireView × WireView → Ended → Type 0
Conversed author seen Finds budget wires Memory = LacksMemory author seen Finds wires
Conversed author seen Finds budget wires Quit = Converses author seen Finds budget wires Quit
Conversed author seen Finds budget wires End = Converses author seen Finds budget wires End
Conversed author seen Finds budget wires Cut = Converses author seen Finds budget wires Cut
Conversed author seen Finds budget wires LongLine = Converses author seen Finds budget wires LongLine
Conversed author seen Finds budget wires Spent = Converses author seen Finds budget wires Spent
Conversed author seen Finds budget wires ReadFault = Converses author seen Finds budget wires ReadFault
Conversed author seen Finds budget wires WriteFault = Converses author seen Finds budget wires WriteFault
