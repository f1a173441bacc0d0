-- Which fronts the turns of a session found.
use Rattle.std.specs.Prelude.{◌≡◌, ◌⊎◌, ℕ, Bool, true, false, List, [], ◌∷◌, ◌++◌, Option, None, Some, option_map, unwrap_or}
use Rattle.ground_model.specs.declared.entry.Entry.{Entry}
use Rattle.ground_model.specs.Answer.{Pending}
use Rattle.line_protocol.specs.declared.reply.Reply.{Reply}
use Rattle.line_protocol.specs.declared.reply.Reply.TheVariants.{Memory}
use Rattle.line_protocol.specs.declared.request.Request.{Request}
use Rattle.line_protocol.specs.Reading.{takes_memory_early}
use Rattle.line_protocol.specs.Within.{request_of}
use Rattle.session.specs.Told.{Told, told_after}
use Rattle.session.specs.Transcript.{Sitting, Exchange}
use Rattle.session.specs.Sessions.{takes_turn}

-- whether a line's request, if it has one within its limits, asks for a turn, where this plan is pending
abbrev pub asks_turn : Option Pending → Option Request → Bool
asks_turn pending None = false
asks_turn pending (Some request) = takes_turn pending request

-- there was no room for the places of a new line, which is known before a turn is taken
abbrev pub LacksRoom : Option Request → Reply → Type 0
LacksRoom request reply = (option_map takes_memory_early request ≡ Some true) × (reply ≡ Memory)

-- the fronts that a line's turn found: the one that its reply speaks of, where it asks for a turn and there was room for its places, and else none
abbrev pub AreOwn : Bool → Option Request → Reply → ℕ → List ℕ → Type 0
AreOwn false request reply front own = own ≡ []
AreOwn true request reply front own = (own ≡ front ∷ []) ⊎ (LacksRoom request reply × (own ≡ []))

-- one line and its reply in a session whose first version is at this front, with the fronts of the line's turn: where it found none, the reply speaks of the held version, which is at the front shown last, and else at the first
pub record Visited (s : Sitting) (h : List Entry) (first : ℕ) (told : Told) (line : List ℕ) (reply : Reply) (own : List ℕ) : Type 0 where
  pub exchange : Exchange s h told line reply
  pub turn : AreOwn (asks_turn told.pending (request_of s.setting.head.origin line)) (request_of s.setting.head.origin line) reply exchange.front own
  pub held : own ≡ [] → exchange.front ≡ unwrap_or told.shown first

-- one reply for each line, in order, and the fronts of their turns, in order
abbrev pub Visits : Sitting → List Entry → ℕ → Told → List (List ℕ) → List Reply → List ℕ → Type 0
Visits s h first told [] [] fronts = fronts ≡ []
Visits s h first told (line ∷ lines) (reply ∷ replies) fronts =
    (own : List ℕ) × (later : List ℕ) × (fronts ≡ own ++ later) × Visited s h first told line reply own × Visits s h first (told_after (request_of s.setting.head.origin line) reply told) lines replies later
Visits s h first told [] (reply ∷ replies) fronts = ⊥
Visits s h first told (line ∷ lines) [] fronts = ⊥
