-- What a seat knows after each step that it takes.
use Rattle.std.specs.Prelude.{◌≡◌, ◌≢◌, ⊤, ℕ, ◌+◌, ◌%◌, ◌^◌, ◌≤◌, max, pos, [], ◌∷◌, ◌++◌, length, Option, Some}
use Rattle.std.specs.List.{All}
use Rattle.atomic_table.specs.Table.{Me, Step}
use Rattle.ground_model.specs.declared.entry.Entry.{Entry}
use Rattle.ground_model.specs.declared.limits.Limits.{Limits}
use Rattle.std.proofs.Common.{arith}
use Rattle.ground_num.specs.declared.head.LinearUnit.TheVariants.{Meter}
use Rattle.turn_lock.specs.declared.journal.Journal.{Journal}
use Rattle.turn_lock.specs.declared.view.View.{View}
use Rattle.turn_lock.specs.declared.view.Known.{Known}
use Rattle.turn_lock.specs.declared.view.Stage.{Stage}
use Rattle.turn_lock.specs.declared.view.Stage.TheVariants.{Idle, Joined, Waits, Holds}
use Rattle.turn_lock.specs.Journal.{extended, longer, OthersAdded}
use Rattle.turn_lock.specs.Rule.{ticket}

-- the view of the first seat, which gives the numbers
abbrev pub opener : Journal → View
opener seen = record { stage = Idle; numbers = 1 ∷ []; seen = seen; found = []; given = 1 }

-- what a seat that two were joined into has seen beyond what each of them had
abbrev pub HasBoth : Journal → Stage → Type 0
HasBoth seen Idle = ⊤
HasBoth seen (Joined x y) = OthersAdded x.numbers x.seen seen × OthersAdded y.numbers y.seen seen
HasBoth seen (Waits n) = ⊤
HasBoth seen (Holds n) = ⊤

module _ {S : Type 0} (journal : S → Journal) where
  -- a seat's view, and the slot where it has it
  abbrev Mine : Type 0
  Mine = Me (Option S) View

  -- a step on a word
  abbrev Move : Type 0
  Move = Step (Option S)

  -- a ticket was drawn
  abbrev pub drawn : Move → Mine → ℕ → Mine → Type 0
  drawn st m t m' = (n : ℕ) × (t ≡ n % 2 ^ 64) × (m' ≡ (record m.0 { stage = Waits n }, m.1))

  -- where the seat's ticket is served, it has taken the slot, and has seen the journal of the value in it
  abbrev pub served : Move → Mine → ℕ → Mine → Type 0
  served st m t m' =
      (t ≡ ticket m.0.stage % 2 ^ 64 → (x : S) × OthersAdded m.0.numbers m.0.seen (journal x) × (m' ≡ (record m.0 { stage = Holds (ticket m.0.stage); seen = journal x }, (0, Some x) ∷ m.1)))
      × (t ≢ ticket m.0.stage % 2 ^ 64 → m' ≡ m)

  -- the front was looked at: it is the length of what the seat has seen, and no front found before is above it
  abbrev pub looked : Move → Mine → ℕ → Mine → Type 0
  looked st m t m' = (t ≡ length m.0.seen.entries) × All (λ front. front ≤ t) m.0.found × (m' ≡ (record m.0 { found = m.0.found ++ t ∷ [] }, m.1))

  -- an entry was noted
  abbrev pub noted : Entry → Move → Mine → ℕ → Mine → Type 0
  noted e st m t m' = m' ≡ (record m.0 { seen = extended m.0.seen (e ∷ []) }, m.1)

  -- the slot was put back, and the turn passed on
  abbrev pub passed : Move → Mine → ℕ → Mine → Type 0
  passed st m t m' = m' ≡ (record m.0 { stage = Idle }, [])

  -- the seat knows what it has of the two that it was made of
  abbrev pub recalled : Move → Mine → ℕ → Mine → Type 0
  recalled st m t m' = HasBoth m.0.seen m.0.stage × (m' ≡ (record m.0 { stage = Idle }, m.1))

abbrev pub known_of : View → Known
known_of v = record { numbers = v.numbers; seen = v.seen }

-- the first seat after it was split
abbrev pub left_by_split : View → View
left_by_split v = record v { given = v.given + 1 }

-- the new seat, under the next number
abbrev pub right_by_split : View → View
right_by_split v = record { stage = Idle; numbers = (v.given + 1) ∷ []; seen = v.seen; found = []; given = 0 }

-- the seat that two were joined into
abbrev pub joined : View → View → View
joined v w = record { stage = Joined (known_of v) (known_of w); numbers = v.numbers ++ w.numbers; seen = longer v.seen w.seen; found = v.found; given = max v.given w.given }

-- the limits of a surface that can hold nothing
abbrev pub no_limits : Limits
no_limits = record { points = 0; lines = 0; places = 0; vertices = 0; log = 0; points_in = omega arith; lines_in = omega arith; places_in = omega arith; vertices_in = omega arith; log_in = omega arith }

-- a seat that was joined into another: it has no number, and its journal is of no account
abbrev pub spent : View
spent = record { stage = Idle; numbers = []; seen = record { head = record { name = []; unit = Meter; origin = record { n = record { 0 = pos 0 }; e = record { 0 = pos 0 } } }; limits = no_limits; entries = [] }; found = []; given = 0 }
