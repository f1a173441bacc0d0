-- What holds between any two steps on the lock's table.
-- Word 0 is the front, which is the number of entries of the longest journal, word 1 the next ticket, word 2 the ticket that is served.
use Rattle.std.specs.Prelude.{◌≡◌, ℕ, ◌+◌, ◌%◌, ◌^◌, ◌<◌, ◌≤◌, Bool, true, false, nat_eq, List, [], ◌∷◌, length, Option, Some}
use mathlib.Core.Option.{some, none}
use mathlib.Core.Option as maybe
use lib.ListN.{get_elem?}
use Rattle.std.specs.List.{IsDistinct, Contains, All, list_any}
use Rattle.atomic_table.specs.Table.{State}
use Rattle.ground_model.specs.declared.entry.Entry.{Entry}
use Rattle.turn_lock.specs.declared.journal.Journal.{Journal}
use Rattle.turn_lock.specs.declared.view.View.{View}
use Rattle.turn_lock.specs.declared.view.Stage.{Stage}
use Rattle.turn_lock.specs.declared.view.Stage.TheVariants.{Idle, Joined, Waits, Holds}
use Rattle.turn_lock.specs.Journal.{extended, IsPrefix, entries_by, OthersAdded}

-- the ticket, counted without end
abbrev pub ticket : Stage → ℕ
ticket Idle = 0
ticket (Joined x y) = 0
ticket (Waits n) = n
ticket (Holds n) = n

-- the seat has the slot
abbrev pub IsHolding : View → Type 0
IsHolding v = v.stage ≡ Holds (ticket v.stage)

-- the seat was not joined into another
abbrev pub IsSeat : View → Type 0
IsSeat v = 0 < length v.numbers

-- what the stage of the seat j says, where the seats in the queue have the tickets from `first` on, and `out` says that the slot is not at home
module _ (log : Journal) (first : ℕ) (queue : List ℕ) (out : Bool) (j : ℕ) (seen : Journal) where
  abbrev pub AtStage : Stage → Type 0
  AtStage Idle = list_any (nat_eq j) queue ≡ false
  AtStage (Joined x y) = (list_any (nat_eq j) queue ≡ false) × OthersAdded x.numbers x.seen seen × OthersAdded y.numbers y.seen seen
  AtStage (Waits n) = (k : ℕ) × (n ≡ first + k) × (get_elem? queue k ≡ some j) × (k ≡ 0 → out ≡ false)
  AtStage (Holds n) = (n ≡ first) × (get_elem? queue 0 ≡ some j) × (out ≡ true) × (seen ≡ log)

-- what holds of the view of the seat j, of `count` seats, where the seat `giver` gives the numbers
pub record Fits (log : Journal) (first : ℕ) (queue : List ℕ) (out : Bool) (giver count j : ℕ) (v : View) : Type 0 where
  pub prefix : IsSeat v → IsPrefix v.seen log
  pub bounded : All (λ front. front ≤ length v.seen.entries) v.found
  pub given : 0 < v.given → (j ≡ giver) × (v.given ≡ count)
  pub distinct : IsDistinct nat_eq v.numbers
  pub spent : length v.numbers ≡ 0 → v.stage ≡ Idle
  pub stage : AtStage log first queue out j v.seen v.stage

-- each number is in one seat's list, and that seat has seen all entries of that author; and each entry past the opening is by one of the numbers given
pub record Authored (opening log : Journal) (views : List View) : Type 0 where
  pub owner : ℕ → ℕ
  pub past : List Entry
  pub began : log ≡ extended opening past
  pub named : All (λ e. (0 < e.author) × (e.author ≤ length views)) past
  pub owned : (j : ℕ) (v : View) → get_elem? views j ≡ some v → (a : ℕ) → Contains v.numbers a
      → (owner a ≡ j) × (0 < a) × (a ≤ length views) × (entries_by a log.entries ≡ entries_by a v.seen.entries)
  pub begun : (j : ℕ) (v : View) → get_elem? views j ≡ some v → IsSeat v → IsPrefix opening v.seen

module _ {S : Type 0} (journal : S → Journal) where
  -- the slot is out with a seat, or at home with the longest journal
  abbrev pub Slot : Bool → List (maybe.Option (Option S)) → Journal → Type 0
  Slot true homes log = homes ≡ none ∷ []
  Slot false homes log = (x : S) × (homes ≡ some (Some x) ∷ []) × (journal x ≡ log)

  pub record InTurn (seats : ℕ) (opening : Journal) (s : State (Option S) View) : Type 0 where
    pub log : Journal
    pub first : ℕ
    pub queue : List ℕ
    pub out : Bool
    pub giver : ℕ
    pub words : s.words ≡ length log.entries ∷ (first + length queue) % 2 ^ 64 ∷ first % 2 ^ 64 ∷ []
    pub few : length s.views ≤ seats
    pub small : seats ≤ 65536
    pub apart : IsDistinct nat_eq queue
    pub inside : (q : ℕ) → list_any (nat_eq q) queue ≡ true → q < length s.views
    pub busy : out ≡ true → (j : ℕ) × (v : View) × (get_elem? s.views j ≡ some v) × IsHolding v
    -- some seat has seen the longest journal
    pub known : (j : ℕ) × (v : View) × (get_elem? s.views j ≡ some v) × IsSeat v × (v.seen ≡ log)
    pub authored : Authored opening log s.views
    pub slot : Slot out s.homes log
    pub each : (j : ℕ) (v : View) → get_elem? s.views j ≡ some v → Fits log first queue out giver (length s.views) j v
