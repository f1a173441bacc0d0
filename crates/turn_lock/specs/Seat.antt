-- What a lock and its seats are seen as, and how a seat changes.
use Rattle.std.specs.Prelude.{◌≡◌, ℕ, ◌+◌, ◌<◌, ◌≤◌, List, [], ◌∷◌, ◌++◌, length, Some, slice_get}
use Rattle.std.specs.List.{All, Contains, flat_map}
use Rattle.atomic_table.specs.Seated.{TableId}
use Rattle.ground_model.specs.declared.entry.Entry.{Entry}
use Rattle.turn_lock.specs.declared.journal.Journal.{Journal}
use Rattle.turn_lock.specs.Journal.{extended, longer}

-- which lock it is, the journal of its value when it was made, and how many seats were made
pub record Lock : Type 0 where
  pub table : TableId
  pub opening : Journal
  pub seats : ℕ

-- which lock it is of, its number, the numbers of the seats joined into it, the journal that it has seen, and the fronts that it has found
pub record Seat : Type 0 where
  pub table : TableId
  pub number : ℕ
  pub joined : List ℕ
  pub seen : Journal
  pub found : List ℕ

-- its own number, and those of the seats joined into it
abbrev pub numbers_of : Seat → List ℕ
numbers_of s = s.number ∷ s.joined

-- a seat that has seen this journal, and found no front
abbrev pub fresh_seat : TableId → Journal → ℕ → Seat
fresh_seat table journal number = record { table = table; number = number; joined = []; seen = journal; found = [] }

-- the seats of a new lock: they are numbered from 1, and have seen the opening journal
pub record AreFirst (lock : Lock) (seats : List Seat) : Type 0 where
  pub count : length seats ≡ lock.seats
  pub each : (k : ℕ) → k < lock.seats → slice_get seats k ≡ Some (fresh_seat lock.table lock.opening (k + 1))

-- the seat once it has found the value's journal in its turn
abbrev pub with_found : Seat → Journal → Seat
with_found s journal = record s { seen = journal; found = s.found ++ length journal.entries ∷ [] }

-- the seat once it has noted an entry
abbrev pub with_noted : Seat → Entry → Seat
with_noted s entry = record s { seen = extended s.seen (entry ∷ []) }

-- the seat a once b was joined into it
abbrev pub with_joined : Seat → Seat → Seat
with_joined a b = record a { joined = a.joined ++ numbers_of b; seen = longer a.seen b.seen }

-- all numbers that were given are in the list
abbrev pub HasAll : Lock → List ℕ → Type 0
HasAll lock numbers = (k : ℕ) → 0 < k → k ≤ lock.seats → Contains numbers k

-- every other seat that was made was joined into it
abbrev pub IsLast : Lock → Seat → Type 0
IsLast lock s = HasAll lock (numbers_of s)

-- they are seats of the lock, and each seat that was made is among them or was joined into one of them
pub record AreAll (lock : Lock) (seats : List Seat) : Type 0 where
  pub of_lock : All (λ s. s.table ≡ lock.table) seats
  pub numbers : HasAll lock (flat_map numbers_of seats)
