-- Journals that begin one another, and the entries of an author.
use Rattle.std.specs.Prelude.{◌≡◌, ℕ, List, ◌++◌, length, nat_eq, nat_lt, if◌then◌else◌}
use Rattle.std.specs.List.{filter, Contains, All}
use Rattle.ground_model.specs.declared.entry.Entry.{Entry}
use Rattle.turn_lock.specs.declared.journal.Journal.{Journal}

-- the journal with more entries after its own
abbrev pub extended : Journal → List Entry → Journal
extended j more = record j { entries = j.entries ++ more }

-- the second has the head and the limits of the first, and its entries begin with those of the first
abbrev pub IsPrefix : Journal → Journal → Type 0
IsPrefix x y = (more : List Entry) × (y ≡ extended x more)

-- the one with more entries
abbrev pub longer : Journal → Journal → Journal
longer x y = if nat_lt (length x.entries) (length y.entries) then y else x

-- the author's entries, in order
abbrev pub entries_by : ℕ → List Entry → List Entry
entries_by a es = filter (λ e. nat_eq e.author a) es

-- both journals have the same entries of each author in the list
abbrev pub SameBy : List ℕ → Journal → Journal → Type 0
SameBy numbers old new = (a : ℕ) → Contains numbers a → entries_by a new.entries ≡ entries_by a old.entries

-- the new journal begins with the old one, and what follows is by authors who are not in the list
pub record OthersAdded (numbers : List ℕ) (old new : Journal) : Type 0 where
  pub prefix : IsPrefix old new
  pub own : SameBy numbers old new

-- the new journal begins with the old one, and what follows is by authors in the list
pub record AddedBy (numbers : List ℕ) (old new : Journal) : Type 0 where
  pub past : List Entry
  pub began : new ≡ extended old past
  pub named : All (λ e. Contains numbers e.author) past
