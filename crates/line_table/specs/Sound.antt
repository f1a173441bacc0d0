-- What is true of the entries of a table of lines.
use Rattle.std.specs.Prelude.{ℕ, ◌^◌, ◌<◌, ◌≤◌, ◌≡◌, List, map, sum_by, length, take, drop, IsTrue}
use Rattle.std.specs.List.{All}
use Rattle.std.specs.Ordering.{nat_cmp}
use Rattle.std.specs.FinMap as finmap
use Rattle.ground_model.specs.Line.{Line}
use Rattle.page_index.specs.Pairs.{Pairs}
use Rattle.line_table.specs.ByPlace.{IsByPlace}

-- their numbers rise and are below the next one, which is one itself, they are few, each line is short, and this many are their places
pub record IsSound (entries : List (ℕ × Line)) (next places : ℕ) : Type 0 where
  pub in_order : IsTrue (finmap.is_sorted nat_cmp entries)
  pub few : length entries ≤ 65535
  pub begun : 1 ≤ next
  pub bound : next < 2 ^ 32
  pub fresh : All (λ entry. entry.0 < next) entries
  pub short : All (λ entry. length entry.1.places < 2 ^ 32) entries
  pub together : places ≡ sum_by (λ line. length line.places) (map (λ entry. entry.1) entries)

-- each key is a number of a line
abbrev pub AreNumbers : List (ℕ × Line) → Type 0
AreNumbers entries = All (λ entry. entry.0 < 2 ^ 32) entries

-- these are entries in a row from a rank on
abbrev pub IsAtHand : List (ℕ × Line) → List (ℕ × Line) → ℕ → Type 0
IsAtHand entries run front = take (length run) (drop front entries) ≡ run

-- a walk over entries has two ranks left to go between, and some entries at hand from the first on
pub record IsWalk (entries run : List (ℕ × Line)) (front back : ℕ) : Type 0 where
  pub numbers : All (λ entry. entry.0 < 2 ^ 32) entries
  pub ordered : front ≤ back
  pub within : back ≤ length entries
  pub at_hand : take (length run) (drop front entries) ≡ run

-- a table's entries are sound, and the index has them by their places
pub record IsIndexed (entries : List (ℕ × Line)) (index : Pairs (List ℕ)) (next places : ℕ) : Type 0 where
  pub sound : IsSound entries next places
  pub by_place : IsByPlace entries index
