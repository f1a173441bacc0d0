-- What passes that are joined have together, and what a desk is closed with.
use Rattle.std.specs.Prelude.{◌≡◌, List}
use Rattle.std.specs.List.{All, Any, flat_map}
use Rattle.turn_lock.specs.declared.journal.Journal.{Journal}
use Rattle.turn_lock.specs.Journal.{OthersAdded, AddedBy}
use Rattle.turn_lock.specs.Seat.{Lock, Seat, numbers_of}

-- the longest history that any of the passes has seen: each has seen a beginning of it, in which all entries of its authors are
pub record IsLongest (passes : List Seat) (j : Journal) : Type 0 where
  pub seen : Any (λ p. p.seen ≡ j) passes
  pub each : All (λ p. OthersAdded (numbers_of p) p.seen j) passes

-- the seat that these passes were joined into
pub record Gathers (passes : List Seat) (all : Seat) : Type 0 where
  pub numbers : numbers_of all ≡ flat_map numbers_of passes
  pub longest : IsLongest passes all.seen

-- a desk that is closed with these passes gives a store of this journal: the longest of their histories, in which each entry past the opening one is by an author of one of them
pub record Closes (desk : Lock) (passes : List Seat) (j : Journal) : Type 0 where
  pub longest : IsLongest passes j
  pub entries : AddedBy (flat_map numbers_of passes) desk.opening j
