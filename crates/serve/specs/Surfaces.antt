-- How the workers of a surface get its passes, and what comes of serving it.
use Rattle.std.specs.Prelude.{◌≡◌, ℕ, ◌<◌, List, length, Option, None, Some, slice_index_or}
use Rattle.ground_io.specs.Wires.{WireView}
use Rattle.ground_model.specs.History.{IsLegal}
use Rattle.turn_lock.specs.declared.journal.Journal.{Journal}
use Rattle.turn_lock.specs.Seat.{Lock, Seat, AreFirst}
use Rattle.desk.specs.Closing.{Closes}
use Rattle.serve.specs.Doors.{WorksWith}
use Rattle.serve.specs.declared.worker.Worker.{Worker}

-- each worker has the pass of its place in the list, and is else as it was
pub record HavePasses {D : Type 0} (passes : List Seat) (old new : List (Worker D)) : Type 0 where
  pub count : length new ≡ length old
  pub each : (i : ℕ) (d : Worker D) (p : Seat) → i < length old → slice_index_or new i d ≡ record (slice_index_or old i d) { pass = Some (slice_index_or passes i p) }

-- these are the passes that the workers had, in order; each worker has none now, and is else as it was
pub record GaveBack {D : Type 0} (passes : List Seat) (old new : List (Worker D)) : Type 0 where
  pub count : length passes ≡ length old
  pub workers : length new ≡ length old
  pub had : (i : ℕ) (d : Worker D) (p : Seat) → i < length old → (slice_index_or old i d).pass ≡ Some (slice_index_or passes i p)
  pub left : (i : ℕ) (d : Worker D) → i < length old → slice_index_or new i d ≡ record (slice_index_or old i d) { pass = None }

-- A surface was served by these workers, from an opening journal to the last one: at one desk over it, each worker with the pass of its place, whose author is that place counted from 1. The last journal is legal, it is the longest that any of the passes has seen, and each entry past the opening is by an author of one of them. Each worker is without a pass afterwards.
pub record ServesSurface {D : Type 0} (coming back : D → Option (List WireView)) (out sessions faults : D → ℕ) (budget : ℕ) (opening closing : Journal) (old new : List (Worker D)) : Type 0 where
  pub desk : Lock
  pub opened : desk.opening ≡ opening
  pub first : List Seat
  pub last : List Seat
  pub passes : AreFirst desk first
  pub seats : desk.seats ≡ length old
  pub returned : length last ≡ length old
  pub workers : length new ≡ length old
  pub each : (i : ℕ) (d : Worker D) (p : Seat) → i < length old → WorksWith coming back out sessions faults budget (slice_index_or first i p) (slice_index_or last i p) (slice_index_or old i d) (slice_index_or new i d)
  pub free : (i : ℕ) (d : Worker D) → i < length old → (slice_index_or new i d).pass ≡ None
  pub closes : Closes desk last closing
  pub legal : IsLegal closing.limits closing.entries
