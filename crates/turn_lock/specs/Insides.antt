-- What the fields of a seat and of a turn say.
use Rattle.std.specs.Prelude.{◌≡◌, ℕ, ◌%◌, ◌^◌, List, [], ◌∷◌, length, drop, Option, None}
use Rattle.atomic_table.specs.Table.{Me}
use Rattle.atomic_table.specs.Seated.{TableId}
use Rattle.ground_model.specs.declared.entry.Entry.{Entry}
use Rattle.ground_model.specs.declared.edit.Edit.TheVariants.{RemoveLine}
use Rattle.turn_lock.specs.declared.view.View.{View}
use Rattle.turn_lock.specs.declared.view.Stage.TheVariants.{Idle}
use Rattle.turn_lock.specs.Seat.{Seat}
use Rattle.turn_lock.specs.Rule.{ticket, IsHolding}
use Rattle.turn_lock.specs.Steps.{spent}

-- the one view of a badge
abbrev pub view_of : List View → View
view_of [] = spent
view_of (v ∷ vs) = v

-- the seat that a view shows
abbrev pub seat_of : TableId → ℕ → View → Seat
seat_of table number v = record { table = table; number = number; joined = drop 1 v.numbers; seen = v.seen; found = v.found }

-- a seat between two turns
pub record IsAtRest (views : List View) (front number : ℕ) : Type 0 where
  pub one : views ≡ view_of views ∷ []
  pub idle : (view_of views).stage ≡ Idle
  pub numbered : (view_of views).numbers ≡ number ∷ drop 1 (view_of views).numbers
  pub front_is : front ≡ length (view_of views).seen.entries

-- a seat in its turn: it has the slot, whose value its owner holds
pub record IsInHand {S : Type 0} (lock table : TableId) (me : Me (Option S) View) (front turn number : ℕ) : Type 0 where
  pub seated : table ≡ lock
  pub holds : IsHolding me.0
  pub carries : me.1 ≡ (0, None) ∷ []
  pub numbered : me.0.numbers ≡ number ∷ drop 1 me.0.numbers
  pub front_is : front ≡ length me.0.seen.entries
  pub turn_is : turn ≡ ticket me.0.stage % 2 ^ 64

-- an entry that removes a line
abbrev pub removal : ℕ → ℕ → Entry
removal author number = record { author = author; number = number; edit = RemoveLine (record { 0 = number }) }
