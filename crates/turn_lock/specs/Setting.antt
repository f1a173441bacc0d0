-- What a surface keeps whatever is edited.
use Rattle.std.specs.Prelude.{◌≡◌, ℕ, List}
use Rattle.ground_num.specs.declared.head.Head.{Head}
use Rattle.ground_num.specs.Head.{plain_head}
use Rattle.ground_model.specs.declared.limits.Limits.{Limits}
use Rattle.ground_model.specs.Limits.{AreFull}
use Rattle.turn_lock.specs.declared.journal.Journal.{Journal}

-- its head and its limits
pub record Setting : Type 0 where
  pub head : Head
  pub limits : Limits

-- what every journal that begins with this one has too
abbrev pub setting : Journal → Setting
setting j = record { head = j.head; limits = j.limits }

-- a surface of that name that no document gave, with the limits of every program
pub record IsPlain (name : List ℕ) (set : Setting) : Type 0 where
  pub head : set.head ≡ plain_head name
  pub limits : AreFull set.limits
