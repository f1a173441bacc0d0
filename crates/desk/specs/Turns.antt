-- What a turn does to a pass, and what is answered in it.
use Rattle.std.specs.Prelude.{◌≡◌, ◌≤◌, ◌∷◌, ◌++◌, [], length, Result}
use Rattle.std.specs.List.{All}
use Rattle.std.specs.declared.alloc.AllocError.{AllocError}
use Rattle.ground_model.specs.declared.edit.Edit.{Edit}
use Rattle.ground_model.specs.Answer.{Pending}
use Rattle.turn_lock.specs.declared.journal.Journal.{Journal}
use Rattle.turn_lock.specs.Journal.{OthersAdded}
use Rattle.turn_lock.specs.Seat.{Seat, numbers_of}
use Rattle.store.specs.Versions.{PlanView}
use Rattle.store.specs.Answers.{Settles, Commits, Applies}
use Rattle.store.specs.declared.answers.Applied.{Applied}
use Rattle.store.specs.declared.answers.Commit.{Commit}
use Rattle.store.specs.declared.answers.Settled.{Settled}

-- a pass that has seen this history
abbrev pub with_seen : Seat → Journal → Seat
with_seen p j = record p { seen = j }

-- a turn in which a pass finds this history: it begins with what the pass had seen, all that was added is by others, and no front found before is above its own. The pass comes back with one more found front, and has seen what the turn leaves
pub record Finds (old new : Seat) (found : Journal) : Type 0 where
  pub added : OthersAdded (numbers_of old) old.seen found
  pub bounded : All (λ front. front ≤ length found.entries) old.found
  pub pass : new ≡ record old { seen = new.seen; found = old.found ++ length found.entries ∷ [] }

-- a turn in which a plan is committed at the history found
pub record CommitsInTurn (old new : Seat) (plan : PlanView) (answer : Commit) : Type 0 where
  pub found : Journal
  pub finds : Finds old new found
  pub commits : Commits old.number plan found new.seen answer

-- a turn in which an edit is applied at the history found
pub record AppliesInTurn (old new : Seat) (edit : Edit) (answer : Applied) : Type 0 where
  pub found : Journal
  pub finds : Finds old new found
  pub applies : Applies old.number edit found new.seen answer

-- what was tried in a turn, in which the store got this journal
abbrev pub IsSettled : Seat → Journal → Result Settled AllocError → Type 0
IsSettled turn new settled = (plan : Pending) × Settles turn.number plan turn.seen new settled
