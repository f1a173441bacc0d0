-- What a turn comes to for the pass.
use Rattle.std.proofs.Common.{◌≡◌, ℕ, ◌≤◌, length, sym, ap, subst, ◌∙◌}
use Rattle.std.specs.Prelude.{Result, Ok, Option}
use Rattle.std.specs.List.{All}
use Rattle.std.specs.declared.alloc.AllocError.{AllocError}
use Rattle.ground_model.specs.declared.edit.Edit.{Edit}
use Rattle.ground_model.specs.declared.line.LineId.{LineId}
use Rattle.ground_model.specs.Answer.{Pending}
use Rattle.turn_lock.specs.declared.journal.Journal.{Journal}
use Rattle.turn_lock.specs.Journal.{IsPrefix, OthersAdded}
use Rattle.turn_lock.specs.Seat.{Seat, numbers_of, with_found}
use Rattle.store.specs.Answers.{Settles}
use Rattle.store.specs.Versions.{VersionView, with_next}
use Rattle.store.specs.declared.answers.Settled.{Settled}
use Rattle.store.specs.declared.answers.Settled.TheVariants as settled
use Rattle.desk.specs.Turns.{Finds, IsSettled, with_seen}

-- a turn that was taken with the seat of a pass
module _ (old seat : Seat) (same : seat ≡ old) (found : Journal) (added : OthersAdded (numbers_of seat) seat.seen found) (bounded : All (λ front. front ≤ length found.entries) seat.found) where
  pub begins-found : IsPrefix old.seen found
  begins-found = subst (λ (s : Seat). IsPrefix s.seen found) same added.prefix

  pub begun-by : (turn : Seat) → turn ≡ with_found seat found → turn ≡ with_found old found
  begun-by turn begun = begun ∙ ap (λ (s : Seat). with_found s found) same

  -- it ends with the history found
  pub held : (new : Seat) → new ≡ with_found seat found → Finds old new new.seen
  held new is =
      let e : found ≡ new.seen = sym (ap (λ (s : Seat). s.seen) is) in
      subst (λ (s : Seat). Finds s new new.seen) same (record {
        added = subst (OthersAdded (numbers_of seat) seat.seen) e added;
        bounded = subst (λ (j : Journal). All (λ front. front ≤ length j.entries) seat.found) e bounded;
        pass = is ∙ ap (with_found seat) e;
      })

  -- it ends with another one
  pub turned : (turn new : Seat) (left : Journal) → turn ≡ with_found seat found → new ≡ with_seen turn left → Finds old new found
  turned turn new left begun is =
      let e : left ≡ new.seen = sym (ap (λ (s : Seat). s.seen) is) in
      subst (λ (s : Seat). Finds s new found) same (record {
        added = added;
        bounded = bounded;
        pass = is ∙ (ap (λ (s : Seat). with_seen s left) begun ∙ ap (λ (j : Journal). with_seen (with_found seat found) j) e);
      })

-- what was settled in a turn, by its author, at the history found
pub settled-in : (old turn : Seat) (author : ℕ) (found left : Journal) (plan : Pending) (r : Result Settled AllocError) → turn ≡ with_found old found → author ≡ old.number → Settles author plan found left r → IsSettled turn left r
settled-in old turn author found left plan r begun by settles =
    subst (λ (s : Seat). IsSettled s left r) (sym begun) (plan, subst (λ a. Settles a plan found left r) by settles)

-- and what its pass has then seen
pub settled-seen : (turn new : Seat) (author number : ℕ) (found left : Journal) (plan : Pending) (r : Result Settled AllocError) → author ≡ number → new ≡ with_seen turn left → Settles author plan found left r → Settles number plan found new.seen r
settled-seen turn new author number found left plan r by is settles =
    subst (λ (j : Journal). Settles number plan found j r) (sym (ap (λ (s : Seat). s.seen) is)) (subst (λ a. Settles a plan found left r) by settles)

-- where the edit was made, the version has the author's next entry
pub settled-next : (turn : Seat) (new : Journal) (s : Settled) (version before : VersionView) (line : Option LineId) → s ≡ settled.Done version line before → IsSettled turn new (Ok s)
    → (edit : Edit) × (version.journal ≡ with_next turn.number turn.seen edit)
settled-next turn new s version before line made settles =
    let h = subst (λ (s : Settled). IsSettled turn new (Ok s)) made settles in (h.0.edit, h.1.2 ∙ h.1.1)
