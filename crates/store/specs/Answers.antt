-- What is answered to an edit that is planned, committed or applied.
use Rattle.std.specs.Prelude.{◌≡◌, ℕ, ◌+◌, true, length, None, Some, Result, Ok, Err, ⊤}
use Rattle.std.specs.declared.alloc.AllocError.{AllocError}
use Rattle.ground_model.specs.declared.edit.Edit.{Edit}
use Rattle.ground_model.specs.Answer as answers
use Rattle.ground_model.specs.Answer.{Answer, Pending, answer, given_number}
use Rattle.ground_model.specs.History.{content_of}
use Rattle.turn_lock.specs.declared.journal.Journal.{Journal}
use Rattle.store.specs.declared.answers.Applied.{Applied}
use Rattle.store.specs.declared.answers.Applied.TheVariants as applied
use Rattle.store.specs.declared.answers.Commit.{Commit}
use Rattle.store.specs.declared.answers.Commit.TheVariants as commits
use Rattle.store.specs.declared.answers.Settled.{Settled}
use Rattle.store.specs.declared.answers.Settled.TheVariants as settled
use Rattle.store.specs.declared.plan.PlanFault.{PlanFault}
use Rattle.store.specs.declared.plan.PlanFault.TheVariants as faults
use Rattle.store.specs.Versions.{PlanView, newest_refusal, with_next}
use Rattle.store.specs.Outcomes.{takes_room}

-- a plan of this edit on this journal; a refusal there; or out of memory for an edit that takes some. An edit that is not planned comes back
abbrev pub Plans : Journal → Edit → Result PlanView PlanFault → Type 0
Plans j edit (Ok plan) = (newest_refusal j edit ≡ None) × (plan.journal ≡ j) × (plan.edit ≡ edit)
Plans j edit (Err (faults.Refused back cause)) = (newest_refusal j edit ≡ Some cause) × (back ≡ edit)
Plans j edit (Err (faults.Memory back)) = (takes_room j.limits j.entries edit ≡ true) × (back ≡ edit)

-- the answer to an edit at the front of a journal, where it was planned at a base
abbrev pub answer_at : Journal → ℕ → Edit → Answer
answer_at j base edit = answer j.limits j.entries base edit

-- a plan is committed as the answer to it says, and an entry is made only where it is done; out of memory the plan comes back, and nothing is changed. The version is the newest afterwards
abbrev pub Commits : ℕ → PlanView → Journal → Journal → Commit → Type 0
Commits author plan old new (commits.Done version line) = (answer_at old (length plan.journal.entries) plan.edit ≡ answers.Done (length old.entries + 1) line) × (new ≡ with_next author old plan.edit) × (version.journal ≡ new)
Commits author plan old new (commits.Conflict version mark edit) = (answer_at old (length plan.journal.entries) plan.edit ≡ answers.Conflict (length old.entries) mark) × (edit ≡ plan.edit) × (new ≡ old) × (version.journal ≡ new)
Commits author plan old new (commits.Refused version cause) = (answer_at old (length plan.journal.entries) plan.edit ≡ answers.Refused (length old.entries) cause) × (new ≡ old) × (version.journal ≡ new)
Commits author plan old new (commits.Memory back) = (back.journal ≡ plan.journal) × (back.edit ≡ plan.edit) × (new ≡ old)

-- an edit is planned on the newest version and committed at once
abbrev pub Applies : ℕ → Edit → Journal → Journal → Applied → Type 0
Applies author edit old new (applied.Done version line) = (answer_at old (length old.entries) edit ≡ answers.Done (length old.entries + 1) line) × (new ≡ with_next author old edit) × (version.journal ≡ new)
Applies author edit old new (applied.Refused version cause) = (answer_at old (length old.entries) edit ≡ answers.Refused (length old.entries) cause) × (new ≡ old) × (version.journal ≡ new)
Applies author edit old new (applied.Memory back) = (back ≡ edit) × (new ≡ old)

-- an edit, as it is planned at the front of a journal
abbrev pub at_front : Journal → Edit → Pending
at_front j edit = record { base = length j.entries; edit = edit }

-- a planned edit is settled as the answer to it says, and an entry is made only where it is done; out of memory nothing is changed. An edit that is not made comes back. The first version is the newest afterwards, and where the edit is made the second is the newest before
abbrev pub Settles : ℕ → Pending → Journal → Journal → Result Settled AllocError → Type 0
Settles author plan old new (Ok (settled.Done version line before)) = (answer_at old plan.base plan.edit ≡ answers.Done (length old.entries + 1) line) × (new ≡ with_next author old plan.edit) × (version.journal ≡ new) × (before.journal ≡ old)
Settles author plan old new (Ok (settled.Conflict version mark edit)) = (answer_at old plan.base plan.edit ≡ answers.Conflict (length old.entries) mark) × (edit ≡ plan.edit) × (new ≡ old) × (version.journal ≡ new)
Settles author plan old new (Ok (settled.Refused version cause edit)) = (answer_at old plan.base plan.edit ≡ answers.Refused (length old.entries) cause) × (edit ≡ plan.edit) × (new ≡ old) × (version.journal ≡ new)
Settles author plan old new (Err out) = new ≡ old

-- what an edit comes to that was not planned before
abbrev pub IsNoConflict : Result Settled AllocError → Type 0
IsNoConflict (Ok (settled.Done version line before)) = ⊤
IsNoConflict (Ok (settled.Conflict version mark edit)) = ⊥
IsNoConflict (Ok (settled.Refused version cause edit)) = ⊤
IsNoConflict (Err out) = ⊤

-- an edit is tried at the front of a journal, and made where it is lawful
abbrev pub Tries : ℕ → Edit → Journal → Journal → Settled → Type 0
Tries author edit old new (settled.Done version line before) = (newest_refusal old edit ≡ None) × (line ≡ given_number (content_of old.entries) edit) × (new ≡ with_next author old edit) × (version.journal ≡ new) × (before.journal ≡ old)
Tries author edit old new (settled.Conflict version mark back) = ⊥
Tries author edit old new (settled.Refused version cause back) = (newest_refusal old edit ≡ Some cause) × (back ≡ edit) × (new ≡ old) × (version.journal ≡ new)
