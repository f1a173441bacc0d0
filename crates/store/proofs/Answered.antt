-- Answers at the front of a journal, and at an older base.
use Rattle.std.proofs.Common.{◌≡◌, ℕ, ◌+◌, ◌<◌, List, [], ◌∷◌, length, length-append, take, cond, None, Some, refl, sym, ap, subst, ◌∙◌, arith}
use Rattle.std.proofs.Math.Seq.{take-append_seam}
use Rattle.std.proofs.lemmas.Bool.{lt-ltb}
use Rattle.std.proofs.lemmas.List.{append-nil}
use Rattle.std.specs.Prelude.{Option, find, Result, Ok, Err, IfOk, OnErr}
use Rattle.std.specs.declared.alloc.AllocError.{AllocError}
use Rattle.ground_model.specs.declared.edit.Edit.{Edit}
use Rattle.ground_model.specs.declared.entry.Entry.{Entry}
use Rattle.ground_model.specs.declared.line.LineId.{LineId}
use Rattle.ground_model.specs.declared.mark.Mark.{Mark}
use Rattle.ground_model.specs.declared.refusal.Refusal.{Refusal}
use Rattle.ground_model.specs.Zone.{zone}
use Rattle.ground_model.specs.History.{content_of}
use Rattle.ground_model.specs.Answer.{Conflict, Refused, Done, has_changed, conflict, by_refusal, by_conflict, answer, given_number}
use Rattle.ground_model.proofs.Newest.{answer-newest}
use Rattle.turn_lock.specs.Journal.{extended, IsPrefix}
use Rattle.turn_lock.specs.declared.journal.Journal.{Journal}
use Rattle.store.specs.declared.answers.Settled.{Settled}
use Rattle.store.specs.declared.answers.Settled.TheVariants as settled
use Rattle.store.specs.Versions.{VersionView, newest_refusal, with_next}
use Rattle.store.specs.Answers.{answer_at, at_front, Settles, Tries, IsNoConflict}

-- ---- journals that begin one another

pub prefix-taken : (x y : Journal) → IsPrefix x y → take (length x.entries) y.entries ≡ x.entries
prefix-taken x y p = ap (λ (j : Journal). take (length x.entries) j.entries) p.1 ∙ take-append_seam x.entries p.0

pub prefix-whole : (x y : Journal) → IsPrefix x y → length y.entries ≡ length x.entries → x ≡ y
prefix-whole x y p same = sym (p.1 ∙ ap (extended x) (nothing p.0 (omega (arith, same, ap (λ (j : Journal). length j.entries) p.1, length-append x.entries p.0))) ∙ ap (λ es. record x { entries = es }) (append-nil x.entries))
  where
    nothing : (more : List Entry) → length more ≡ 0 → more ≡ []
    nothing [] e = refl
    nothing (z ∷ zs) e = absurd (omega (arith, e))

-- ---- answers

pub answer-done : (j : Journal) (edit : Edit) → newest_refusal j edit ≡ None → answer_at j (length j.entries) edit ≡ Done (length j.entries + 1) (given_number (content_of j.entries) edit)
answer-done j edit lawful = answer-newest j.limits j.entries edit ∙ ap (by_refusal j.entries edit) lawful

pub answer-refused : (j : Journal) (edit : Edit) (cause : Refusal) → newest_refusal j edit ≡ Some cause → answer_at j (length j.entries) edit ≡ Refused (length j.entries) cause
answer-refused j edit cause is = answer-newest j.limits j.entries edit ∙ ap (by_refusal j.entries edit) is

module _ (x j : Journal) (prefix : IsPrefix x j) (stale : length x.entries < length j.entries) (edit : Edit) where
  conflict-is : conflict j.entries (length x.entries) edit ≡ find (has_changed j.entries (length x.entries)) (zone (content_of x.entries) edit)
  unfolding conflict
  conflict-is =
      ap (λ t. cond t (find (has_changed j.entries (length x.entries)) (zone (content_of (take (length x.entries) j.entries)) edit)) None) (lt-ltb (length x.entries) (length j.entries) stale)
      ∙ ap (λ h. find (has_changed j.entries (length x.entries)) (zone (content_of h) edit)) (prefix-taken x j prefix)

  pub answer-changed : (m : Mark) → Some m ≡ find (has_changed j.entries (length x.entries)) (zone (content_of x.entries) edit) → answer_at j (length x.entries) edit ≡ Conflict (length j.entries) m
  unfolding answer
  answer-changed m found = ap (λ o. by_conflict j.entries edit o (newest_refusal j edit)) (conflict-is ∙ sym found)

  pub answer-unchanged : None ≡ find (has_changed j.entries (length x.entries)) (zone (content_of x.entries) edit) → answer_at j (length x.entries) edit ≡ by_refusal j.entries edit (newest_refusal j edit)
  unfolding answer
  answer-unchanged none = ap (λ o. by_conflict j.entries edit o (newest_refusal j edit)) (conflict-is ∙ sym none)

-- ---- what was tried at the front

-- an edit that was tried is settled
pub settles-front : (author : ℕ) (edit : Edit) (old new : Journal) (r : Result Settled AllocError) → IfOk r (Tries author edit old new) → OnErr r (new ≡ old) → Settles author (at_front old edit) old new r
settles-front author edit old new (Ok (settled.Done version line before)) h kept = (answer-done old edit h.0 ∙ ap (Done (length old.entries + 1)) (sym h.1), h.2, h.3, h.4)
settles-front author edit old new (Ok (settled.Conflict version mark back)) h kept = absurd h
settles-front author edit old new (Ok (settled.Refused version cause back)) h kept = (answer-refused old edit cause h.0, h.1, h.2, h.3)
settles-front author edit old new (Err out) h kept = kept

pub tries-front : (author : ℕ) (edit : Edit) (old new : Journal) (r : Result Settled AllocError) → IfOk r (Tries author edit old new) → IsNoConflict r
tries-front author edit old new (Ok (settled.Done version line before)) h = tt
tries-front author edit old new (Ok (settled.Conflict version mark back)) h = absurd h
tries-front author edit old new (Ok (settled.Refused version cause back)) h = tt
tries-front author edit old new (Err out) h = tt

pub settles-stale : (x : Journal) (author : ℕ) (edit : Edit) (old new : Journal) → IsPrefix x old → length x.entries < length old.entries → None ≡ find (has_changed old.entries (length x.entries)) (zone (content_of x.entries) edit)
    → (r : Result Settled AllocError) → IfOk r (Tries author edit old new) → OnErr r (new ≡ old) → Settles author (record { base = length x.entries; edit = edit }) old new r
settles-stale x author edit old new prefix stale none (Ok (settled.Done version line before)) h kept =
    (answer-unchanged x old prefix stale edit none ∙ ap (by_refusal old.entries edit) h.0 ∙ ap (Done (length old.entries + 1)) (sym h.1), h.2, h.3, h.4)
settles-stale x author edit old new prefix stale none (Ok (settled.Conflict version mark back)) h kept = absurd h
settles-stale x author edit old new prefix stale none (Ok (settled.Refused version cause back)) h kept =
    (answer-unchanged x old prefix stale edit none ∙ ap (by_refusal old.entries edit) h.0, h.1, h.2, h.3)
settles-stale x author edit old new prefix stale none (Err out) h kept = kept

pub settles-fresh : (x : Journal) (author : ℕ) (edit copy : Edit) (old new : Journal) → x ≡ old → copy ≡ edit → newest_refusal x edit ≡ None
    → (version before : VersionView) (line : Option LineId) → line ≡ given_number (content_of old.entries) copy → new ≡ with_next author old copy → version.journal ≡ new → before.journal ≡ old
    → Settles author (record { base = length x.entries; edit = edit }) old new (Ok (settled.Done version line before))
settles-fresh x author edit copy old new here same lawful version before line number next newest former = (
  ap (λ (j : Journal). answer_at old (length j.entries) edit) here
      ∙ (answer-done old edit (subst (λ (j : Journal). newest_refusal j edit ≡ None) here lawful)
      ∙ ap (Done (length old.entries + 1)) (sym (number ∙ ap (given_number (content_of old.entries)) same))),
  next ∙ ap (with_next author old) same,
  newest,
  former,
)

pub settles-changed : (x : Journal) (author : ℕ) (edit copy : Edit) (old new : Journal) → IsPrefix x old → length x.entries < length old.entries → copy ≡ edit → new ≡ old
    → (m : Mark) → Some m ≡ find (has_changed old.entries (length x.entries)) (zone (content_of x.entries) edit) → (version : VersionView) → version.journal ≡ new
    → Settles author (record { base = length x.entries; edit = edit }) old new (Ok (settled.Conflict version m copy))
settles-changed x author edit copy old new prefix stale same kept m found version newest = (answer-changed x old prefix stale edit m found, same, kept, newest)
