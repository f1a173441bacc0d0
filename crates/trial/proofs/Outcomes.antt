-- What comes of an edit, by what the store answers.
use Rattle.std.proofs.Common.{◌≡◌, ℕ, refl, sym, ap, ◌∙◌, List, ◌++◌, length, append_assoc}
use Rattle.std.specs.Prelude.{Option, None, Some}
use Rattle.ground_model.specs.declared.edit.Edit.{Edit}
use Rattle.ground_model.specs.declared.entry.Entry.{Entry}
use Rattle.ground_model.specs.declared.line.LineId.{LineId}
use Rattle.ground_model.specs.declared.refusal.Refusal.{Refusal}
use Rattle.ground_model.specs.Answer as answers
use Rattle.ground_model.specs.Answer.{Answer, by_refusal}
use Rattle.ground_model.proofs.Newest.{answer-newest}
use Rattle.turn_lock.specs.Journal.{IsPrefix, extended}
use Rattle.turn_lock.specs.declared.journal.Journal.{Journal}
use Rattle.store.specs.Versions.{newest_refusal}
use Rattle.store.specs.Answers.{answer_at}
use Rattle.trial.specs.Trials.{Trial, refuse, make, settle, applied, by_answer, by_plan, planned}

-- the kept version begins the journal that an entry is added to
pub kept_more : (kept j : Journal) (more : List Entry) → IsPrefix kept j → IsPrefix kept (extended j more)
kept_more kept j more p = (p.0 ++ more, λ i. record { head = (p.1 i).head; limits = (p.1 i).limits; entries = (ap (λ es. es ++ more) (λ k. (p.1 k).entries) ∙ append_assoc kept.entries p.0 more) i })

from_done : (h : List Entry) (edit : Edit) (cause : Option Refusal) (f : ℕ) (l : Option LineId) → by_refusal h edit cause ≡ answers.Done f l → cause ≡ None
from_done h edit None f l e = refl
from_done h edit (Some cause) f l e = cc

from_refused : (h : List Entry) (edit : Edit) (cause : Option Refusal) (f : ℕ) (c : Refusal) → by_refusal h edit cause ≡ answers.Refused f c → cause ≡ Some c
from_refused h edit None f c e = cc
from_refused h edit (Some cause) f c e = cc

pub done_applied : (t : Trial) (edit : Edit) (f : ℕ) (l : Option LineId) → answer_at t.journal (length t.journal.entries) edit ≡ answers.Done f l → applied edit t ≡ make edit t
unfolding applied
done_applied t edit f l e = ap (λ cause. settle cause edit t) (from_done t.journal.entries edit (newest_refusal t.journal edit) f l (sym (answer-newest t.journal.limits t.journal.entries edit) ∙ e))

pub refused_applied : (t : Trial) (edit : Edit) (f : ℕ) (c : Refusal) → answer_at t.journal (length t.journal.entries) edit ≡ answers.Refused f c → applied edit t ≡ refuse t
unfolding applied
refused_applied t edit f c e = ap (λ cause. settle cause edit t) (from_refused t.journal.entries edit (newest_refusal t.journal edit) f c (sym (answer-newest t.journal.limits t.journal.entries edit) ∙ e))

pub plan_made : (t : Trial) (edit : Edit) → newest_refusal t.kept edit ≡ None → planned edit t ≡ by_answer (answer_at t.journal (length t.kept.entries) edit) edit t
unfolding planned
plan_made t edit e = ap (λ cause. by_plan cause edit t) e

pub plan_refused : (t : Trial) (edit : Edit) (c : Refusal) → newest_refusal t.kept edit ≡ Some c → planned edit t ≡ refuse t
unfolding planned
plan_refused t edit c e = ap (λ cause. by_plan cause edit t) e
