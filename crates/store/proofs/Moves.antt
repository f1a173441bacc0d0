-- Commits as moves of a session of a run.
use Rattle.std.proofs.Common.{◌≡◌, ℕ, ◌+◌, [], ◌∷◌, length, length-append, None, sym, ap, subst, ◌∙◌}
use Rattle.std.specs.Prelude.{Option}
use Rattle.ground_model.specs.declared.edit.Edit.{Edit}
use Rattle.ground_model.specs.declared.line.LineId.{LineId}
use Rattle.ground_model.specs.declared.mark.Mark.{Mark}
use Rattle.ground_model.specs.declared.refusal.Refusal.{Refusal}
use Rattle.ground_model.specs.Answer as answers
use Rattle.ground_model.specs.Answer.{Answer, next_entry}
use Rattle.turn_lock.specs.Journal.{IsPrefix}
use Rattle.turn_lock.specs.declared.journal.Journal.{Journal}
use Rattle.turn_lock.proofs.Prefix.{prefix_refl}
use Rattle.store.specs.declared.event.CoreReply.{CoreReply}
use Rattle.store.specs.declared.event.CoreReply.TheVariants.{Done, Conflict, Refused}
use Rattle.store.specs.Versions.{with_next}
use Rattle.store.specs.Core.{answered, reply_of, history_after}
use Rattle.store.specs.Members.{MemberView, holding_of, Makes}

module _ (author : ℕ) (edit : Edit) (old new : Journal) (self now : MemberView) (newer : Journal) (front : ℕ) (none : self.pending ≡ None)
    (holds : now ≡ record self { journal = newer }) (newest : newer ≡ new) (is : front ≡ length newer.entries) where
  answer-made : (a : Answer) (reply : CoreReply) → new ≡ record old { entries = history_after author old.entries edit a } → IsPrefix old new → reply ≡ reply_of a → Makes (old, new) (answered author old.entries None edit a) now reply
  answer-made a reply entries grows replied = record {
    journal = entries;
    grows = grows;
    held = subst (λ j. IsPrefix j new) (sym (ap (λ (m : MemberView). m.journal) holds ∙ newest)) (prefix_refl new);
    holding = ap holding_of holds ∙ (λ i. record { front = length (newest i).entries; pending = none i }) ∙ ap (λ (j : Journal). record { front = length j.entries; pending = None }) entries;
    reply = replied;
  }

  pub done-made : (a : Answer) (line : Option LineId) → a ≡ answers.Done (length old.entries + 1) line → new ≡ with_next author old edit → Makes (old, new) (answered author old.entries None edit a) now (Done front line)
  done-made a line answer entries =
      answer-made a (Done front line) (entries ∙ ap (λ b. record old { entries = history_after author old.entries edit b }) (sym answer)) (next_entry author old.entries edit ∷ [], entries)
      (ap (λ n. Done n line) (is ∙ ap (λ (j : Journal). length j.entries) (newest ∙ entries) ∙ length-append old.entries (next_entry author old.entries edit ∷ [])) ∙ sym (ap reply_of answer))

  pub conflict-made : (a : Answer) (mark : Mark) → a ≡ answers.Conflict (length old.entries) mark → new ≡ old → Makes (old, new) (answered author old.entries None edit a) now (Conflict front mark)
  conflict-made a mark answer same =
      answer-made a (Conflict front mark) (same ∙ ap (λ b. record old { entries = history_after author old.entries edit b }) (sym answer)) (subst (IsPrefix old) (sym same) (prefix_refl old))
      (ap (λ n. Conflict n mark) (is ∙ ap (λ (j : Journal). length j.entries) (newest ∙ same)) ∙ sym (ap reply_of answer))

  pub refused-made : (a : Answer) (cause : Refusal) → a ≡ answers.Refused (length old.entries) cause → new ≡ old → Makes (old, new) (answered author old.entries None edit a) now (Refused front cause)
  refused-made a cause answer same =
      answer-made a (Refused front cause) (same ∙ ap (λ b. record old { entries = history_after author old.entries edit b }) (sym answer)) (subst (IsPrefix old) (sym same) (prefix_refl old))
      (ap (λ n. Refused n cause) (is ∙ ap (λ (j : Journal). length j.entries) (newest ∙ same)) ∙ sym (ap reply_of answer))
