-- What a line leaves: the history that is seen, the version that is held, and what was written.
use Rattle.std.proofs.Common.{◌≡◌, ℕ, ◌≤◌, ◌⊎◌, inl, inr, Bool, true, false, cond, List, [], ◌∷◌, ◌++◌, length, Option, None, Some, IfSome, is_some, Result, refl, sym, ap, subst, ◌∙◌, arith}
use Rattle.std.proofs.lemmas.List.{append-nil}
use Rattle.ground_model.specs.declared.edit.Edit.{Edit}
use Rattle.ground_model.specs.declared.entry.Entry.{Entry}
use Rattle.ground_model.specs.Answer.{next_entry}
use Rattle.ground_model.specs.History.{IsLegal}
use Rattle.line_protocol.specs.declared.reply.Reply.{Reply}
use Rattle.line_protocol.specs.declared.reply.Reply.TheVariants.{Held, Planned, Done, Conflict, Refused, Level, Contour, Volume, Stat, Export, Bye, Syntax, Range, NoPlan, Memory}
use Rattle.line_protocol.specs.declared.request.Request.{Request}
use Rattle.line_protocol.specs.Within.{request_of}
use Rattle.turn_lock.specs.Journal.{IsPrefix}
use Rattle.turn_lock.specs.Setting.{Setting, setting}
use Rattle.turn_lock.specs.declared.journal.Journal.{Journal}
use Rattle.turn_lock.proofs.Prefix.{prefix_refl, prefix_trans}
use Rattle.session.specs.Told.{done_front, edit_made, with_entry, entries_after, export_front}
use Rattle.session.specs.Texts.{text_at, held_text}
use Rattle.session.specs.Transcript.{AnswersLine}
use Rattle.session.specs.Sessions.{held_after}
use Rattle.session.specs.Fronts.{asks_turn}
use Rattle.session.specs.Talking.{Position, Output, HeldStep, FoundStep, Steps, ServesLine, Answered}
use Rattle.session.proofs.Exchanges.{export_here, turn_prints, prefix_setting}
use Rattle.session.proofs.Answering.{text_at-longer, held-text, no-export}

-- the entries after a reply begin with those before it
entries-longer : (author : ℕ) (h : List Entry) (edit : Option Edit) (reply : Reply) → (more : List Entry) × (entries_after author h edit reply ≡ h ++ more)
entries-longer author h edit reply = by (is_some (done_front reply)) edit
  where
    by : (made : Bool) (edit : Option Edit) → (more : List Entry) × (cond made (with_entry author h edit) h ≡ h ++ more)
    by false edit = ([], sym (append-nil h))
    by true None = ([], sym (append-nil h))
    by true (Some e) = (next_entry author h e ∷ [], refl)

-- a journal with the setting of another, whose entries begin with the other's
prefix-from : (x y : Journal) (more : List Entry) → setting y ≡ setting x → y.entries ≡ x.entries ++ more → IsPrefix x y
prefix-from x y more same longer = (more, λ i. record { head = (same i).head; limits = (same i).limits; entries = longer i })

-- the version that is held after a reply is the old one or the newest
held_is : (P : Journal → Type 0) (reply : Reply) (old new : Journal) → P old → P new → P (held_after reply old new)
held_is P Memory old new p q = p
held_is P (Held f) old new p q = q
held_is P (Planned f size) old new p q = q
held_is P (Done f line) old new p q = q
held_is P (Conflict f mark) old new p q = q
held_is P (Refused f cause) old new p q = q
held_is P (Level f z) old new p q = q
held_is P (Contour f cuts) old new p q = q
held_is P (Volume f v) old new p q = q
held_is P (Stat f points lines) old new p q = q
held_is P (Export f bytes) old new p q = q
held_is P Bye old new p q = q
held_is P (Syntax offset) old new p q = q
held_is P Range old new p q = q
held_is P NoPlan old new p q = q

module _ (author : ℕ) (change : Position × Position) (request : Option Request) (reply : Reply) (own : List ℕ) (Is : Journal → Type 0) where
  pub step_seen : Steps author change request reply own Is → IsPrefix change.0.seen change.1.seen
  step_seen (inl s) = subst (IsPrefix change.0.seen) (sym s.seen) (prefix_refl change.0.seen)
  step_seen (inr s) =
      let later = entries-longer author s.found.entries (edit_made change.0.pending request) reply in
      prefix_trans change.0.seen s.found change.1.seen s.added.prefix (prefix-from s.found change.1.seen later.0 s.stays (s.entries ∙ later.1))

  pub step_setting : Steps author change request reply own Is → setting change.1.seen ≡ setting change.0.seen
  step_setting s = sym (prefix_setting change.0.seen change.1.seen (step_seen s))

  pub step_holds : IsPrefix change.0.held change.0.seen → Steps author change request reply own Is → IsPrefix change.1.held change.1.seen
  step_holds holds (inl s) = subst (λ (j : Journal). IsPrefix j change.1.seen) (sym s.held) (subst (IsPrefix change.0.held) (sym s.seen) holds)
  step_holds holds (inr s) =
      subst (λ (j : Journal). IsPrefix j change.1.seen) (sym s.held)
      (held_is (λ j. IsPrefix j change.1.seen) reply change.0.held change.1.seen (prefix_trans change.0.held change.0.seen change.1.seen holds (step_seen (inr s))) (prefix_refl change.1.seen))

  pub step_legal : IsLegal change.0.seen.limits change.0.seen.entries → Steps author change request reply own Is → IsLegal change.1.seen.limits change.1.seen.entries
  step_legal legal (inl s) = subst (λ (j : Journal). IsLegal j.limits j.entries) (sym s.seen) legal
  step_legal legal (inr s) = s.legal

-- what is written for the line's reply
module _ (author : ℕ) (change : Position × Position) (line : List ℕ) (reply : Reply) (own : List ℕ) (holds : IsPrefix change.0.held change.0.seen) where
  there : (n : ℕ) (front : Option ℕ) → IfSome front (λ f. f ≡ n) → IfSome front (λ f. f ≤ n)
  there n None here = tt
  there n (Some f) here = omega (arith, here)

  by_held : HeldStep change (request_of change.0.held.head.origin line) reply own (λ j. AnswersLine (setting j) j.entries change.0.pending line reply) → held_text change.1.held reply ≡ text_at (setting change.1.seen) change.1.seen.entries reply
  by_held s =
      let here = export_here (setting change.0.held) change.0.held.entries change.0.pending line reply s.is in
      ap (λ j. held_text j reply) s.held
      ∙ held-text change.0.held reply here
      ∙ ap (λ set. text_at set change.0.held.entries reply) (prefix_setting change.0.held change.0.seen holds)
      ∙ sym (text_at-longer (setting change.0.seen) change.0.held.entries holds.0 reply (there (length change.0.held.entries) (export_front reply) here))
      ∙ ap (λ (j : Journal). text_at (setting change.0.seen) j.entries reply) (sym holds.1)
      ∙ ap (λ (j : Journal). text_at (setting j) j.entries reply) (sym s.seen)

  by_turn : FoundStep author change (request_of change.0.held.head.origin line) reply own (λ j. AnswersLine (setting j) j.entries change.0.pending line reply) → held_text change.1.held reply ≡ text_at (setting change.1.seen) change.1.seen.entries reply
  by_turn s =
      let same : setting change.0.seen ≡ setting s.found = prefix_setting change.0.seen s.found s.added.prefix in
      let turn = ap (λ (set : Setting). asks_turn change.0.pending (request_of set.head.origin line)) (sym (prefix_setting change.0.held change.0.seen holds ∙ same)) ∙ s.turn in
      let none : export_front reply ≡ None = by (turn_prints (setting s.found) s.found.entries change.0.pending line reply turn s.is) in
      let stays : setting change.1.held ≡ setting change.1.seen =
      ap setting s.held
      ∙ held_is (λ j. setting j ≡ setting change.1.seen) reply change.0.held change.1.seen (prefix_setting change.0.held change.0.seen holds ∙ same ∙ sym s.stays) refl in
      no-export (setting change.1.seen) change.1.seen.entries change.1.held reply stays none
    where
      by : {P : ℕ → Type 0} → (reply ≡ Memory) ⊎ ((f : ℕ) × P f × (export_front reply ≡ None)) → export_front reply ≡ None
      by (inl memory) = ap export_front memory
      by (inr p) = p.2

  pub line_written : ServesLine author change line reply own → held_text change.1.held reply ≡ text_at (setting change.1.seen) change.1.seen.entries reply
  line_written (inl s) = by_held s
  line_written (inr s) = by_turn s

-- ---- a line that was answered

pub answered_setting : {E : Type 0} (author : ℕ) (change : Position × Position) (line : List ℕ) (outputs : Output × Output) (own : List ℕ) (r : Result Bool E) → Answered {E = E} author change line outputs own r → setting change.1.seen ≡ setting change.0.seen
answered_setting author change line outputs own r a = step_setting author change _ a.reply own _ a.serves

pub answered_holds : {E : Type 0} (author : ℕ) (change : Position × Position) (line : List ℕ) (outputs : Output × Output) (own : List ℕ) (r : Result Bool E) → IsPrefix change.0.held change.0.seen → Answered {E = E} author change line outputs own r → IsPrefix change.1.held change.1.seen
answered_holds author change line outputs own r holds a = step_holds author change _ a.reply own _ holds a.serves
