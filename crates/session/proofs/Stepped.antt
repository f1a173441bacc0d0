-- What a turn did, as a step of a session.
use Rattle.std.proofs.Common.{◌≡◌, ℕ, ◌+◌, ◌++◌, [], ◌∷◌, length, length-append, true, false, Option, None, Some, is_some, Result, Ok, Err, IfOk, inl, inr, refl, sym, ap, subst, ◌∙◌}
use Rattle.std.specs.declared.alloc.AllocError.{AllocError}
use Rattle.std.specs.Prelude.{List}
use Rattle.ground_model.specs.declared.edit.Edit.{Edit}
use Rattle.ground_model.specs.declared.line.LineId.{LineId}
use Rattle.ground_model.specs.declared.mark.Mark.{Mark}
use Rattle.ground_model.specs.declared.refusal.Refusal.{Refusal}
use Rattle.ground_model.specs.Answer as answers
use Rattle.ground_model.specs.Answer.{Pending, next_entry}
use Rattle.line_protocol.specs.declared.reply.Reply.{Reply}
use Rattle.line_protocol.specs.declared.reply.Reply.TheVariants.{Held, Done, Conflict, Refused, Memory}
use Rattle.line_protocol.specs.declared.request.Request.{Request}
use Rattle.line_protocol.specs.declared.request.Request.TheVariants as asks
use Rattle.turn_lock.specs.Setting.{setting}
use Rattle.turn_lock.specs.declared.journal.Journal.{Journal}
use Rattle.store.specs.Versions.{VersionView, PlanView, as_pending, with_next}
use Rattle.store.specs.Answers.{answer_at, Commits, Applies}
use Rattle.store.specs.declared.answers.Applied.{Applied}
use Rattle.store.specs.declared.answers.Applied.TheVariants as applied
use Rattle.store.specs.declared.answers.Commit.{Commit}
use Rattle.store.specs.declared.answers.Commit.TheVariants as commits
use Rattle.session.specs.Table.{to_edit, to_commit}
use Rattle.session.specs.Told.{edit_made, entries_after}
use Rattle.session.specs.Turns.{TakesTurn}
use Rattle.session.specs.Talking.{Serves, position}
use Rattle.session.specs.Sessions.{SessionView, OwnStep, TurnStep, Begins, Ends, takes_turn}
use Rattle.session.specs.declared.session.Work.TheVariants as works
use Rattle.session.specs.declared.session.WorkDone.TheVariants as dones

-- a step, along equations
module _ (change : Journal × Journal) (old : SessionView) where
  moved : (new' new : SessionView) (request' request : Request) (reply' reply : Reply) → new ≡ new' → request ≡ request' → reply ≡ reply' → TurnStep change old new' request' reply' → TurnStep change old new request reply
  moved new' new request' request reply' reply e f g step =
      subst (λ n. TurnStep change old n request reply) (sym e) (subst (λ r. TurnStep change old new' r reply) (sym f) (subst (λ r. TurnStep change old new' request' r) (sym g) step))

-- ---- sync

pub turn-hold : (old mid new : SessionView) (j : Journal) (request : Request) (r : Result VersionView AllocError) (reply : Reply) → Begins old mid request works.Hold → IfOk r (λ version. version.journal ≡ j) → Ends mid new (dones.Held r) reply → TurnStep (j, j) old new request reply
turn-hold old mid new j request (Ok version) reply begins found ends =
    moved (j, j) old (record old { journal = version.journal }) new asks.Sync request (Held (length version.journal.entries)) reply
    (ends.1 ∙ ap (λ (s : SessionView). record s { journal = version.journal }) begins.1) begins.0 ends.0
    (record {
      is = inl (ap (λ (k : Journal). Held (length k.entries)) found);
      entries = refl;
      stays = refl;
      holds = found;
      plans = refl;
      author = refl;
    })
turn-hold old mid new j request (Err out) reply begins found ends =
    moved (j, j) old old new asks.Sync request Memory reply (ends.1 ∙ begins.1) begins.0 ends.0
    (record { is = inr (refl, refl); entries = refl; stays = refl; holds = refl; plans = refl; author = refl })

-- ---- commit

module _ (author : ℕ) (old : SessionView) (before : Journal) (plan : PlanView) (own : old.author ≡ author) (pending : old.pending ≡ Some (as_pending plan)) where
  longer : (version : VersionView) → version.journal ≡ with_next author before plan.edit → length version.journal.entries ≡ length before.entries + 1
  longer version is = ap (λ (j : Journal). length j.entries) is ∙ length-append before.entries (next_entry author before.entries plan.edit ∷ [])

  commit-done : (version : VersionView) (line : Option LineId) → answer_at before (length plan.journal.entries) plan.edit ≡ answers.Done (length before.entries + 1) line → version.journal ≡ with_next author before plan.edit
      → TurnStep (before, with_next author before plan.edit) old (record old { journal = version.journal; pending = None }) asks.Commit (Done (length version.journal.entries) line)
  commit-done version line answered is = record {
    is = inl (ap (λ n. Done n line) (longer version is) ∙ sym (ap to_edit answered) ∙ ap (to_commit (setting before) before.entries) (sym pending));
    entries = ap (λ a. before.entries ++ next_entry a before.entries plan.edit ∷ []) (sym own) ∙ ap (λ p. entries_after old.author before.entries (edit_made p (Some asks.Commit)) (Done (length version.journal.entries) line)) (sym pending);
    stays = refl;
    holds = is;
    plans = refl;
    author = refl;
  }

  commit-conflict : (version : VersionView) (mark : Mark) → answer_at before (length plan.journal.entries) plan.edit ≡ answers.Conflict (length before.entries) mark → version.journal ≡ before
      → TurnStep (before, before) old (record old { journal = version.journal; pending = None }) asks.Commit (Conflict (length version.journal.entries) mark)
  commit-conflict version mark answered is = record {
    is = inl (ap (λ (j : Journal). Conflict (length j.entries) mark) is ∙ sym (ap to_edit answered) ∙ ap (to_commit (setting before) before.entries) (sym pending));
    entries = refl;
    stays = refl;
    holds = is;
    plans = refl;
    author = refl;
  }

  commit-refused : (version : VersionView) (cause : Refusal) → answer_at before (length plan.journal.entries) plan.edit ≡ answers.Refused (length before.entries) cause → version.journal ≡ before
      → TurnStep (before, before) old (record old { journal = version.journal; pending = None }) asks.Commit (Refused (length version.journal.entries) cause)
  commit-refused version cause answered is = record {
    is = inl (ap (λ (j : Journal). Refused (length j.entries) cause) is ∙ sym (ap to_edit answered) ∙ ap (to_commit (setting before) before.entries) (sym pending));
    entries = refl;
    stays = refl;
    holds = is;
    plans = refl;
    author = refl;
  }

  commit-memory : TurnStep (before, before) old (record old { pending = Some (as_pending plan) }) asks.Commit Memory
  commit-memory = record {
    is = inr (some-takes old.pending pending, refl);
    entries = refl;
    stays = refl;
    holds = refl;
    plans = sym pending;
    author = refl;
  }
    where
      some-takes : (o : Option Pending) → o ≡ Some (as_pending plan) → is_some o ≡ true
      some-takes None e = cc
      some-takes (Some p) e = refl

pub turn-commit : (author : ℕ) (old mid new : SessionView) (before after : Journal) (request : Request) (plan : PlanView) (r : Commit) (reply : Reply) → old.author ≡ author → Begins old mid request (works.Commit plan) → Commits author plan before after r → Ends mid new (dones.Committed r) reply
    → TurnStep (before, after) old new request reply
turn-commit author old mid new before after request plan (commits.Done version line) reply own begins committed ends =
    subst (λ j. TurnStep (before, j) old new request reply) (sym committed.1)
    (moved (before, with_next author before plan.edit) old _ new asks.Commit request _ reply (ends.1 ∙ ap (λ (s : SessionView). record s { journal = version.journal }) begins.3) begins.0 ends.0
    (commit-done author old before plan own begins.1 version line committed.0 (committed.2 ∙ committed.1)))
turn-commit author old mid new before after request plan (commits.Conflict version mark edit) reply own begins committed ends =
    subst (λ j. TurnStep (before, j) old new request reply) (sym committed.2)
    (moved (before, before) old _ new asks.Commit request _ reply (ends.1 ∙ ap (λ (s : SessionView). record s { journal = version.journal }) begins.3) begins.0 ends.0
    (commit-conflict author old before plan own begins.1 version mark committed.0 (committed.3 ∙ committed.2)))
turn-commit author old mid new before after request plan (commits.Refused version cause) reply own begins committed ends =
    subst (λ j. TurnStep (before, j) old new request reply) (sym committed.1)
    (moved (before, before) old _ new asks.Commit request _ reply (ends.1 ∙ ap (λ (s : SessionView). record s { journal = version.journal }) begins.3) begins.0 ends.0
    (commit-refused author old before plan own begins.1 version cause committed.0 (committed.2 ∙ committed.1)))
turn-commit author old mid new before after request plan (commits.Memory back) reply own begins committed ends =
    let same : as_pending back ≡ as_pending plan = λ i. record { base = length (committed.0 i).entries; edit = committed.1 i } in
    subst (λ j. TurnStep (before, j) old new request reply) (sym committed.2)
    (moved (before, before) old _ new asks.Commit request _ reply (ends.1 ∙ ap (λ (s : SessionView). record s { pending = Some (as_pending back) }) begins.3 ∙ ap (λ p. record old { pending = Some p }) same) begins.0 ends.0
    (commit-memory author old before plan own begins.1))

-- ---- do

pub turn-apply : (author : ℕ) (old mid new : SessionView) (before after : Journal) (request : Request) (edit : Edit) (r : Applied) (reply : Reply) → old.author ≡ author → Begins old mid request (works.Apply edit) → Applies author edit before after r → Ends mid new (dones.Applied r) reply
    → TurnStep (before, after) old new request reply
turn-apply author old mid new before after request edit (applied.Done version line) reply own begins done ends =
    let longer : length version.journal.entries ≡ length before.entries + 1 = ap (λ (j : Journal). length j.entries) (done.2 ∙ done.1) ∙ length-append before.entries (next_entry author before.entries edit ∷ []) in
    subst (λ j. TurnStep (before, j) old new request reply) (sym done.1)
    (moved (before, with_next author before edit) old _ new (asks.Apply edit) request _ reply (ends.1 ∙ ap (λ (s : SessionView). record s { journal = version.journal }) begins.1) begins.0 ends.0
    (record {
      is = inl (ap (λ n. Done n line) longer ∙ sym (ap to_edit done.0));
      entries = ap (λ a. before.entries ++ next_entry a before.entries edit ∷ []) (sym own);
      stays = refl;
      holds = done.2 ∙ done.1;
      plans = refl;
      author = refl;
    }))
turn-apply author old mid new before after request edit (applied.Refused version cause) reply own begins done ends =
    subst (λ j. TurnStep (before, j) old new request reply) (sym done.1)
    (moved (before, before) old _ new (asks.Apply edit) request _ reply (ends.1 ∙ ap (λ (s : SessionView). record s { journal = version.journal }) begins.1) begins.0 ends.0
    (record {
      is = inl (ap (λ (j : Journal). Refused (length j.entries) cause) (done.2 ∙ done.1) ∙ sym (ap to_edit done.0));
      entries = refl;
      stays = refl;
      holds = done.2 ∙ done.1;
      plans = refl;
      author = refl;
    }))
turn-apply author old mid new before after request edit (applied.Memory back) reply own begins done ends =
    subst (λ j. TurnStep (before, j) old new request reply) (sym done.1)
    (moved (before, before) old old new (asks.Apply edit) request Memory reply (ends.1 ∙ begins.1) begins.0 ends.0
    (record { is = inr (refl, refl); entries = refl; stays = refl; holds = refl; plans = refl; author = refl }))

-- ---- a step, as what a request did

pub serves-own : (author : ℕ) (seen : Journal) (old new : SessionView) (request : Request) (reply : Reply) → takes_turn old.pending request ≡ false → OwnStep old new request reply → Serves author (position seen old, position seen new) request reply []
serves-own author seen old new request reply quiet step = inl (record {
  is = step.is;
  quiet = inl quiet;
  pending = step.plans;
  seen = refl;
  held = step.holds;
  own = refl;
})

pub serves-turn : (author : ℕ) (seen : Journal × Journal) (old new : SessionView) (request : Request) (reply : Reply) (Finds : List ℕ → Type 0) → old.author ≡ author → takes_turn old.pending request ≡ true → TakesTurn author seen old new request reply Finds
    → (own : List ℕ) × Finds own × Serves author (position seen.0 old, position seen.1 new) request reply own
serves-turn author seen old new request reply Finds mine turn t = (
  length t.found.entries ∷ [],
  t.finds,
  inr (record {
    found = t.found;
    added = t.added;
    is = t.step.is;
    turn = turn;
    pending = t.step.plans;
    entries = t.step.entries ∙ ap (λ a. entries_after a t.found.entries (edit_made old.pending (Some request)) reply) mine;
    stays = t.step.stays;
    legal = t.legal;
    held = t.step.holds;
    own = refl;
  }),
)
