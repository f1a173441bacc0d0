-- The replies of a run's session are a transcript, by going through the events from the first.
use Rattle.std.proofs.Common.{◌≡◌, ◌==◌, ℕ, zero, suc, ◌+◌, ◌≤◌, inl, inr, Bool, true, false, cond, List, [], ◌∷◌, ◌++◌, length, take, Option, None, Some, IfSome, refl, sym, ap, subst, ◌∙◌, arith, append_assoc, length-append}
use Rattle.std.specs.Prelude.{MatchOption, IsSomeAnd, option_and_then, option_map, slice_get}
use Rattle.std.proofs.lemmas.Bool.{eqb-true}
use Rattle.std.proofs.lemmas.Bool.Decides.{eqb_tells}
use Rattle.std.proofs.lemmas.List.{append-nil, take-append-le}
use Rattle.ground_num.specs.declared.head.Origin.{Origin}
use Rattle.ground_model.specs.declared.entry.Entry.{Entry}
use Rattle.ground_model.specs.Answer.{Pending, next_entry}
use Rattle.ground_model.specs.History.{IsLegal}
use Rattle.line_protocol.specs.declared.reply.Reply.{Reply}
use Rattle.line_protocol.specs.declared.request.Request.{Request}
use Rattle.line_protocol.specs.declared.request.Request.TheVariants as asks
use Rattle.line_protocol.specs.Spoken.{Spoken, Sync, Plan, Commit, Apply, Level, Contour, Volume, Stat, Export, Quit}
use Rattle.line_protocol.specs.Grammar.{spoken}
use Rattle.line_protocol.specs.Within.{request_within, request_of}
use Rattle.store.specs.declared.event.Event.{Event}
use Rattle.store.specs.declared.event.Event.TheVariants as events
use Rattle.store.specs.declared.event.Query.TheVariants as queries
use Rattle.store.specs.Core.{Holding, CoreState, Move, first_state, session_of, move_at, state_after, core_from, core}
use Rattle.store.proofs.Journals.{get_longer, get_last, legal_more}
use Rattle.turn_lock.specs.Setting.{Setting}
use Rattle.session.specs.Told.{Told, told_nothing, told_after, front_list, fronts_told, pending_after, edit_made}
use Rattle.session.specs.Table.{IsReply}
use Rattle.session.specs.Transcript.{Sitting, Reading, Turned, Shown, reading, IsFrontBy, IsFrontFor, IsFaultReply, IsAnswerWithin, AnswersLine, IsEntry, HasEntry, Exchange, Exchanges, QuitIsLast, fronts_by, Transcript}
use Rattle.session.specs.Runs.{request_in, reply_in, events_of, replies_to, AreTexts, TranscriptLaw}
use Rattle.session.proofs.Moves.{turning, Entered, Unmade, OwnMove, own_move}

-- ---- a line that asks for an event

turning_same : (asked r : Request) → Some asked ≡ Some r → turning asked ≡ turning r
turning_same asked r e = let same : asked ≡ r = cc in ap turning same

turning_mapped : {X : Type 0} (make : X → Request) (turn : Reading) (found : Option X) (r : Request) → ((x : X) → turn ≡ turning (make x)) → option_map make found ≡ Some r → turn ≡ turning r
turning_mapped make turn None r by e = cc
turning_mapped make turn (Some x) r by e = by x ∙ turning_same (make x) r e

turning_spoken : (o : Origin) (s : Spoken) (r : Request) → request_within o s ≡ Some r → reading s ≡ turning r
unfolding request_within
turning_spoken o Sync r e = turning_same asks.Sync r e
turning_spoken o (Plan edit) r e = turning_mapped asks.Plan Shown _ r (λ x. refl) e
turning_spoken o Commit r e = turning_same asks.Commit r e
turning_spoken o (Apply edit) r e = turning_mapped asks.Apply Turned _ r (λ x. refl) e
turning_spoken o (Level p) r e = turning_mapped asks.Level Shown _ r (λ x. refl) e
turning_spoken o (Contour z) r e = turning_mapped asks.Contour Shown _ r (λ x. refl) e
turning_spoken o (Volume z) r e = turning_mapped asks.Volume Shown _ r (λ x. refl) e
turning_spoken o Stat r e = turning_same asks.Stat r e
turning_spoken o Export r e = turning_same asks.Export r e
turning_spoken o Quit r e = turning_same asks.Quit r e

front_spoken : (o : Origin) (s : Option Spoken) (r : Request) (shown : Option ℕ) (front : ℕ) → option_and_then (request_within o) s ≡ Some r → IsFrontBy (turning r) shown front → IsFrontFor shown s front
front_spoken o None r shown front e by = tt
front_spoken o (Some s) r shown front e by = subst (λ turn. IsFrontBy turn shown front) (sym (turning_spoken o s r e)) by

answer_spoken : (set : Setting) (h : List Entry) (pending : Option Pending) (line : List ℕ) (s : Option Spoken) (r : Request) (reply : Reply) → option_and_then (request_within set.head.origin) s ≡ Some r → IsReply set h pending r reply
    → MatchOption s (IsFaultReply line reply) (λ said. IsAnswerWithin set h pending (request_within set.head.origin said) reply)
answer_spoken set h pending line None r reply e is = cc
answer_spoken set h pending line (Some s) r reply e is = subst (λ asked. IsAnswerWithin set h pending asked reply) (sym e) (inl is)

-- ---- the replies from an event on

-- what a session knows of what it has
record Knows (has : Holding) (told : Told) : Type 0 where
  shown : IfSome told.shown (λ f. f ≡ has.front)
  plans : told.pending ≡ has.pending

-- the session of this author
of_author : Setting → ℕ → Sitting
of_author set s = record { setting = set; author = s; start = 0 }

-- the history comes to its end by some entries, and the replies from here on are exchanges over it
record Continues (set : Setting) (s : ℕ) (h final : List Entry) (told : Told) (lines : List (List ℕ)) (replies : List Reply) : Type 0 where
  more : List Entry
  grows : final ≡ h ++ more
  legal : IsLegal set.limits final
  exchanges : Exchanges (of_author set s) final told lines replies
  each_once : fronts_by s (length h) more ≡ fronts_told replies

-- a move keeps a legal history
legal_after : (set : Setting) (author : ℕ) (h : List Entry) (has : Holding) (r : Request) (m : Move) → OwnMove set author h has r m → IsLegal set.limits h → IsLegal set.limits m.history
legal_after set author h has r m own legal =
    elim own.entries [
      | inl e ↦ rw e.entries (legal_more set.limits h (next_entry author h e.made) legal (e.lawful, refl))
      | inr u ↦ rw u.same legal
    ]

-- a move shortens no history
longer_after : (set : Setting) (author : ℕ) (h : List Entry) (has : Holding) (r : Request) (m : Move) → OwnMove set author h has r m → length h ≤ length m.history
longer_after set author h has r m own =
    elim own.entries [
      | inl e ↦ rw (e.entries, length-append h (next_entry author h e.made ∷ [])) (omega arith)
      | inr u ↦ rw u.same (omega arith)
    ]

-- by way of another session's event
over_other : (set : Setting) (s author : ℕ) (h final : List Entry) (has : Holding) (r : Request) (m : Move) (told : Told) (lines : List (List ℕ)) (replies : List Reply) → OwnMove set author h has r m → (author == s) ≡ false
    → Continues set s m.history final told lines replies → Continues set s h final told lines replies
over_other set s author h final has r m told lines replies own other c =
    elim own.entries [
      | inl e ↦
          let x = next_entry author h e.made in
          let count : length m.history ≡ suc (length h) = rw (e.entries, length-append h (x ∷ [])) (omega arith) in
          record {
            more = x ∷ c.more;
            grows = c.grows ∙ ap (λ k. k ++ c.more) e.entries ∙ append_assoc h (x ∷ []) c.more;
            legal = c.legal;
            exchanges = c.exchanges;
            each_once = ap (λ t. cond t (suc (length h) ∷ fronts_by s (suc (length h)) c.more) (fronts_by s (suc (length h)) c.more)) other ∙ ap (λ n. fronts_by s n c.more) (sym count) ∙ c.each_once;
          }
      | inr u ↦ subst (λ k. Continues set s k final told lines replies) u.same c
    ]

-- by way of the session's own event
module _ (set : Setting) (s : ℕ) (h final : List Entry) (has : Holding) (r : Request) (m : Move) (told : Told) (own : OwnMove set s h has r m) (knows : Knows has told) (line : List ℕ) (asks : request_of set.head.origin line ≡ Some r) where
  told_now : Told
  told_now = told_after (request_of set.head.origin line) (reply_in m.reply) told

  knows_now : Knows m.holding told_now
  unfolding told_now
  knows_now = record {
    shown = own.shows told.shown knows.shown;
    plans = ap (λ asked. pending_after asked (reply_in m.reply) told.pending) asks ∙ ap (pending_after (Some r) (reply_in m.reply)) knows.plans ∙ sym own.plans;
  }

  module _ (lines : List (List ℕ)) (replies : List Reply) (c : Continues set s m.history final told_now lines replies) where
    -- the exchange, over a history that goes on from the one before the event
    exchange_over : (more : List Entry) → final ≡ h ++ more → HasEntry final s own.front (edit_made told.pending (request_of set.head.origin line)) (reply_in m.reply) → Exchange (of_author set s) final told line (reply_in m.reply)
    unfolding of_author
    exchange_over more grows entry = record {
      front = own.front;
      not_before = omega arith;
      there = rw (grows, length-append h more) (omega (arith, own.there));
      seen = front_spoken set.head.origin (spoken line) r told.shown own.front asks (own.seen told.shown knows.shown);
      is =
          subst (λ k. AnswersLine set k told.pending line (reply_in m.reply)) (sym (ap (take own.front) grows ∙ take-append-le own.front h more own.there))
          (subst (λ p. AnswersLine set (take own.front h) p line (reply_in m.reply)) (sym knows.plans)
          (answer_spoken set (take own.front h) has.pending line (spoken line) r (reply_in m.reply) asks own.is));
      entry = entry;
    }

    own_made : Entered set.limits s h (edit_made has.pending (Some r)) (reply_in m.reply) own.front m.history → Continues set s h final told (line ∷ lines) (reply_in m.reply ∷ replies)
    unfolding told_now of_author
    own_made e =
        let x = next_entry s h e.made in
        let grows : final ≡ h ++ x ∷ c.more = c.grows ∙ ap (λ k. k ++ c.more) e.entries ∙ append_assoc h (x ∷ []) c.more in
        let count : length m.history ≡ suc (length h) = rw (e.entries, length-append h (x ∷ [])) (omega arith) in
        let made : edit_made told.pending (request_of set.head.origin line) ≡ Some e.made = ap (edit_made told.pending) asks ∙ ap (λ p. edit_made p (Some r)) knows.plans ∙ e.is in
        let entry : IsSomeAnd (edit_made told.pending (request_of set.head.origin line)) (IsEntry final s own.front) =
        rw (made, c.grows ∙ ap (λ k. k ++ c.more) e.entries, e.newest) (x, get_longer (h ++ x ∷ []) c.more (length h) x (get_last h x), refl, refl) in
        record {
          more = x ∷ c.more;
          grows = grows;
          legal = c.legal;
          exchanges = (exchange_over (x ∷ c.more) grows (rw e.done entry), c.exchanges);
          each_once =
              ap (λ t. cond t (suc (length h) ∷ fronts_by s (suc (length h)) c.more) (fronts_by s (suc (length h)) c.more)) (same s)
              ∙ ap (λ n. suc (length h) ∷ n) (ap (λ n. fronts_by s n c.more) (sym count) ∙ c.each_once)
              ∙ ap (λ n. n ∷ fronts_told replies) next
              ∙ sym (ap (λ d. front_list d ++ fronts_told replies) e.done);
        }
      where
        same : (n : ℕ) → (n == n) ≡ true
        same n = elim (eqb_tells n n) [ inl t ↦ t.0 | inr t ↦ absurd (t.1 refl) ]

        next : suc (length h) ≡ length h + 1
        next = omega arith

    own_unmade : Unmade h (reply_in m.reply) m.history → Continues set s h final told (line ∷ lines) (reply_in m.reply ∷ replies)
    unfolding told_now of_author
    own_unmade u =
        let grows : final ≡ h ++ c.more = c.grows ∙ ap (λ k. k ++ c.more) u.same in
        record {
          more = c.more;
          grows = grows;
          legal = c.legal;
          exchanges = (exchange_over c.more grows (rw u.none tt), c.exchanges);
          each_once = ap (λ k. fronts_by s (length k) c.more) (sym u.same) ∙ c.each_once ∙ sym (ap (λ d. front_list d ++ fronts_told replies) u.none);
        }

    over_own : Continues set s h final told (line ∷ lines) (reply_in m.reply ∷ replies)
    over_own = elim own.entries [ inl e ↦ own_made e | inr u ↦ own_unmade u ]

-- ---- all events

-- each session holds a front of the history
AllWithin : CoreState → Type 0
AllWithin state = (t : ℕ) → (state.holdings t).front ≤ length state.history

within_after : (set : Setting) (state : CoreState) (event : Event) → AllWithin state → AllWithin (state_after set.limits state event)
unfolding AllWithin
within_after set state event within t =
    let own = own_move set state.history (state.holdings (session_of event)) event (within (session_of event)) in
    let m = move_at set.limits state event in
    by m (session_of event == t) own.within (longer_after set (session_of event) state.history _ _ m own)
  where
    by : (m : Move) (test : Bool) → m.holding.front ≤ length m.history → length state.history ≤ length m.history → (cond test m.holding (state.holdings t)).front ≤ length m.history
    by m true own longer = own
    by m false own longer = let before = within t in omega arith

-- by way of one event, where the replies after it are known to go on
by_event : (set : Setting) (s : ℕ) (event : Event) (state : CoreState) (m : Move) (final : List Entry) (told : Told) (rest : List Reply) (later : List Event)
    → OwnMove set (session_of event) state.history (state.holdings (session_of event)) (request_in event) m → Knows (state.holdings s) told
    → ((now : Told) (ls : List (List ℕ)) → Knows (cond (session_of event == s) m.holding (state.holdings s)) now → AreTexts set.head.origin ls (events_of s later) → Continues set s m.history final now ls rest)
    → (test : Bool) → (session_of event == s) ≡ test → (ls : List (List ℕ)) → AreTexts set.head.origin ls (cond test (event ∷ events_of s later) (events_of s later))
    → Continues set s state.history final told ls (cond test (reply_in m.reply ∷ rest) rest)
unfolding told_now
by_event set s event state m final told rest later own knows goes true is [] texts = absurd texts
by_event set s event state m final told rest later own knows goes true is (line ∷ ls) texts =
    let mine : OwnMove set s state.history (state.holdings s) (request_in event) m = subst (λ t. OwnMove set t state.history (state.holdings t) (request_in event) m) (eqb-true (session_of event) s is) own in
    let now = told_now set s state.history final (state.holdings s) (request_in event) m told mine knows line texts.0 in
    let knows_then : Knows m.holding now = knows_now set s state.history final (state.holdings s) (request_in event) m told mine knows line texts.0 in
    over_own set s state.history final (state.holdings s) (request_in event) m told mine knows line texts.0 ls rest
    (goes now ls (subst (λ t. Knows (cond t m.holding (state.holdings s)) now) (sym is) knows_then) texts.1)
by_event set s event state m final told rest later own knows goes false is ls texts =
    over_other set s (session_of event) state.history final (state.holdings (session_of event)) (request_in event) m told ls rest own is
    (goes told ls (subst (λ t. Knows (cond t m.holding (state.holdings s)) told) (sym is) knows) texts)

goes_on : (set : Setting) (s : ℕ) (events : List Event) (state : CoreState) (told : Told) (lines : List (List ℕ)) → IsLegal set.limits state.history → AllWithin state → Knows (state.holdings s) told → AreTexts set.head.origin lines (events_of s events)
    → Continues set s state.history (core_from set.limits state events).0 told lines (replies_to s events (core_from set.limits state events).1)
unfolding AllWithin
goes_on set s [] state told [] legal within knows texts = record { more = []; grows = sym (append-nil state.history); legal = legal; exchanges = tt; each_once = refl }
goes_on set s [] state told (line ∷ lines) legal within knows texts = absurd texts
goes_on set s (event ∷ later) state told lines legal within knows texts =
    let own = own_move set state.history (state.holdings (session_of event)) event (within (session_of event)) in
    by_event set s event state (move_at set.limits state event) _ told _ later own knows
    (λ now ls knows_then texts_then. goes_on set s later (state_after set.limits state event) now ls (legal_after set (session_of event) state.history _ _ _ own legal) (within_after set state event within) knows_then texts_then)
    (session_of event == s) refl lines texts

-- ---- no line asks to quit

asks_event : (o : Origin) (lines : List (List ℕ)) (events : List Event) → AreTexts o lines events → (k : ℕ) (line : List ℕ) → slice_get lines k ≡ Some line → (event : Event) × (request_of o line ≡ Some (request_in event))
asks_event o [] events texts k line e = cc
asks_event o (l ∷ lines) [] texts k line e = absurd texts
asks_event o (l ∷ lines) (event ∷ events) texts zero line e = let same : l ≡ line = cc in (event, ap (request_of o) (sym same) ∙ texts.0)
asks_event o (l ∷ lines) (event ∷ events) texts (suc k) line e = asks_event o lines events texts.1 k line e

no_event_quits : (event : Event) → asks.Quit ≡ request_in event → ⊥
no_event_quits (events.Hold s) e = cc
no_event_quits (events.Plan s edit) e = cc
no_event_quits (events.Commit s) e = cc
no_event_quits (events.Apply s edit) e = cc
no_event_quits (events.Read s (queries.Level p)) e = cc
no_event_quits (events.Read s (queries.Contour z)) e = cc
no_event_quits (events.Read s (queries.Volume z)) e = cc
no_event_quits (events.Read s queries.Stat) e = cc

never_quits : (o : Origin) (lines : List (List ℕ)) (events : List Event) → AreTexts o lines events → QuitIsLast lines
unfolding request_within
never_quits o lines events texts k line at quits =
    let found = asks_event o lines events texts k line at in
    let same : Some asks.Quit ≡ Some (request_in found.0) = sym (ap (option_and_then (request_within o)) quits) ∙ found.1 in
    let quit : asks.Quit ≡ request_in found.0 = cc in
    absurd (no_event_quits found.0 quit)

-- ---- the law

from_start : (set : Setting) (s : ℕ) (final : List Entry) (lines : List (List ℕ)) (replies : List Reply) → Continues set s [] final told_nothing lines replies → QuitIsLast lines → Transcript (of_author set s) final lines replies
unfolding of_author
from_start set s final lines replies c last = record {
  legal = c.legal;
  exchanges = c.exchanges;
  quit_is_last = last;
  each_once = ap (fronts_by s 0) c.grows ∙ c.each_once;
}

pub transcript_law : TranscriptLaw
unfolding core AllWithin of_author
transcript_law set events s lines texts =
    from_start set s (core_from set.limits first_state events).0 lines (replies_to s events (core_from set.limits first_state events).1)
    (goes_on set s events first_state told_nothing lines (λ k entry e. cc) (λ t. omega arith) (record { shown = tt; plans = refl }) texts)
    (never_quits set.head.origin lines (events_of s events) texts)
