-- How a session over a stream goes on by a byte, and how it stops.
use Rattle.std.proofs.Common.{◌≡◌, ℕ, suc, ◌+◌, ◌<◌, ◌==◌, Bool, true, false, List, [], ◌∷◌, ◌++◌, length, take, drop, get_or, Option, None, Result, Ok, Err, refl, sym, ap, subst, ◌∙◌, append_assoc, arith, map, drop-cons, length-append, inl, inr}
use Rattle.std.proofs.lemmas.List.{append-nil, map-append, take-append-drop, take_more}
use Rattle.std.proofs.lemmas.Bool.Decides.{eqb_tells}
use Rattle.ground_io.specs.Order.{Received, Sent, GoesOnWith, KeepsOrder}
use Rattle.ground_io.proofs.Ordering.{adds_none, goes_on, order_kept}
use Rattle.ground_model.specs.declared.entry.Entry.{Entry}
use Rattle.ground_model.specs.History.{IsLegal}
use Rattle.line_protocol.specs.declared.reply.Reply.{Reply}
use Rattle.ground_io.proofs.Texts.{appends_none, appends_both}
use Rattle.turn_lock.specs.Journal.{IsPrefix, OthersAdded, entries_by}
use Rattle.turn_lock.specs.Setting.{Setting, setting}
use Rattle.turn_lock.specs.declared.journal.Journal.{Journal}
use Rattle.ground_model.specs.Answer.{Pending}
use Rattle.session.specs.Lines.{text_of, ended, unfinished, whole_lines}
use Rattle.session.specs.Order.{AnswersInTime}
use Rattle.session.specs.Texts.{text_at, held_text, texts}
use Rattle.session.specs.Told.{told_nothing}
use Rattle.session.specs.Transcript.{Exchanges, Transcript, QuitIsLast}
use Rattle.session.specs.Talk.{up_to_quit}
use Rattle.session.specs.Talking.{Start, Output, Position, ServesLine, sitting, start_at, Going, Talking, Stops, Answered}
use Rattle.session.specs.declared.conversation.Ended.{Ended}
use Rattle.session.specs.declared.conversation.Ended.TheVariants.{Quit, WriteFault}
use Rattle.session.proofs.Streams.{ended_from-append, ended_same}
use Rattle.session.proofs.Exchanges.{answered, starts_none, visits_exchanges, exchanges_each, exchanges_there, AreThere}
use Rattle.session.proofs.Served.{step_seen, step_setting, step_legal, line_written}
use Rattle.session.proofs.Answering.{received-sends, sent-sends, received-read, sent-read, texts-longer, texts_more, in_time_none, in_time_sent, in_time_read}
use Rattle.session.proofs.Quits.{up_to_quit_at, up_to_quit_front, has_quit_at, no_quit_more, quit_is_last}

pub no_line_end : (b : ℕ) → (b ≡ 10 → ⊥) → (b == 10) ≡ false
no_line_end b other = elim (eqb_tells b 10) [ inl h ↦ absurd (other h.1) | inr h ↦ h.0 ]

lines_at : (seen rest : List ℕ) → whole_lines (seen ++ 10 ∷ rest) ≡ whole_lines seen ++ text_of (unfinished seen) ∷ whole_lines rest
lines_at seen rest = ap (map text_of) (ended_from-append [] seen (10 ∷ rest)) ∙ map-append text_of (ended seen) (unfinished seen ∷ ended rest)

-- a session that went on so far, as its transcript
pub transcript_of : (b : Start) (h : List Entry) (held : ℕ) (pending : Option Pending) (lines : List (List ℕ)) (replies : List Reply) (fronts : List ℕ) → IsLegal b.setting.limits h → Going b h held pending lines replies fronts → QuitIsLast lines → Transcript (sitting b) h lines replies
transcript_of b h held pending lines replies fronts legal going last = record {
  legal = legal;
  exchanges = visits_exchanges (sitting b) h b.front told_nothing lines replies fronts going.visits;
  quit_is_last = last;
  each_once = going.each_once;
}

-- a byte that ends no line
pub byte_goes : (b : Start) (h : List Entry) (held : ℕ) (pending : Option Pending) (output : Output) (fronts got seen : List ℕ) (byte : ℕ) → (byte ≡ 10 → ⊥) → Talking b h held pending output fronts got seen → Talking b h held pending output fronts got (seen ++ byte ∷ [])
byte_goes b h held pending output fronts got seen byte other t =
    let same : whole_lines (seen ++ byte ∷ []) ≡ whole_lines seen = ap (map text_of) (ended_same seen byte (no_line_end byte other)) in
    record {
      replies = t.replies;
      events = t.events;
      legal = t.legal;
      going = rw same t.going;
      written = t.written;
      no_quit = rw same t.no_quit;
      ordered = t.ordered;
      received = t.received;
      sent = t.sent;
      in_time = t.in_time;
    }

-- a piece that was read, where all lines so far are answered
pub piece_goes : (b : Start) (h : List Entry) (held : ℕ) (pending : Option Pending) (old new : Output) (fronts seen piece : List ℕ) → new.written ≡ old.written → GoesOnWith old.order new.order (Received piece ∷ []) → Talking b h held pending old fronts seen seen → Talking b h held pending new fronts (seen ++ piece) seen
piece_goes b h held pending old new fronts seen piece kept read t =
    let exchanges = visits_exchanges (sitting b) h b.front told_nothing (whole_lines seen) t.replies fronts t.going.visits in
    record {
      replies = t.replies;
      events = t.events ++ Received piece ∷ [];
      legal = t.legal;
      going = t.going;
      written = rw kept t.written;
      no_quit = t.no_quit;
      ordered = goes_on b.output.order old.order new.order t.events (Received piece ∷ []) t.ordered read;
      received = received-read t.events piece ∙ ap (λ bytes. bytes ++ piece) t.received;
      sent = sent-read t.events piece ∙ t.sent;
      in_time = in_time_read b.setting h t.events t.replies piece t.in_time (exchanges_each (sitting b) h _ (whole_lines seen) t.replies exchanges ∙ ap (λ bytes. length (whole_lines bytes)) (sym t.received)) t.sent;
    }

module _ (b : Start) (change : Position × Position) (same : setting change.0.seen ≡ b.setting) (holds : IsPrefix change.0.held change.0.seen) (outputs : Output × Output) (fronts got seen : List ℕ)
    (t : Talking b change.0.seen.entries (length change.0.held.entries) change.0.pending outputs.0 fronts got seen) where
  line : List ℕ
  line = text_of (unfinished seen)

  so_far : Exchanges (sitting b) change.0.seen.entries told_nothing (whole_lines seen) t.replies
  so_far = visits_exchanges (sitting b) change.0.seen.entries b.front told_nothing (whole_lines seen) t.replies fronts t.going.visits

  -- what came to the history with the line, after which all texts so far are the same
  module _ (reply : Reply) (own : List ℕ) (serves : ServesLine b.author change (text_of (unfinished seen)) reply own) where
    longer : IsPrefix change.0.seen change.1.seen
    longer = step_seen b.author change _ reply own _ serves

    went_on : change.1.seen.entries ≡ change.0.seen.entries ++ longer.0
    unfolding longer
    went_on = ap (λ (j : Journal). j.entries) longer.1

    set_now : setting change.1.seen ≡ b.setting
    set_now = step_setting b.author change _ reply own _ serves ∙ same

    legal_now : IsLegal b.setting.limits change.1.seen.entries
    legal_now =
        let legal = step_legal b.author change _ reply own _ (subst (λ (set : Setting). IsLegal set.limits change.0.seen.entries) (sym same) t.legal) serves in
        subst (λ (set : Setting). IsLegal set.limits change.1.seen.entries) set_now legal

    there_now : AreThere change.0.seen.entries t.replies
    unfolding so_far
    there_now = exchanges_there (sitting b) change.0.seen.entries told_nothing (whole_lines seen) t.replies so_far

    -- the text of the line's reply, and of all replies with it
    text_now : held_text change.1.held reply ≡ text_at b.setting change.1.seen.entries reply
    text_now = line_written b.author change (text_of (unfinished seen)) reply own holds serves ∙ ap (λ set. text_at set change.1.seen.entries reply) set_now

    texts_now : texts b.setting change.0.seen.entries t.replies ≡ texts b.setting change.1.seen.entries t.replies
    unfolding longer went_on there_now
    texts_now = sym (texts-longer b.setting change.0.seen.entries longer.0 t.replies there_now) ∙ ap (λ h. texts b.setting h t.replies) (sym went_on)

    all_now : texts b.setting change.1.seen.entries (t.replies ++ reply ∷ []) ≡ texts b.setting change.0.seen.entries t.replies ++ held_text change.1.held reply
    all_now = texts_more b.setting change.1.seen.entries t.replies reply ∙ (λ i. sym texts_now i ++ sym text_now i)

    in_time_now : (pieces : List (List ℕ)) → AnswersInTime b.setting change.1.seen.entries (t.events ++ map Sent pieces) (t.replies ++ reply ∷ [])
    unfolding longer went_on there_now
    in_time_now pieces =
        subst (λ h. AnswersInTime b.setting h (t.events ++ map Sent pieces) (t.replies ++ reply ∷ [])) (sym went_on)
        (in_time_sent b.setting change.0.seen.entries longer.0 t.events t.replies pieces reply there_now t.in_time)

    going_now : Going b change.1.seen.entries (length change.1.held.entries) change.1.pending (whole_lines seen ++ text_of (unfinished seen) ∷ []) (t.replies ++ reply ∷ []) (fronts ++ own)
    going_now = answered b change (whole_lines seen) t.replies fronts (text_of (unfinished seen)) reply own t.going same holds serves

  -- a line end, and the line's reply
  pub line_goes : {E : Type 0} (own : List ℕ) → Answered {E = E} b.author change (text_of (unfinished seen)) outputs own (Ok false) → Talking b change.1.seen.entries (length change.1.held.entries) change.1.pending outputs.1 (fronts ++ own) got (seen ++ 10 ∷ [])
  unfolding line
  line_goes {E} own a =
      let lines : whole_lines (seen ++ 10 ∷ []) ≡ whole_lines seen ++ line ∷ [] = lines_at seen [] in
      let put = a.told.1 in
      record {
        replies = t.replies ++ a.reply ∷ [];
        events = t.events ++ map Sent put.sent.0;
        legal = legal_now a.reply own a.serves;
        going = rw lines (going_now a.reply own a.serves);
        written = rw (all_now a.reply own a.serves) (appends_both b.output.written outputs.0.written outputs.1.written (texts b.setting change.0.seen.entries t.replies) (held_text change.1.held a.reply) t.written put.appended);
        no_quit = rw lines (no_quit_more (whole_lines seen) line t.no_quit (sym a.told.0));
        ordered = goes_on b.output.order outputs.0.order outputs.1.order t.events (map Sent put.sent.0) t.ordered put.sent.1;
        received = received-sends t.events put.sent.0 ∙ t.received;
        sent = sent-sends t.events put.sent.0 (held_text change.1.held a.reply) put.sent.2 ∙ ap (λ bytes. bytes ++ held_text change.1.held a.reply) t.sent ∙ sym (all_now a.reply own a.serves);
        in_time = in_time_now a.reply own a.serves put.sent.0;
      }

  -- a line that asks to quit
  pub line_quits : {E : Type 0} (own rest : List ℕ) → got ≡ seen ++ 10 ∷ rest → Answered {E = E} b.author change (text_of (unfinished seen)) outputs own (Ok true) → Stops b change.1.seen.entries outputs.1 (fronts ++ own) (seen ++ 10 ∷ rest) Quit
  unfolding line
  line_quits {E} own rest all a =
      let going = going_now a.reply own a.serves in
      let put = a.told.1 in
      record {
        lines = whole_lines seen ++ line ∷ [];
        replies = t.replies ++ a.reply ∷ [];
        events = t.events ++ map Sent put.sent.0;
        taken = sym (ap up_to_quit (lines_at seen rest) ∙ up_to_quit_at (whole_lines seen) line (whole_lines rest) t.no_quit (sym a.told.0));
        transcript = transcript_of b change.1.seen.entries (length change.1.held.entries) change.1.pending _ _ (fronts ++ own) (legal_now a.reply own a.serves) going (quit_is_last (whole_lines seen) line t.no_quit);
        turns = going.visits;
        begins = going.begins;
        written = rw (all_now a.reply own a.serves) (appends_both b.output.written outputs.0.written outputs.1.written (texts b.setting change.0.seen.entries t.replies) (held_text change.1.held a.reply) t.written put.appended);
        ordered = goes_on b.output.order outputs.0.order outputs.1.order t.events (map Sent put.sent.0) t.ordered put.sent.1;
        received = received-sends t.events put.sent.0 ∙ t.received ∙ all;
        in_time = in_time_now a.reply own a.serves put.sent.0;
        ending = rw (lines_at seen rest) (has_quit_at (whole_lines seen) line (whole_lines rest) (sym a.told.0));
      }

  -- a line whose reply could not be written
  pub line_fails : {E : Type 0} (own rest : List ℕ) (e : E) → got ≡ seen ++ 10 ∷ rest → Answered {E = E} b.author change (text_of (unfinished seen)) outputs own (Err e) → Stops b change.1.seen.entries outputs.1 (fronts ++ own) (seen ++ 10 ∷ rest) WriteFault
  unfolding line
  line_fails {E} own rest e all a =
      let going = going_now a.reply own a.serves in
      let some = a.told.appended in
      let put = a.told.sent.2 in
      record {
        lines = whole_lines seen ++ line ∷ [];
        replies = t.replies ++ a.reply ∷ [];
        events = t.events ++ map Sent put.0;
        taken = (suc (length (whole_lines seen)), rw (lines_at seen rest) (up_to_quit_front (whole_lines seen) line (whole_lines rest) t.no_quit));
        transcript = transcript_of b change.1.seen.entries (length change.1.held.entries) change.1.pending _ _ (fronts ++ own) (legal_now a.reply own a.serves) going (quit_is_last (whole_lines seen) line t.no_quit);
        turns = going.visits;
        begins = going.begins;
        written = record {
          earlier = t.replies;
          last = a.reply;
          are = refl;
          count = some.0;
          within = rw (← text_now a.reply own a.serves) some.1;
          appended = rw (← texts_now a.reply own a.serves, ← text_now a.reply own a.serves) (appends_both b.output.written outputs.0.written outputs.1.written (texts b.setting change.0.seen.entries t.replies) (take some.0 (held_text change.1.held a.reply)) t.written some.2);
        };
        ordered = goes_on b.output.order outputs.0.order outputs.1.order t.events (map Sent put.0) t.ordered put.1;
        received = received-sends t.events put.0 ∙ t.received ∙ all;
        in_time = in_time_now a.reply own a.serves put.0;
        ending = tt;
      }

-- ---- bytes of a piece

pub split_here : (xs ys : List ℕ) (i b : ℕ) → i < length ys → get_or ys i 0 ≡ b → xs ++ ys ≡ (xs ++ take i ys) ++ b ∷ drop (suc i) ys
split_here xs ys i b within is =
    ap (λ zs. xs ++ zs) (sym (take-append-drop i ys) ∙ ap (λ zs. take i ys ++ zs) (drop-cons ys i 0 within ∙ ap (λ n. n ∷ drop (suc i) ys) is)) ∙ sym (append_assoc xs (take i ys) (b ∷ drop (suc i) ys))

pub take_here : (xs ys : List ℕ) (i b : ℕ) → i < length ys → get_or ys i 0 ≡ b → xs ++ take (i + 1) ys ≡ (xs ++ take i ys) ++ b ∷ []
take_here xs ys i b within is =
    ap (λ zs. xs ++ zs) (take_more ys i 0 within ∙ ap (λ n. take i ys ++ n ∷ []) is) ∙ sym (append_assoc xs (take i ys) (b ∷ []))

-- ---- along equations

pub answered_at : {E : Type 0} (author : ℕ) (change : Position × Position) (line' line : List ℕ) (outputs : Output × Output) (own : List ℕ) (r' r : Result Bool E) → line' ≡ line → r' ≡ r → Answered {E = E} author change line' outputs own r' → Answered {E = E} author change line outputs own r
answered_at {E} author change line' line outputs own r' r el er a =
    subst (λ (q : Result Bool E). Answered {E = E} author change line outputs own q) er (subst (λ (l : List ℕ). Answered {E = E} author change l outputs own r') el a)

pub in_setting : (set' : Setting) (b : Start) (h : List Entry) (held : ℕ) (pending : Option Pending) (output : Output) (fronts got seen : List ℕ) → set' ≡ b.setting → Talking (record b { setting = set' }) h held pending output fronts got seen → Talking b h held pending output fronts got seen
in_setting set' b h held pending output fronts got seen e t = subst (λ (set : Setting). Talking (record b { setting = set }) h held pending output fronts got seen) e t

pub stops_in : (set' : Setting) (b : Start) (h : List Entry) (output : Output) (fronts read : List ℕ) (end : Ended) → set' ≡ b.setting → Stops (record b { setting = set' }) h output fronts read end → Stops b h output fronts read end
stops_in set' b h output fronts read end e s = subst (λ (set : Setting). Stops (record b { setting = set }) h output fronts read end) e s

-- a read that failed
pub fault_goes : (b : Start) (h : List Entry) (held : ℕ) (pending : Option Pending) (old new : Output) (fronts seen : List ℕ) → new.written ≡ old.written → KeepsOrder old.order new.order → Talking b h held pending old fronts seen seen → Talking b h held pending new fronts seen seen
fault_goes b h held pending old new fronts seen kept order t = record {
  replies = t.replies;
  events = t.events;
  legal = t.legal;
  going = t.going;
  written = rw kept t.written;
  no_quit = t.no_quit;
  ordered = order_kept b.output.order old.order new.order t.events t.ordered order;
  received = t.received;
  sent = t.sent;
  in_time = t.in_time;
}

-- a read that gave no byte
pub end_goes : (b : Start) (h : List Entry) (held : ℕ) (pending : Option Pending) (old new : Output) (fronts seen piece : List ℕ) → piece ≡ [] → new.written ≡ old.written → GoesOnWith old.order new.order (Received piece ∷ []) → Talking b h held pending old fronts seen seen → Talking b h held pending new fronts seen seen
end_goes b h held pending old new fronts seen piece none kept read t = subst (λ (got : List ℕ). Talking b h held pending new fronts got seen) (ap (λ more. seen ++ more) none ∙ append-nil seen) (piece_goes b h held pending old new fronts seen piece kept read t)

-- a session that holds the first version, and was not asked anything yet: others may have gone on with the history before
pub talking_starts : (b : Start) (more : List Entry) → IsLegal b.setting.limits (b.first ++ more) → entries_by b.author (b.first ++ more) ≡ entries_by b.author b.first → b.front ≡ length (b.first ++ more) → Talking b (b.first ++ more) b.front None b.output [] [] []
talking_starts b more legal others newest =
    let h = b.first ++ more in
    record {
      replies = [];
      events = [];
      legal = legal;
      going = record {
        visits = refl;
        each_once = starts_none b.author b.first more others;
        shown = refl;
        from = omega (arith, newest, length-append b.first more);
        within = omega (arith, newest);
        plans = refl;
        begins = (more, refl);
      };
      written = appends_none b.output.written;
      no_quit = refl;
      ordered = adds_none b.output.order;
      received = refl;
      sent = refl;
      in_time = in_time_none b.setting h [];
    }

pub starts_after : (author : ℕ) (j first : Journal) (output : Output) → IsLegal j.limits j.entries → OthersAdded (author ∷ []) first j → Talking (start_at author j first.entries (length j.entries) output) j.entries (length j.entries) None output [] [] []
starts_after author j first output legal added =
    let more = added.prefix.0 in
    let longer : j.entries ≡ first.entries ++ more = ap (λ (k : Journal). k.entries) added.prefix.1 in
    subst (λ (h : List Entry). Talking (record { setting = setting j; author = author; first = first.entries; front = length h; output = output }) h (length h) None output [] [] []) (sym longer)
    (talking_starts (record { setting = setting j; author = author; first = first.entries; front = length (first.entries ++ more); output = output }) more
    (subst (λ (h : List Entry). IsLegal j.limits h) longer legal) (ap (entries_by author) (sym longer) ∙ added.own author (0, omega arith, refl)) refl)
