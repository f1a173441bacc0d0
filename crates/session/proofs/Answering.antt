-- The reads and writes of a session, and that it answers before it reads on.
use Rattle.std.proofs.Common.{◌≡◌, ℕ, ◌≤◌, ◌⊎◌, inl, inr, ⊎_elim, List, [], ◌∷◌, ◌++◌, length, Option, None, Some, IfSome, refl, sym, ap, subst, ◌∙◌, append_assoc, arith, map}
use Rattle.std.proofs.lemmas.List.{append-nil, take-append-le, take_all}
use Rattle.std.specs.List.{concat}
use Rattle.ground_io.specs.Order.{Event, Received, Sent}
use Rattle.ground_model.specs.declared.entry.Entry.{Entry}
use Rattle.ground_model.specs.History.{content_of}
use Rattle.landxml_write.specs.Text.{document}
use Rattle.line_protocol.specs.declared.reply.Reply.{Reply}
use Rattle.line_protocol.specs.Replies.{reply_text}
use Rattle.store.specs.Shown.{shown_of, shown_by}
use Rattle.turn_lock.specs.Setting.{Setting, setting}
use Rattle.turn_lock.specs.declared.journal.Journal.{Journal}
use Rattle.session.specs.Lines.{whole_lines}
use Rattle.session.specs.Order.{received, sent, IsAnswered, AnswersInTime}
use Rattle.session.specs.Texts.{document_at, document_of, text_at, held_text, texts}
use Rattle.session.specs.Told.{export_front}
use Rattle.session.proofs.Exchanges.{IsThere, AreThere}

-- ---- what was received and sent

received-append : (es fs : List Event) → received (es ++ fs) ≡ received es ++ received fs
received-append [] fs = refl
received-append (Received bytes ∷ es) fs = ap (λ more. bytes ++ more) (received-append es fs) ∙ sym (append_assoc bytes (received es) (received fs))
received-append (Sent bytes ∷ es) fs = received-append es fs

sent-append : (es fs : List Event) → sent (es ++ fs) ≡ sent es ++ sent fs
sent-append [] fs = refl
sent-append (Received bytes ∷ es) fs = sent-append es fs
sent-append (Sent bytes ∷ es) fs = ap (λ more. bytes ++ more) (sent-append es fs) ∙ sym (append_assoc bytes (sent es) (sent fs))

received-writes : (pieces : List (List ℕ)) → received (map Sent pieces) ≡ []
received-writes [] = refl
received-writes (piece ∷ pieces) = received-writes pieces

sent-writes : (pieces : List (List ℕ)) → sent (map Sent pieces) ≡ concat pieces
sent-writes [] = refl
sent-writes (piece ∷ pieces) = ap (λ more. piece ++ more) (sent-writes pieces)

-- writes receive nothing
pub received-sends : (es : List Event) (pieces : List (List ℕ)) → received (es ++ map Sent pieces) ≡ received es
received-sends es pieces = received-append es (map Sent pieces) ∙ ap (λ more. received es ++ more) (received-writes pieces) ∙ append-nil (received es)

pub sent-sends : (es : List Event) (pieces : List (List ℕ)) (text : List ℕ) → concat pieces ≡ text → sent (es ++ map Sent pieces) ≡ sent es ++ text
sent-sends es pieces text is = sent-append es (map Sent pieces) ∙ ap (λ more. sent es ++ more) (sent-writes pieces ∙ is)

pub received-read : (es : List Event) (bytes : List ℕ) → received (es ++ Received bytes ∷ []) ≡ received es ++ bytes
received-read es bytes = received-append es (Received bytes ∷ []) ∙ ap (λ more. received es ++ more) (append-nil bytes)

pub sent-read : (es : List Event) (bytes : List ℕ) → sent (es ++ Received bytes ∷ []) ≡ sent es
sent-read es bytes = sent-append es (Received bytes ∷ []) ∙ append-nil (sent es)

-- ---- texts

document-longer : (set : Setting) (h more : List Entry) (front : Option ℕ) → IfSome front (λ f. f ≤ length h) → document_of (document_at set.head (h ++ more)) front ≡ document_of (document_at set.head h) front
document-longer set h more None there = refl
document-longer set h more (Some f) there = ap (λ xs. document (shown_of set.head (content_of xs))) (take-append-le f h more there)

-- the texts of the replies so far stay the same where the history goes on
pub text_at-longer : (set : Setting) (h more : List Entry) (reply : Reply) → IsThere h reply → text_at set (h ++ more) reply ≡ text_at set h reply
unfolding text_at
text_at-longer set h more reply there = ap (λ text. reply_text set.head.origin reply ++ text) (document-longer set h more (export_front reply) there)

pub texts-longer : (set : Setting) (h more : List Entry) (replies : List Reply) → AreThere h replies → texts set (h ++ more) replies ≡ texts set h replies
texts-longer set h more [] there = refl
texts-longer set h more (reply ∷ replies) there = (λ i. text_at-longer set h more reply there.0 i ++ texts-longer set h more replies there.1 i)

there-front : (h : List Entry) (replies later : List Reply) → AreThere h (replies ++ later) → AreThere h replies
there-front h [] later there = tt
there-front h (reply ∷ replies) later there = (there.0, there-front h replies later there.1)

-- ---- the text of a reply by a session that holds a version

document-held : (j : Journal) (front : Option ℕ) → IfSome front (λ f. f ≡ length j.entries) → document_of (λ _. document (shown_by j)) front ≡ document_of (document_at j.head j.entries) front
document-held j None here = refl
document-held j (Some f) here = ap (λ xs. document (shown_of j.head (content_of xs))) (sym (take_all f j.entries (omega (arith, here))))

pub held-text : (j : Journal) (reply : Reply) → IfSome (export_front reply) (λ f. f ≡ length j.entries) → held_text j reply ≡ text_at (setting j) j.entries reply
unfolding held_text text_at
held-text j reply here = ap (λ text. reply_text j.head.origin reply ++ text) (document-held j (export_front reply) here)

pub no-export : (set : Setting) (h : List Entry) (j : Journal) (reply : Reply) → setting j ≡ set → export_front reply ≡ None → held_text j reply ≡ text_at set h reply
unfolding held_text text_at
no-export set h j reply same none = rw none (ap (λ (set : Setting). reply_text set.head.origin reply ++ []) same)

pub texts_more : (set : Setting) (h : List Entry) (replies : List Reply) (reply : Reply) → texts set h (replies ++ reply ∷ []) ≡ texts set h replies ++ text_at set h reply
texts_more set h [] reply = append-nil (text_at set h reply)
texts_more set h (r ∷ replies) reply = rw (texts_more set h replies reply) (sym (append_assoc (text_at set h r) (texts set h replies) (text_at set h reply)))

-- ---- in time

head_of : {X : Type 0} (x y : X) (xs ys : List X) → x ∷ xs ≡ y ∷ ys → x ≡ y
head_of x y xs ys e = cc

tail_of : {X : Type 0} (x y : X) (xs ys : List X) → x ∷ xs ≡ y ∷ ys → xs ≡ ys
tail_of x y xs ys e = cc

no_element : {X : Type 0} (before after : List X) (x : X) → [] ≡ before ++ x ∷ after → ⊥
no_element [] after x e = cc
no_element (y ∷ before) after x e = cc

no_read : (pieces : List (List ℕ)) (before after : List Event) (bytes : List ℕ) → map Sent pieces ≡ before ++ Received bytes ∷ after → ⊥
no_read [] before after bytes e = no_element before after (Received bytes) e
no_read (piece ∷ pieces) [] after bytes e = cc
no_read (piece ∷ pieces) (y ∷ before) after bytes e = no_read pieces before after bytes (tail_of (Sent piece) y (map Sent pieces) (before ++ Received bytes ∷ after) e)

-- a read among some events and writes after them is among the events
read_before : (es : List Event) (pieces : List (List ℕ)) (before after : List Event) (bytes : List ℕ) → es ++ map Sent pieces ≡ before ++ Received bytes ∷ after → (others : List Event) × (es ≡ before ++ Received bytes ∷ others)
read_before [] pieces before after bytes e = absurd (no_read pieces before after bytes e)
read_before (x ∷ es) pieces [] after bytes e = (es, ap (λ y. y ∷ es) (head_of x (Received bytes) (es ++ map Sent pieces) after e))
read_before (x ∷ es) pieces (y ∷ before) after bytes e =
    let found = read_before es pieces before after bytes (tail_of x y (es ++ map Sent pieces) (before ++ Received bytes ∷ after) e) in
    (found.0, (λ i. head_of x y (es ++ map Sent pieces) (before ++ Received bytes ∷ after) e i ∷ found.1 i))

-- a read among some events and one read more is among the events, or is the last
read_or_last : (es : List Event) (last : Event) (before after : List Event) (bytes : List ℕ) → es ++ last ∷ [] ≡ before ++ Received bytes ∷ after → ((others : List Event) × (es ≡ before ++ Received bytes ∷ others)) ⊎ (before ≡ es)
read_or_last [] last [] after bytes e = inr refl
read_or_last [] last (y ∷ before) after bytes e = absurd (no_element before after (Received bytes) (tail_of last y [] (before ++ Received bytes ∷ after) e))
read_or_last (x ∷ es) last [] after bytes e = inl (es, ap (λ y. y ∷ es) (head_of x (Received bytes) (es ++ last ∷ []) after e))
read_or_last (x ∷ es) last (y ∷ before) after bytes e =
    let same = head_of x y (es ++ last ∷ []) (before ++ Received bytes ∷ after) e in
    ⊎_elim
    (λ found. inl (found.0, (λ i. same i ∷ found.1 i)))
    (λ is. inr (λ i. sym same i ∷ is i))
    (read_or_last es last before after bytes (tail_of x y (es ++ last ∷ []) (before ++ Received bytes ∷ after) e))

pub in_time_none : (set : Setting) (h : List Entry) (replies : List Reply) → AnswersInTime set h [] replies
in_time_none set h replies before after bytes e = absurd (no_element before after (Received bytes) e)

-- a reply more, which was written in one or several pieces
pub in_time_sent : (set : Setting) (h more : List Entry) (es : List Event) (replies : List Reply) (pieces : List (List ℕ)) (reply : Reply) → AreThere h replies → AnswersInTime set h es replies → AnswersInTime set (h ++ more) (es ++ map Sent pieces) (replies ++ reply ∷ [])
in_time_sent set h more es replies pieces reply there t before after bytes e =
    let found = read_before es pieces before after bytes e in
    let a = t before found.0 bytes found.1 in
    record {
      answered = a.answered;
      later = a.later ++ reply ∷ [];
      are = ap (λ rs. rs ++ reply ∷ []) a.are ∙ append_assoc a.answered a.later (reply ∷ []);
      each = a.each;
      written = a.written ∙ sym (texts-longer set h more a.answered (there-front h a.answered a.later (subst (AreThere h) a.are there)));
    }

-- a read, where all whole lines are answered
pub in_time_read : (set : Setting) (h : List Entry) (es : List Event) (replies : List Reply) (last : List ℕ) → AnswersInTime set h es replies → length replies ≡ length (whole_lines (received es)) → sent es ≡ texts set h replies → AnswersInTime set h (es ++ Received last ∷ []) replies
in_time_read set h es replies last t each written before after bytes e =
    ⊎_elim
    (λ found. t before found.0 bytes found.1)
    (λ is. subst (λ (events : List Event). IsAnswered set h events replies) (sym is) (record {
      answered = replies;
      later = [];
      are = sym (append-nil replies);
      each = each;
      written = written;
    }))
    (read_or_last es (Received last) before after bytes e)
