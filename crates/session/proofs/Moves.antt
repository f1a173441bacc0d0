-- What an event of a run comes to, in the words of its session's transcript.
use Rattle.std.proofs.Common.{◌≡◌, ℕ, ◌+◌, ◌≤◌, ◌⊎◌, inl, inr, List, [], ◌∷◌, ◌++◌, length, take, Option, None, Some, IfSome, refl, sym, ap, subst, ◌∙◌, arith, length-append}
use Rattle.std.specs.FinMap as finmap
use Rattle.std.proofs.lemmas.List.{take_all, length-take-le}
use Rattle.ground_model.specs.declared.edit.Edit.{Edit}
use Rattle.ground_model.specs.declared.entry.Entry.{Entry}
use Rattle.ground_model.specs.declared.limits.Limits.{Limits}
use Rattle.ground_model.specs.declared.mark.Mark.{Mark}
use Rattle.ground_model.specs.declared.refusal.Refusal.{Refusal}
use Rattle.ground_model.specs.Answer as answers
use Rattle.ground_model.specs.Answer.{Answer, Pending, answer, conflict, by_conflict, next_entry}
use Rattle.ground_model.specs.History.{content_of}
use Rattle.ground_model.specs.Contour.{contour_at}
use Rattle.ground_model.specs.Level.{level_at}
use Rattle.ground_model.specs.Refusal.{refusal}
use Rattle.ground_model.specs.Slope.{relief}
use Rattle.ground_model.specs.Volume.{volume_over}
use Rattle.ground_model.specs.Zone.{zone}
use Rattle.line_protocol.specs.declared.reply.Reply.{Reply}
use Rattle.line_protocol.specs.declared.reply.Reply.TheVariants as replies
use Rattle.line_protocol.specs.declared.request.Request.{Request}
use Rattle.line_protocol.specs.declared.request.Request.TheVariants as asks
use Rattle.store.specs.declared.event.Event.{Event}
use Rattle.store.specs.declared.event.Event.TheVariants.{Hold, Plan, Commit, Apply, Read}
use Rattle.store.specs.declared.event.Query.{Query}
use Rattle.store.specs.declared.event.Query.TheVariants as queries
use Rattle.store.specs.Core.{Holding, Move, session_of, reply_of, history_after, answered, held, planned, committed, applied, read, move}
use Rattle.turn_lock.specs.Setting.{Setting}
use Rattle.session.specs.Told.{front_of, done_front, shown_after, pending_after, edit_made}
use Rattle.session.specs.Table.{to_edit, to_plan, to_commit, IsReply}
use Rattle.session.specs.Transcript.{Reading, Shown, Turned, Free, IsFrontBy}
use Rattle.session.specs.Runs.{request_in, request_to_read, reply_in}

-- how each request takes its front
abbrev pub turning : Request → Reading
turning asks.Sync = Turned
turning asks.Commit = Turned
turning (asks.Apply edit) = Turned
turning asks.Quit = Free
turning (asks.Plan edit) = Shown
turning (asks.Level p) = Shown
turning (asks.Contour z) = Shown
turning (asks.Volume z) = Shown
turning asks.Stat = Shown
turning asks.Export = Shown

-- an edit was made at the newest front
pub record Entered (limits : Limits) (author : ℕ) (h : List Entry) (edit : Option Edit) (reply : Reply) (front : ℕ) (now : List Entry) : Type 0 where
  pub made : Edit
  pub is : edit ≡ Some made
  pub lawful : refusal (content_of h) (length h) limits made ≡ None
  pub entries : now ≡ h ++ next_entry author h made ∷ []
  pub done : done_front reply ≡ Some (length h + 1)
  pub newest : front ≡ length h

-- no edit was made
pub record Unmade (h : List Entry) (reply : Reply) (now : List Entry) : Type 0 where
  pub same : now ≡ h
  pub none : done_front reply ≡ None

-- a request of a session that has this, its move, and the front that the reply speaks of
pub record OwnMove (set : Setting) (author : ℕ) (h : List Entry) (has : Holding) (request : Request) (m : Move) : Type 0 where
  pub front : ℕ
  pub there : front ≤ length h
  pub seen : (shown : Option ℕ) → IfSome shown (λ f. f ≡ has.front) → IsFrontBy (turning request) shown front
  pub is : IsReply set (take front h) has.pending request (reply_in m.reply)
  pub entries : Entered set.limits author h (edit_made has.pending (Some request)) (reply_in m.reply) front m.history ⊎ Unmade h (reply_in m.reply) m.history
  pub shows : (shown : Option ℕ) → IfSome shown (λ f. f ≡ has.front) → IfSome (shown_after shown (front_of (reply_in m.reply))) (λ f. f ≡ m.holding.front)
  pub plans : m.holding.pending ≡ pending_after (Some request) (reply_in m.reply) has.pending
  pub within : m.holding.front ≤ length m.history

-- ---- fronts

at_shown : (f : ℕ) (shown : Option ℕ) → IfSome shown (λ g. g ≡ f) → IfSome shown (λ g. f ≡ g)
at_shown f None e = tt
at_shown f (Some g) e = sym e

at_turn : (f n : ℕ) → f ≤ n → (shown : Option ℕ) → IfSome shown (λ g. g ≡ f) → IfSome shown (λ g. g ≤ n)
at_turn f n within None e = tt
at_turn f n within (Some g) e = omega (arith, e)

printed : (found : Option ℕ) (f : ℕ) → found ≡ Some f → (shown : Option ℕ) → IfSome (shown_after shown found) (λ g. g ≡ f)
printed found f e shown = rw e refl

whole : (h : List Entry) → take (length h) h ≡ h
whole h = take_all (length h) h (omega arith)

-- ---- an edit that is answered

same_reply : (a : Answer) → reply_in (reply_of a) ≡ to_edit a
same_reply (answers.Conflict front mark) = refl
same_reply (answers.Refused front cause) = refl
same_reply (answers.Done front line) = refl

-- the reply to an edit, and the history after it
edit_reply : List Entry → Edit → Option Mark → Option Refusal → Reply
edit_reply h edit found cause = reply_in (reply_of (by_conflict h edit found cause))

edit_history : ℕ → List Entry → Edit → Option Mark → Option Refusal → List Entry
edit_history author h edit found cause = history_after author h edit (by_conflict h edit found cause)

edit_entered : (limits : Limits) (author : ℕ) (h : List Entry) (made : Option Edit) (edit : Edit) → made ≡ Some edit → (found : Option Mark) (cause : Option Refusal) → refusal (content_of h) (length h) limits edit ≡ cause
    → Entered limits author h made (edit_reply h edit found cause) (length h) (edit_history author h edit found cause) ⊎ Unmade h (edit_reply h edit found cause) (edit_history author h edit found cause)
unfolding edit_reply edit_history
edit_entered limits author h made edit is (Some mark) cause lawful = inr (record { same = refl; none = refl })
edit_entered limits author h made edit is None (Some cause) lawful = inr (record { same = refl; none = refl })
edit_entered limits author h made edit is None None lawful = inl (record { made = edit; is = is; lawful = lawful; entries = refl; done = refl; newest = refl })

edit_front : (author : ℕ) (h : List Entry) (edit : Edit) (found : Option Mark) (cause : Option Refusal) → front_of (edit_reply h edit found cause) ≡ Some (length (edit_history author h edit found cause))
unfolding edit_reply edit_history
edit_front author h edit (Some mark) cause = refl
edit_front author h edit None (Some cause) = refl
edit_front author h edit None None = ap Some (sym (length-append h (next_entry author h edit ∷ [])))

no_plan_after : (h : List Entry) (edit : Edit) (pending : Option Pending) (found : Option Mark) (cause : Option Refusal) → None ≡ pending_after (Some asks.Commit) (edit_reply h edit found cause) pending
unfolding edit_reply
no_plan_after h edit pending (Some mark) cause = refl
no_plan_after h edit pending None (Some cause) = refl
no_plan_after h edit pending None None = refl

module _ (set : Setting) (author : ℕ) (h : List Entry) (has : Holding) (within : has.front ≤ length h) where
  edit_move : (request : Request) (pending : Option Pending) (edit : Edit) (found : Option Mark) (cause : Option Refusal) → turning request ≡ Turned → edit_made has.pending (Some request) ≡ Some edit
      → refusal (content_of h) (length h) set.limits edit ≡ cause → IsReply set (take (length h) h) has.pending request (edit_reply h edit found cause)
      → pending ≡ pending_after (Some request) (edit_reply h edit found cause) has.pending
      → OwnMove set author h has request (answered author h pending edit (by_conflict h edit found cause))
  unfolding edit_reply edit_history
  edit_move request pending edit found cause turned made lawful is plans = record {
    front = length h;
    there = omega arith;
    seen = λ shown e. subst (λ r. IsFrontBy r shown (length h)) (sym turned) (at_turn has.front (length h) within shown e);
    is = is;
    entries = edit_entered set.limits author h (edit_made has.pending (Some request)) edit made found cause lawful;
    shows = λ shown e. printed _ _ (edit_front author h edit found cause) shown;
    plans = plans;
    within = omega arith;
  }

  commit_move : (p : Option Pending) → has.pending ≡ p → OwnMove set author h has asks.Commit (committed set.limits author h has p)
  unfolding answer edit_reply
  commit_move None none = record {
    front = length h;
    there = omega arith;
    seen = λ shown e. at_turn has.front (length h) within shown e;
    is = sym (ap (to_commit set (take (length h) h)) none);
    entries = inr (record { same = refl; none = refl });
    shows = λ shown e. e;
    plans = none;
    within = within;
  }
  commit_move (Some plan) some =
      edit_move asks.Commit None plan.edit (conflict h plan.base plan.edit) (refusal (content_of h) (length h) set.limits plan.edit) refl (ap (λ p. edit_made p (Some asks.Commit)) some) refl
      (same_reply _ ∙ ap (λ k. to_edit (answer set.limits k plan.base plan.edit)) (sym (whole h)) ∙ ap (to_commit set (take (length h) h)) (sym some))
      (no_plan_after h plan.edit has.pending _ _)

  apply_move : (edit : Edit) → OwnMove set author h has (asks.Apply edit) (applied set.limits author h has edit)
  unfolding answer edit_reply
  apply_move edit =
      edit_move (asks.Apply edit) has.pending edit (conflict h (length h) edit) (refusal (content_of h) (length h) set.limits edit) refl refl refl
      (same_reply _ ∙ ap (λ k. to_edit (answer set.limits k (length k) edit)) (sym (whole h))) refl

  -- ---- what is answered at the held front

  held_length : length (take has.front h) ≡ has.front
  held_length = length-take-le has.front h within

  plan_move : (edit : Edit) (cause : Option Refusal) → refusal (content_of (take has.front h)) has.front set.limits edit ≡ cause → OwnMove set author h has (asks.Plan edit) (planned h has edit cause)
  plan_move edit (Some cause) is = record {
    front = has.front;
    there = within;
    seen = λ shown e. at_shown has.front shown e;
    is = ap (λ n. replies.Refused n cause) (sym held_length) ∙ sym (ap (to_plan (take has.front h) edit) (ap (λ n. refusal (content_of (take has.front h)) n set.limits edit) held_length ∙ is));
    entries = inr (record { same = refl; none = refl });
    shows = λ shown e. refl;
    plans = refl;
    within = within;
  }
  plan_move edit None is = record {
    front = has.front;
    there = within;
    seen = λ shown e. at_shown has.front shown e;
    is = ap (λ n. replies.Planned n (length (zone (content_of (take has.front h)) edit))) (sym held_length) ∙ sym (ap (to_plan (take has.front h) edit) (ap (λ n. refusal (content_of (take has.front h)) n set.limits edit) held_length ∙ is));
    entries = inr (record { same = refl; none = refl });
    shows = λ shown e. refl;
    plans = refl;
    within = within;
  }

  read_by : (request : Request) (m : Move) → m.history ≡ h → m.holding ≡ has → turning request ≡ Shown → IsReply set (take has.front h) has.pending request (reply_in m.reply) → done_front (reply_in m.reply) ≡ None → front_of (reply_in m.reply) ≡ Some has.front
      → has.pending ≡ pending_after (Some request) (reply_in m.reply) has.pending → OwnMove set author h has request m
  read_by request m history holding shown is none front plans = record {
    front = has.front;
    there = within;
    seen = λ told e. subst (λ r. IsFrontBy r told has.front) (sym shown) (at_shown has.front told e);
    is = is;
    entries = inr (record { same = history; none = none });
    shows = λ told e. printed _ _ (front ∙ ap (λ (x : Holding). Some x.front) (sym holding)) told;
    plans = ap (λ (x : Holding). x.pending) holding ∙ plans;
    within = rw (history, holding) within;
  }

  read_move : (query : Query) → OwnMove set author h has (request_to_read query) (record { history = h; holding = has; reply = read has.front (content_of (take has.front h)) query })
  read_move (queries.Level p) = read_by (asks.Level p) _ refl refl refl (ap (λ n. replies.Level n (level_at (relief (content_of (take has.front h))) p)) (sym held_length)) refl refl refl
  read_move (queries.Contour z) = read_by (asks.Contour z) _ refl refl refl (ap (λ n. replies.Contour n (contour_at (relief (content_of (take has.front h))) z)) (sym held_length)) refl refl refl
  read_move (queries.Volume z) = read_by (asks.Volume z) _ refl refl refl (ap (λ n. replies.Volume n (volume_over (relief (content_of (take has.front h))) z)) (sym held_length)) refl refl refl
  read_move queries.Stat = read_by asks.Stat _ refl refl refl (ap (λ n. replies.Stat n (finmap.len (content_of (take has.front h)).points) (finmap.len (content_of (take has.front h)).table.lines)) (sym held_length)) refl refl refl

  hold_move : OwnMove set author h has asks.Sync (held h has)
  hold_move = record {
    front = length h;
    there = omega arith;
    seen = λ shown e. at_turn has.front (length h) within shown e;
    is = ap (λ k. replies.Held (length k)) (sym (whole h));
    entries = inr (record { same = refl; none = refl });
    shows = λ shown e. refl;
    plans = refl;
    within = omega arith;
  }

-- The move of each event.
pub own_move : (set : Setting) (h : List Entry) (has : Holding) (event : Event) → has.front ≤ length h → OwnMove set (session_of event) h has (request_in event) (move set.limits h has event)
own_move set h has (Hold s) within = hold_move set s h has within
own_move set h has (Plan s edit) within = plan_move set s h has within edit _ refl
own_move set h has (Commit s) within = commit_move set s h has within has.pending refl
own_move set h has (Apply s edit) within = apply_move set s h has within edit
own_move set h has (Read s query) within = read_move set s h has within query
