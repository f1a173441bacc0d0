-- A session's transcript goes on by one exchange.
use Rattle.std.proofs.Common.{◌≡◌, ℕ, suc, ◌+◌, ◌≤◌, ◌⊎◌, inl, inr, Bool, true, false, cond, ◌==◌, eqb, List, [], ◌∷◌, ◌++◌, length, take, drop, Option, None, Some, refl, sym, ap, subst, ◌∙◌, arith, append_assoc, length-append, length-drop, IfSome}
use Rattle.std.specs.Bool.{⊤}
use Rattle.std.proofs.Math.Seq.{take-append_seam, drop-append_seam}
use Rattle.std.proofs.lemmas.Bool.{true≢false}
use Rattle.std.proofs.lemmas.List.Elements.{filter-append}
use Rattle.std.proofs.lemmas.List.{take-append-le, drop-append-le, append-nil, length-take-le}
use Rattle.std.specs.Prelude.{IsSomeAnd, MatchOption, option_and_then, option_map, unwrap_or}
use Rattle.ground_model.specs.declared.edit.Edit.{Edit}
use Rattle.ground_model.specs.declared.entry.Entry.{Entry}
use Rattle.ground_model.specs.declared.limits.Limits.{Limits}
use Rattle.ground_model.specs.declared.refusal.Refusal.{Refusal}
use Rattle.ground_model.specs.History.{content_of}
use Rattle.ground_model.specs.Refusal.{refusal}
use Rattle.ground_model.specs.declared.mark.Mark.{Mark}
use Rattle.ground_model.specs.Answer as answers
use Rattle.ground_model.specs.Answer.{Pending, Answer, answer, conflict, by_conflict, by_refusal, next_entry}
use Rattle.ground_model.proofs.Newest.{answer-newest}
use Rattle.line_protocol.specs.declared.reply.Reply.{Reply}
use Rattle.line_protocol.specs.declared.reply.Reply.TheVariants.{Held, Planned, Done, Conflict, Refused, Level, Contour, Volume, Stat, Export, Bye, Syntax, Range, NoPlan, Memory}
use Rattle.line_protocol.specs.declared.request.Request.{Request}
use Rattle.line_protocol.specs.declared.request.Request.TheVariants as asks
use Rattle.line_protocol.specs.Spoken.{Spoken}
use Rattle.line_protocol.specs.Spoken as ask
use Rattle.line_protocol.specs.Grammar.{spoken}
use Rattle.line_protocol.specs.Within.{request_within, request_of, edit_within, place_within, level_within}
use Rattle.store.proofs.Journals.{get_longer, get_last}
use Rattle.ground_num.specs.declared.head.Origin.{Origin}
use Rattle.turn_lock.specs.Journal.{IsPrefix, entries_by}
use Rattle.turn_lock.specs.Setting.{Setting, setting}
use Rattle.turn_lock.specs.declared.journal.Journal.{Journal}
use Rattle.session.specs.Told.{Told, told_nothing, told_after, pending_after, shown_after, front_of, done_front, front_list, fronts_told, edit_made, entries_after, export_front}
use Rattle.session.specs.Table.{to_edit, to_plan, IsReply}
use Rattle.session.specs.Transcript.{Sitting, Reading, Shown, Turned, Free, reading, IsFrontBy, IsFrontFor, IsFaultReply, IsAnswerWithin, AnswersLine, IsEntry, Exchange, Exchanges, fronts_by}
use Rattle.session.specs.Sessions.{takes_turn, held_after}
use Rattle.session.specs.Fronts.{asks_turn, LacksRoom, AreOwn, Visited, Visits}
use Rattle.session.specs.Talking.{Start, sitting, Position, HeldStep, FoundStep, ServesLine, told_by, Going}

-- ---- histories

pub fronts_by-more : (author place : ℕ) (xs : List Entry) (x : Entry) → x.author ≡ author → fronts_by author place (xs ++ x ∷ []) ≡ fronts_by author place xs ++ suc (place + length xs) ∷ []
fronts_by-more author place [] x own = grind (arith, own)
fronts_by-more author place (y ∷ xs) x own =
    let more = fronts_by-more author (suc place) xs x own in
    elim (y.author == author) as (λ t. cond t (suc place ∷ fronts_by author (suc place) (xs ++ x ∷ [])) (fronts_by author (suc place) (xs ++ x ∷ [])) ≡ cond t (suc place ∷ fronts_by author (suc place) xs) (fronts_by author (suc place) xs) ++ suc (place + suc (length xs)) ∷ []) [
      | true ↦ rw more (ap (λ n. suc place ∷ (fronts_by author (suc place) xs ++ suc n ∷ [])) (omega arith))
      | false ↦ more ∙ ap (λ n. fronts_by author (suc place) xs ++ suc n ∷ []) (omega arith)
    ]

fronts_by-append : (author place : ℕ) (xs ys : List Entry) → fronts_by author place (xs ++ ys) ≡ fronts_by author place xs ++ fronts_by author (place + length xs) ys
fronts_by-append author place [] ys = ap (λ n. fronts_by author n ys) (omega arith)
fronts_by-append author place (x ∷ xs) ys =
    let more = fronts_by-append author (suc place) xs ys ∙ ap (λ n. fronts_by author (suc place) xs ++ fronts_by author n ys) (omega arith) in
    elim (x.author == author) as (λ t. cond t (suc place ∷ fronts_by author (suc place) (xs ++ ys)) (fronts_by author (suc place) (xs ++ ys)) ≡ cond t (suc place ∷ fronts_by author (suc place) xs) (fronts_by author (suc place) xs) ++ fronts_by author (place + suc (length xs)) ys) [
      | true ↦ ap (λ fs. suc place ∷ fs) more
      | false ↦ more
    ]

-- who has no entry has no fronts
fronts_none : (author place : ℕ) (xs : List Entry) → entries_by author xs ≡ [] → fronts_by author place xs ≡ []
fronts_none author place [] none = refl
fronts_none author place (x ∷ xs) none = by (x.author == author) none (fronts_none author (suc place) xs)
  where
    by : (t : Bool) → cond t (x ∷ entries_by author xs) (entries_by author xs) ≡ [] → (entries_by author xs ≡ [] → fronts_by author (suc place) xs ≡ []) → cond t (suc place ∷ fronts_by author (suc place) xs) (fronts_by author (suc place) xs) ≡ []
    by true e more = cc
    by false e more = more e

empty : (xs : List Entry) → length xs ≡ 0 → xs ≡ []
empty [] e = refl
empty (x ∷ xs) e = absurd (omega arith)

-- what others added has no entry of the author
others_none : (author : ℕ) (old more : List Entry) → entries_by author (old ++ more) ≡ entries_by author old → entries_by author more ≡ []
others_none author old more same =
    let parts = ap length (sym (filter-append (λ (e : Entry). eqb e.author author) old more) ∙ same) in
    empty (entries_by author more) (omega (arith, parts, length-append (entries_by author old) (entries_by author more)))

-- what others added after a start has no fronts of the author
pub starts_none : (author : ℕ) (first more : List Entry) → entries_by author (first ++ more) ≡ entries_by author first → fronts_by author (length first) (drop (length first) (first ++ more)) ≡ []
starts_none author first more same = ap (fronts_by author (length first)) (drop-append_seam first more) ∙ fronts_none author (length first) more (others_none author first more same)

-- ---- exchanges over longer histories

some_entry_longer : (h more : List Entry) (author front : ℕ) (edit : Option Edit) → IsSomeAnd edit (IsEntry h author front) → IsSomeAnd edit (IsEntry (h ++ more) author front)
some_entry_longer h more author front None e = absurd e
some_entry_longer h more author front (Some edit) e = (e.0, get_longer h more front e.0 e.1, e.2, e.3)

entry_longer : (h more : List Entry) (author front : ℕ) (edit : Option Edit) (done : Option ℕ) → IfSome done (λ _. IsSomeAnd edit (IsEntry h author front)) → IfSome done (λ _. IsSomeAnd edit (IsEntry (h ++ more) author front))
entry_longer h more author front edit None e = tt
entry_longer h more author front edit (Some f) e = some_entry_longer h more author front edit e

-- An exchange stands over every longer history.
pub exchange_longer : (s : Sitting) (h more : List Entry) (told : Told) (line : List ℕ) (reply : Reply) → Exchange s h told line reply → Exchange s (h ++ more) told line reply
exchange_longer s h more told line reply t = record {
  front = t.front;
  not_before = t.not_before;
  there = rw length-append (omega (arith, t.there));
  seen = t.seen;
  is = rw (take-append-le t.front h more t.there) t.is;
  entry = entry_longer h more s.author t.front (edit_made told.pending (request_of s.setting.head.origin line)) (done_front reply) t.entry;
}

pub visits_longer : (s : Sitting) (h more : List Entry) (first : ℕ) (told : Told) (lines : List (List ℕ)) (replies : List Reply) (fronts : List ℕ) → Visits s h first told lines replies fronts → Visits s (h ++ more) first told lines replies fronts
unfolding exchange_longer
visits_longer s h more first told [] [] fronts t = t
visits_longer s h more first told (line ∷ lines) (reply ∷ replies) fronts t =
    let v = t.3 in
    (t.0, t.1, t.2, record { exchange = exchange_longer s h more told line reply v.exchange; turn = v.turn; held = v.held }, visits_longer s h more first (told_after (request_of s.setting.head.origin line) reply told) lines replies t.1 t.4)
visits_longer s h more first told [] (reply ∷ replies) fronts t = absurd t
visits_longer s h more first told (line ∷ lines) [] fronts t = absurd t

pub visits_more : (s : Sitting) (h : List Entry) (first : ℕ) (told : Told) (lines : List (List ℕ)) (replies : List Reply) (fronts : List ℕ) (line : List ℕ) (reply : Reply) (own : List ℕ)
    → Visits s h first told lines replies fronts → Visited s h first (told_by s.setting lines replies told) line reply own → Visits s h first told (lines ++ line ∷ []) (replies ++ reply ∷ []) (fronts ++ own)
visits_more s h first told [] [] fronts line reply own t u = (own, [], ap (λ fs. fs ++ own) t ∙ sym (append-nil own), u, refl)
visits_more s h first told (l ∷ lines) (r ∷ replies) fronts line reply own t u =
    (t.0, t.1 ++ own, ap (λ fs. fs ++ own) t.2 ∙ append_assoc t.0 t.1 own, t.3, visits_more s h first (told_after (request_of s.setting.head.origin l) r told) lines replies t.1 line reply own t.4 u)
visits_more s h first told [] (r ∷ replies) fronts line reply own t u = absurd t
visits_more s h first told (l ∷ lines) [] fronts line reply own t u = absurd t

pub visits_exchanges : (s : Sitting) (h : List Entry) (first : ℕ) (told : Told) (lines : List (List ℕ)) (replies : List Reply) (fronts : List ℕ) → Visits s h first told lines replies fronts → Exchanges s h told lines replies
visits_exchanges s h first told [] [] fronts t = tt
visits_exchanges s h first told (line ∷ lines) (reply ∷ replies) fronts t = (t.3.exchange, visits_exchanges s h first (told_after (request_of s.setting.head.origin line) reply told) lines replies t.1 t.4)
visits_exchanges s h first told [] (reply ∷ replies) fronts t = absurd t
visits_exchanges s h first told (line ∷ lines) [] fronts t = absurd t

-- there are as many replies as lines
pub exchanges_each : (s : Sitting) (h : List Entry) (told : Told) (lines : List (List ℕ)) (replies : List Reply) → Exchanges s h told lines replies → length replies ≡ length lines
exchanges_each s h told [] [] t = refl
exchanges_each s h told (l ∷ lines) (r ∷ replies) t = ap suc (exchanges_each s h (told_after (request_of s.setting.head.origin l) r told) lines replies t.1)
exchanges_each s h told [] (r ∷ replies) t = absurd t
exchanges_each s h told (l ∷ lines) [] t = absurd t

-- what one more reply tells
pub told_more : (s : Sitting) (h : List Entry) (told : Told) (lines : List (List ℕ)) (replies : List Reply) (line : List ℕ) (reply : Reply) → Exchanges s h told lines replies
    → told_by s.setting (lines ++ line ∷ []) (replies ++ reply ∷ []) told ≡ told_after (request_of s.setting.head.origin line) reply (told_by s.setting lines replies told)
told_more s h told [] [] line reply t = refl
told_more s h told (l ∷ lines) (r ∷ replies) line reply t = told_more s h (told_after (request_of s.setting.head.origin l) r told) lines replies line reply t.1
told_more s h told [] (r ∷ replies) line reply t = absurd t
told_more s h told (l ∷ lines) [] line reply t = absurd t

fronts_more : (replies : List Reply) (reply : Reply) → fronts_told (replies ++ reply ∷ []) ≡ fronts_told replies ++ front_list (done_front reply)
fronts_more [] reply = append-nil (front_list (done_front reply))
fronts_more (r ∷ replies) reply = rw (fronts_more replies reply) (sym (append_assoc (front_list (done_front r)) (fronts_told replies) (front_list (done_front reply))))

-- ---- what a reply tells of the history that it was made at

-- the edit that was made was lawful, and its front is the next one
record Makes (limits : Limits) (h : List Entry) (edit : Option Edit) (front : ℕ) : Type 0 where
  made : Edit
  is : edit ≡ Some made
  lawful : refusal (content_of h) (length h) limits made ≡ None
  next : front ≡ length h + 1

-- where an edit was made, the front is the next one; else a front that is printed is that of the history
Tells : Limits → List Entry → Option Edit → Option ℕ → Option ℕ → Type 0
Tells limits h edit (Some f) printed = Makes limits h edit f × (printed ≡ Some f)
Tells limits h edit None printed = IfSome printed (λ f. f ≡ length h)

tells_edit : (limits : Limits) (h : List Entry) (e : Edit) (cause : Option Refusal) → refusal (content_of h) (length h) limits e ≡ cause
    → Tells limits h (Some e) (done_front (to_edit (by_refusal h e cause))) (front_of (to_edit (by_refusal h e cause)))
unfolding Tells
tells_edit limits h e None is = (record { made = e; is = refl; lawful = is; next = refl }, refl)
tells_edit limits h e (Some cause) is = refl

tells_answer : (limits : Limits) (h : List Entry) (e : Edit) (found : Option Mark) (cause : Option Refusal) → refusal (content_of h) (length h) limits e ≡ cause
    → Tells limits h (Some e) (done_front (to_edit (by_conflict h e found cause))) (front_of (to_edit (by_conflict h e found cause)))
unfolding Tells
tells_answer limits h e (Some m) cause is = refl
tells_answer limits h e None cause is = tells_edit limits h e cause is

tells_plan : (limits : Limits) (h : List Entry) (e : Edit) (cause : Option Refusal) → Tells limits h None (done_front (to_plan h e cause)) (front_of (to_plan h e cause))
unfolding Tells
tells_plan limits h e None = refl
tells_plan limits h e (Some cause) = refl

TellsOf : Setting → List Entry → Option Edit → Reply → Type 0
TellsOf set h edit reply = Tells set.limits h edit (done_front reply) (front_of reply)

tells_by : (set : Setting) (h : List Entry) (edit : Option Edit) (reply other : Reply) → reply ≡ other → TellsOf set h edit other → TellsOf set h edit reply
tells_by set h edit reply other is t = rw is t

tells_applied : (set : Setting) (h : List Entry) (e : Edit) (reply : Reply) → reply ≡ to_edit (answer set.limits h (length h) e) → TellsOf set h (Some e) reply
unfolding Tells TellsOf
tells_applied set h e reply is = tells_by set h (Some e) reply _ (is ∙ ap to_edit (answer-newest set.limits h e)) (tells_edit set.limits h e _ refl)

tells_request : (set : Setting) (h : List Entry) (pending : Option Pending) (r : Request) (reply : Reply) → IsReply set h pending r reply → TellsOf set h (edit_made pending (Some r)) reply
unfolding Tells TellsOf answer
tells_request set h pending (asks.Apply e) reply is = tells_applied set h e reply is
tells_request set h pending asks.Stat reply is = rw is refl
tells_request set h pending asks.Quit reply is = rw is tt
tells_request set h pending asks.Sync reply is = rw is refl
tells_request set h pending (asks.Plan e) reply is = tells_by set h None reply _ is (tells_plan set.limits h e (refusal (content_of h) (length h) set.limits e))
tells_request set h None asks.Commit reply is = rw is tt
tells_request set h (Some plan) asks.Commit reply is = tells_by set h (Some plan.edit) reply _ is (tells_answer set.limits h plan.edit (conflict h plan.base plan.edit) _ refl)
tells_request set h pending (asks.Level p) reply is = rw is refl
tells_request set h pending (asks.Contour z) reply is = rw is refl
tells_request set h pending (asks.Volume z) reply is = rw is refl
tells_request set h pending asks.Export reply is = rw is refl

tells_within : (set : Setting) (h : List Entry) (pending : Option Pending) (r : Option Request) (reply : Reply) → IsAnswerWithin set h pending r reply → TellsOf set h (edit_made pending r) reply
unfolding Tells TellsOf
tells_within set h pending None reply is = rw is tt
tells_within set h pending (Some r) reply a =
    elim a [
      | inl is ↦ tells_request set h pending r reply is
      | inr lacks ↦ rw lacks.1 tt
    ]

tells_line : (set : Setting) (h : List Entry) (pending : Option Pending) (line : List ℕ) (s : Option Spoken) (reply : Reply) → MatchOption s (IsFaultReply line reply) (λ s. IsAnswerWithin set h pending (request_within set.head.origin s) reply)
    → TellsOf set h (edit_made pending (option_and_then (request_within set.head.origin) s)) reply
unfolding Tells TellsOf
tells_line set h pending line None reply a = rw a.2 tt
tells_line set h pending line (Some s) reply a = tells_within set h pending (request_within set.head.origin s) reply a

export_by : (set : Setting) (h : List Entry) (edit : Option Edit) (reply : Reply) → TellsOf set h edit reply → IfSome (export_front reply) (λ f. f ≡ length h)
unfolding Tells TellsOf
export_by set h edit (Export f bytes) t = t
export_by set h edit (Held f) t = tt
export_by set h edit (Planned f size) t = tt
export_by set h edit (Done f line) t = tt
export_by set h edit (Conflict f mark) t = tt
export_by set h edit (Refused f cause) t = tt
export_by set h edit (Level f z) t = tt
export_by set h edit (Contour f cuts) t = tt
export_by set h edit (Volume f v) t = tt
export_by set h edit (Stat f points lines) t = tt
export_by set h edit Bye t = tt
export_by set h edit (Syntax offset) t = tt
export_by set h edit Range t = tt
export_by set h edit NoPlan t = tt
export_by set h edit Memory t = tt

-- an export speaks of the history that it is made at
pub export_here : (set : Setting) (h : List Entry) (pending : Option Pending) (line : List ℕ) (reply : Reply) → AnswersLine set h pending line reply → IfSome (export_front reply) (λ f. f ≡ length h)
export_here set h pending line reply a = export_by set h (edit_made pending (request_of set.head.origin line)) reply (tells_line set h pending line (spoken line) reply a)

-- the front of an export, where there is one, lies within the history
abbrev pub IsThere : List Entry → Reply → Type 0
IsThere h reply = IfSome (export_front reply) (λ f. f ≤ length h)

abbrev pub AreThere : List Entry → List Reply → Type 0
AreThere h [] = ⊤
AreThere h (reply ∷ replies) = IsThere h reply × AreThere h replies

here_there : (h : List Entry) (n : ℕ) (front : Option ℕ) → n ≤ length h → IfSome front (λ f. f ≡ length (take n h)) → IfSome front (λ f. f ≤ length h)
here_there h n None within e = tt
here_there h n (Some f) within e = omega (arith, e, within, length-take-le n h within)

pub exchanges_there : (s : Sitting) (h : List Entry) (told : Told) (lines : List (List ℕ)) (replies : List Reply) → Exchanges s h told lines replies → AreThere h replies
exchanges_there s h told [] [] t = tt
exchanges_there s h told (line ∷ lines) (reply ∷ replies) t =
    (here_there h t.0.front (export_front reply) t.0.there (export_here s.setting (take t.0.front h) told.pending line reply t.0.is), exchanges_there s h (told_after (request_of s.setting.head.origin line) reply told) lines replies t.1)
exchanges_there s h told [] (reply ∷ replies) t = absurd t
exchanges_there s h told (line ∷ lines) [] t = absurd t

-- ---- which replies a turn may have

-- a request that asks for no turn makes no edit
pub unmade : (pending : Option Pending) (request : Option Request) → asks_turn pending request ≡ false → edit_made pending request ≡ None
unmade pending None e = refl
unmade pending (Some asks.Sync) e = cc
unmade pending (Some (asks.Apply edit)) e = cc
unmade None (Some asks.Commit) e = refl
unmade (Some plan) (Some asks.Commit) e = cc
unmade pending (Some (asks.Plan edit)) e = refl
unmade pending (Some (asks.Level p)) e = refl
unmade pending (Some (asks.Contour z)) e = refl
unmade pending (Some (asks.Volume z)) e = refl
unmade pending (Some asks.Stat) e = refl
unmade pending (Some asks.Export) e = refl
unmade pending (Some asks.Quit) e = refl

-- a turn's reply prints a front and is no export, but out of memory
abbrev Prints : Reply → Type 0
Prints reply = (reply ≡ Memory) ⊎ ((f : ℕ) × (front_of reply ≡ Some f) × (export_front reply ≡ None))

prints_edit : (a : Answer) → Prints (to_edit a)
prints_edit (answers.Conflict front m) = inr (front, refl, refl)
prints_edit (answers.Refused front cause) = inr (front, refl, refl)
prints_edit (answers.Done front line) = inr (front, refl, refl)

prints_by : (reply other : Reply) → reply ≡ other → Prints other → Prints reply
prints_by reply other is p = rw is p

prints_request : (set : Setting) (h : List Entry) (pending : Option Pending) (r : Request) (reply : Reply) → takes_turn pending r ≡ true → IsReply set h pending r reply → Prints reply
prints_request set h pending asks.Sync reply turn is = prints_by reply (Held (length h)) is (inr (length h, refl, refl))
prints_request set h pending (asks.Apply e) reply turn is = prints_by reply _ is (prints_edit (answer set.limits h (length h) e))
prints_request set h None asks.Commit reply turn is = cc
prints_request set h (Some plan) asks.Commit reply turn is = prints_by reply _ is (prints_edit (answer set.limits h plan.base plan.edit))
prints_request set h pending (asks.Plan e) reply turn is = cc
prints_request set h pending (asks.Level p) reply turn is = cc
prints_request set h pending (asks.Contour z) reply turn is = cc
prints_request set h pending (asks.Volume z) reply turn is = cc
prints_request set h pending asks.Stat reply turn is = cc
prints_request set h pending asks.Export reply turn is = cc
prints_request set h pending asks.Quit reply turn is = cc

prints_within : (set : Setting) (h : List Entry) (pending : Option Pending) (r : Option Request) (reply : Reply) → asks_turn pending r ≡ true → IsAnswerWithin set h pending r reply → Prints reply
prints_within set h pending None reply turn is = cc
prints_within set h pending (Some r) reply turn a = elim a [ inl is ↦ prints_request set h pending r reply turn is | inr lacks ↦ inl lacks.1 ]

prints_spoken : (set : Setting) (h : List Entry) (pending : Option Pending) (line : List ℕ) (s : Option Spoken) (reply : Reply) → asks_turn pending (option_and_then (request_within set.head.origin) s) ≡ true
    → MatchOption s (IsFaultReply line reply) (λ s. IsAnswerWithin set h pending (request_within set.head.origin s) reply) → Prints reply
prints_spoken set h pending line None reply turn a = cc
prints_spoken set h pending line (Some s) reply turn a = prints_within set h pending (request_within set.head.origin s) reply turn a

pub turn_prints : (set : Setting) (h : List Entry) (pending : Option Pending) (line : List ℕ) (reply : Reply) → asks_turn pending (request_of set.head.origin line) ≡ true → AnswersLine set h pending line reply → (reply ≡ Memory) ⊎ ((f : ℕ) × (front_of reply ≡ Some f) × (export_front reply ≡ None))
turn_prints set h pending line reply turn a = prints_spoken set h pending line (spoken line) reply turn a

-- the version that is held after a reply that prints a front is the newest
held_printed : (reply : Reply) (f : ℕ) (old new : Journal) → front_of reply ≡ Some f → held_after reply old new ≡ new
held_printed (Held f) g old new e = refl
held_printed (Planned f size) g old new e = refl
held_printed (Done f line) g old new e = refl
held_printed (Conflict f mark) g old new e = refl
held_printed (Refused f cause) g old new e = refl
held_printed (Level f z) g old new e = refl
held_printed (Contour f cuts) g old new e = refl
held_printed (Volume f v) g old new e = refl
held_printed (Stat f points lines) g old new e = refl
held_printed (Export f bytes) g old new e = refl
held_printed Bye g old new e = refl
held_printed (Syntax offset) g old new e = refl
held_printed Range g old new e = refl
held_printed NoPlan g old new e = refl
held_printed Memory g old new e = cc

-- a reply where no edit could be made reports none
tells_none : (limits : Limits) (h : List Entry) (edit : Option Edit) (done printed : Option ℕ) → edit ≡ None → Tells limits h edit done printed → (done ≡ None) × IfSome printed (λ f. f ≡ length h)
unfolding Tells
tells_none limits h edit None printed none t = (refl, t)
tells_none limits h edit (Some f) printed none t = absurd (none_some t.0.made (sym none ∙ t.0.is))
  where
    none_some : {X : Type 0} (x : X) → None ≡ Some x → ⊥
    none_some x e = cc

-- ---- fronts

front_by : (r : Reading) (shown : Option ℕ) (n : ℕ) → IfSome shown (λ f. f ≡ n) → IsFrontBy r shown n
front_by Shown None n h = tt
front_by Shown (Some f) n h = sym h
front_by Turned None n h = tt
front_by Turned (Some f) n h = omega (arith, h)
front_by Free shown n h = tt

front_for : (shown : Option ℕ) (s : Option Spoken) (n : ℕ) → IfSome shown (λ f. f ≡ n) → IsFrontFor shown s n
front_for shown None n h = tt
front_for shown (Some s) n h = front_by (reading s) shown n h

no_turn : {X : Type 0} (pending : Option Pending) (f : X → Request) (x : Option X) → ((y : X) → takes_turn pending (f y) ≡ false) → asks_turn pending (option_map f x) ≡ true → ⊥
no_turn pending f None none turn = cc
no_turn pending f (Some y) none turn = true≢false (sym turn ∙ none y)

front_turned : (o : Origin) (pending : Option Pending) (s : Spoken) (shown : Option ℕ) (n : ℕ) → asks_turn pending (request_within o s) ≡ true → IfSome shown (λ f. f ≤ n) → IsFrontBy (reading s) shown n
unfolding request_within
front_turned o pending ask.Sync shown n turn h = h
front_turned o pending ask.Commit shown n turn h = h
front_turned o pending (ask.Apply e) shown n turn h = h
front_turned o pending ask.Quit shown n turn h = tt
front_turned o pending (ask.Plan e) shown n turn h = absurd (no_turn pending asks.Plan (edit_within o e) (λ y. refl) turn)
front_turned o pending (ask.Level p) shown n turn h = absurd (no_turn pending asks.Level (place_within o p) (λ y. refl) turn)
front_turned o pending (ask.Contour z) shown n turn h = absurd (no_turn pending asks.Contour (level_within z) (λ y. refl) turn)
front_turned o pending (ask.Volume z) shown n turn h = absurd (no_turn pending asks.Volume (level_within z) (λ y. refl) turn)
front_turned o pending ask.Stat shown n turn h = cc
front_turned o pending ask.Export shown n turn h = cc

front_in_turn : (o : Origin) (pending : Option Pending) (s : Option Spoken) (shown : Option ℕ) (n : ℕ) → asks_turn pending (option_and_then (request_within o) s) ≡ true → IfSome shown (λ f. f ≤ n) → IsFrontFor shown s n
front_in_turn o pending None shown n turn h = tt
front_in_turn o pending (Some s) shown n turn h = front_turned o pending s shown n turn h

-- the front that is shown is that of the held version
shown_is : (shown : Option ℕ) (first held : ℕ) → unwrap_or shown first ≡ held → IfSome shown (λ f. f ≡ held)
shown_is None first held e = tt
shown_is (Some f) first held e = e

shown_within : (shown : Option ℕ) (first held n : ℕ) → unwrap_or shown first ≡ held → held ≤ n → IfSome shown (λ f. f ≤ n)
shown_within None first held n e within = tt
shown_within (Some f) first held n e within = omega (arith, e, within)

shown_kept : (shown printed : Option ℕ) (first n : ℕ) → unwrap_or shown first ≡ n → IfSome printed (λ f. f ≡ n) → unwrap_or (shown_after shown printed) first ≡ n
shown_kept shown None first n s p = s
shown_kept shown (Some f) first n s p = p

module _ (b : Start) (h : List Entry) (held : ℕ) (pending now : Option Pending) (lines : List (List ℕ)) (replies : List Reply) (fronts : List ℕ) (line : List ℕ) (going : Going b h held pending lines replies fronts) where
  told_now : Told
  told_now = told_by b.setting lines replies told_nothing

  request : Option Request
  request = request_of b.setting.head.origin line

  exchanges_so_far : Exchanges (sitting b) h told_nothing lines replies
  exchanges_so_far = visits_exchanges (sitting b) h b.front told_nothing lines replies fronts going.visits

  -- the plan that is pending afterwards
  plans_now : (reply : Reply) → now ≡ pending_after request reply pending → (told_by b.setting (lines ++ line ∷ []) (replies ++ reply ∷ []) told_nothing).pending ≡ now
  unfolding told_now request
  plans_now reply after = ap (λ (t : Told). t.pending) (told_more (sitting b) h told_nothing lines replies line reply exchanges_so_far) ∙ ap (pending_after request reply) going.plans ∙ sym after

  -- the front that is shown afterwards
  shows_now : (reply : Reply) (n : ℕ) → unwrap_or (shown_after told_now.shown (front_of reply)) b.front ≡ n → unwrap_or (told_by b.setting (lines ++ line ∷ []) (replies ++ reply ∷ []) told_nothing).shown b.front ≡ n
  unfolding told_now request
  shows_now reply n shows = ap (λ (t : Told). unwrap_or t.shown b.front) (told_more (sitting b) h told_nothing lines replies line reply exchanges_so_far) ∙ shows

  -- ---- at the held version

  -- a line that is answered at the held version, and makes no edit
  kept : (reply : Reply) → AnswersLine b.setting (take held h) pending line reply → AreOwn (asks_turn pending request) request reply held [] → now ≡ pending_after request reply pending → done_front reply ≡ None → IfSome (front_of reply) (λ f. f ≡ held)
      → Going b h held now (lines ++ line ∷ []) (replies ++ reply ∷ []) (fronts ++ [])
  unfolding told_now request
  kept reply is turn after none printed =
      let untold : fronts_told (replies ++ reply ∷ []) ≡ fronts_told replies = fronts_more replies reply ∙ ap (λ d. fronts_told replies ++ front_list d) none ∙ append-nil (fronts_told replies) in
      let exchange : Exchange (sitting b) h told_now line reply = record {
        front = held;
        not_before = going.from;
        there = going.within;
        seen = front_for told_now.shown (spoken line) held (shown_is told_now.shown b.front held going.shown);
        is = rw going.plans is;
        entry = rw none tt;
      } in
      record {
        visits = visits_more (sitting b) h b.front told_nothing lines replies fronts line reply [] going.visits (record {
          exchange = exchange;
          turn = rw going.plans turn;
          held = λ _. sym going.shown;
        });
        each_once = going.each_once ∙ sym untold;
        shown = shows_now reply held (shown_kept told_now.shown (front_of reply) b.front held going.shown printed);
        from = going.from;
        within = going.within;
        plans = plans_now reply after;
        begins = going.begins;
      }

  quiet_own : (reply : Reply) → (asks_turn pending request ≡ false) ⊎ LacksRoom request reply → AreOwn (asks_turn pending request) request reply held []
  unfolding request
  quiet_own reply (inl quiet) = rw quiet refl
  quiet_own reply (inr lacks) = by (asks_turn pending request)
    where
      by : (t : Bool) → AreOwn t request reply held []
      by false = refl
      by true = inr (lacks, refl)

  -- a line that asks for no turn reports no edit
  quiet_tells : (reply : Reply) → asks_turn pending request ≡ false → TellsOf b.setting (take held h) (edit_made pending request) reply → (done_front reply ≡ None) × IfSome (front_of reply) (λ f. f ≡ length (take held h))
  unfolding TellsOf request
  quiet_tells reply quiet t = tells_none b.setting.limits (take held h) (edit_made pending request) (done_front reply) (front_of reply) (unmade pending request quiet) t

  at_held : (reply : Reply) → AnswersLine b.setting (take held h) pending line reply → (asks_turn pending request ≡ false) ⊎ LacksRoom request reply → now ≡ pending_after request reply pending
      → Going b h held now (lines ++ line ∷ []) (replies ++ reply ∷ []) (fronts ++ [])
  unfolding request
  at_held reply is (inl quiet) after =
      let t = quiet_tells reply quiet (tells_line b.setting (take held h) pending line (spoken line) reply is) in
      let long : length (take held h) ≡ held = length-take-le held h going.within in
      kept reply is (quiet_own reply (inl quiet)) after t.0 (subst (λ n. IfSome (front_of reply) (λ f. f ≡ n)) long t.1)
  at_held reply is (inr lacks) after = kept reply is (quiet_own reply (inr lacks)) after (ap done_front lacks.1) (rw lacks.1 tt)

  -- ---- over a history that others went on with

  over_others : (more : List Entry) → entries_by b.author (h ++ more) ≡ entries_by b.author h → Going b (h ++ more) held pending lines replies fronts
  over_others more same =
      let started : length b.first ≤ length h = omega (arith, going.from, going.within) in
      record {
        visits = visits_longer (sitting b) h more b.front told_nothing lines replies fronts going.visits;
        each_once =
            ap (fronts_by b.author (length b.first)) (drop-append-le (length b.first) h more started)
            ∙ fronts_by-append b.author (length b.first) (drop (length b.first) h) more
            ∙ ap (λ fs. fronts_by b.author (length b.first) (drop (length b.first) h) ++ fs) (fronts_none b.author _ more (others_none b.author h more same))
            ∙ append-nil (fronts_by b.author (length b.first) (drop (length b.first) h))
            ∙ going.each_once;
        shown = going.shown;
        from = going.from;
        within = rw (length-append h more) (omega (arith, going.within));
        plans = going.plans;
        begins = (going.begins.0 ++ more, ap (λ xs. xs ++ more) going.begins.1 ∙ append_assoc b.first going.begins.0 more);
      }

  -- ---- in a turn that found this very history

  module _ (turn : asks_turn pending request ≡ true) where
    -- the exchange with this reply, in a history that begins with the one found
    visited : (more : List Entry) (reply : Reply) → AnswersLine b.setting h pending line reply → IfSome (done_front reply) (λ _. IsSomeAnd (edit_made pending request) (IsEntry (h ++ more) b.author (length h))) → Visited (sitting b) (h ++ more) b.front told_now line reply (length h ∷ [])
    unfolding told_now request
    visited more reply is entry = record {
      exchange = record {
        front = length h;
        not_before = omega (arith, going.from, going.within);
        there = rw (length-append h more) (omega arith);
        seen = front_in_turn b.setting.head.origin pending (spoken line) told_now.shown (length h) turn (shown_within told_now.shown b.front held (length h) going.shown going.within);
        is = rw (take-append_seam h more, going.plans) is;
        entry = rw going.plans entry;
      };
      turn = rw (going.plans, turn) (inl refl);
      held = λ e. cc;
    }

    -- the front that is held afterwards
    holds : (reply : Reply) (n : ℕ) → ((f : ℕ) → front_of reply ≡ Some f → f ≡ n) → Prints reply → (front : ℕ) → (reply ≡ Memory → front ≡ held) → ((f : ℕ) → front_of reply ≡ Some f → front ≡ n) → unwrap_or (shown_after told_now.shown (front_of reply)) b.front ≡ front
    unfolding told_now
    holds reply n printed (inl memory) front still newest = rw memory (going.shown ∙ sym (still memory))
    holds reply n printed (inr p) front still newest = rw p.1 (printed p.0 p.1 ∙ sym (newest p.0 p.1))

    -- a line that leaves the entries as they are
    found_kept : (reply : Reply) (front : ℕ) → AnswersLine b.setting h pending line reply → now ≡ pending_after request reply pending → done_front reply ≡ None → unwrap_or (shown_after told_now.shown (front_of reply)) b.front ≡ front → length b.first ≤ front → front ≤ length h
        → Going b h front now (lines ++ line ∷ []) (replies ++ reply ∷ []) (fronts ++ length h ∷ [])
    unfolding told_now request
    found_kept reply front is after none shows from within =
        let untold : fronts_told (replies ++ reply ∷ []) ≡ fronts_told replies = fronts_more replies reply ∙ ap (λ d. fronts_told replies ++ front_list d) none ∙ append-nil (fronts_told replies) in
        let same : h ++ [] ≡ h = append-nil h in
        record {
          visits = visits_more (sitting b) h b.front told_nothing lines replies fronts line reply (length h ∷ []) going.visits (subst (λ k. Visited (sitting b) k b.front told_now line reply (length h ∷ [])) same (visited [] reply is (rw none tt)));
          each_once = going.each_once ∙ sym untold;
          shown = shows_now reply front shows;
          from = from;
          within = within;
          plans = plans_now reply after;
          begins = going.begins;
        }

    -- a line whose edit is made
    entered : (reply : Reply) (front : ℕ) → AnswersLine b.setting h pending line reply → now ≡ pending_after request reply pending → done_front reply ≡ Some front → front_of reply ≡ Some front → front ≡ length h + 1
        → (e : Edit) → edit_made pending request ≡ Some e
        → Going b (h ++ next_entry b.author h e ∷ []) front now (lines ++ line ∷ []) (replies ++ reply ∷ []) (fronts ++ length h ∷ [])
    unfolding told_now request
    entered reply front is after done printed next e edit =
        let x = next_entry b.author h e in
        let started : length b.first ≤ length h = omega (arith, going.from, going.within) in
        let told : fronts_told (replies ++ reply ∷ []) ≡ fronts_told replies ++ front ∷ [] = fronts_more replies reply ∙ ap (λ d. fronts_told replies ++ front_list d) done in
        let entry : IsSomeAnd (edit_made pending request) (IsEntry (h ++ x ∷ []) b.author (length h)) = rw edit (x, get_last h x, refl, refl) in
        let length_now : length (h ++ x ∷ []) ≡ length h + 1 = length-append h (x ∷ []) in
        record {
          visits = visits_more (sitting b) (h ++ x ∷ []) b.front told_nothing lines replies fronts line reply (length h ∷ []) (visits_longer (sitting b) h (x ∷ []) b.front told_nothing lines replies fronts going.visits) (visited (x ∷ []) reply is (rw done entry));
          each_once =
              ap (λ xs. fronts_by b.author (length b.first) xs) (drop-append-le (length b.first) h (x ∷ []) started)
              ∙ fronts_by-more b.author (length b.first) (drop (length b.first) h) x refl
              ∙ ap (λ fs. fs ++ suc (length b.first + length (drop (length b.first) h)) ∷ []) going.each_once
              ∙ ap (λ n. fronts_told replies ++ n ∷ []) (rw length-drop (omega (arith, started, next)))
              ∙ sym told;
          shown = shows_now reply front (ap (λ printed. unwrap_or (shown_after told_now.shown printed) b.front) printed);
          from = omega (arith, started, next);
          within = omega (arith, length_now, next);
          plans = plans_now reply after;
          begins = (going.begins.0 ++ x ∷ [], ap (λ xs. xs ++ x ∷ []) going.begins.1 ∙ append_assoc b.first going.begins.0 (x ∷ []));
        }

    -- the version that is held before and after, by their journals
    module _ (old new : Journal) (was : length old.entries ≡ held) where
      in_turn : (reply : Reply) → AnswersLine b.setting h pending line reply → now ≡ pending_after request reply pending → new.entries ≡ entries_after b.author h (edit_made pending request) reply
          → (done printed : Option ℕ) → done_front reply ≡ done → front_of reply ≡ printed → Tells b.setting.limits h (edit_made pending request) done printed
          → Going b new.entries (length (held_after reply old new).entries) now (lines ++ line ∷ []) (replies ++ reply ∷ []) (fronts ++ length h ∷ [])
      unfolding Tells told_now request
      in_turn reply is after entries None printed none front t =
          let same : new.entries ≡ h = rw none at entries in
          let prints = turn_prints b.setting h pending line reply turn is in
          let n = length (held_after reply old new).entries in
          let still : reply ≡ Memory → n ≡ held = λ memory. ap (λ r. length (held_after r old new).entries) memory ∙ was in
          let newest : (f : ℕ) → front_of reply ≡ Some f → n ≡ length h = λ f p. ap (λ (j : Journal). length j.entries) (held_printed reply f old new p) ∙ ap length same in
          let told_here : (f : ℕ) → front_of reply ≡ Some f → f ≡ length h = λ f p. at_printed f (sym front ∙ p) t in
          let bounds : (length b.first ≤ n) × (n ≤ length h) = either prints still newest in
          subst (λ k. Going b k n now (lines ++ line ∷ []) (replies ++ reply ∷ []) (fronts ++ length h ∷ [])) (sym same)
          (found_kept reply n is after none (holds reply (length h) told_here prints n still newest) bounds.0 bounds.1)
        where
          at_printed : (f : ℕ) → printed ≡ Some f → IfSome printed (λ f. f ≡ length h) → f ≡ length h
          at_printed f p t = subst (λ o. IfSome o (λ f. f ≡ length h)) p t

          either : {n : ℕ} → Prints reply → (reply ≡ Memory → n ≡ held) → ((f : ℕ) → front_of reply ≡ Some f → n ≡ length h) → (length b.first ≤ n) × (n ≤ length h)
          either (inl memory) still newest = (omega (arith, still memory, going.from), omega (arith, still memory, going.within))
          either (inr p) still newest = (omega (arith, newest p.0 p.1, going.from, going.within), omega (arith, newest p.0 p.1))
      in_turn reply is after entries (Some f) printed done front t =
          let more : new.entries ≡ h ++ next_entry b.author h t.0.made ∷ [] = rw (done, t.0.is) at entries in
          let prints : front_of reply ≡ Some f = front ∙ t.1 in
          let n : length (held_after reply old new).entries ≡ f =
          ap (λ (j : Journal). length j.entries) (held_printed reply f old new prints) ∙ ap length more ∙ length-append h (next_entry b.author h t.0.made ∷ []) ∙ sym t.0.next in
          subst (λ k. Going b new.entries k now (lines ++ line ∷ []) (replies ++ reply ∷ []) (fronts ++ length h ∷ [])) (sym n)
          (subst (λ k. Going b k f now (lines ++ line ∷ []) (replies ++ reply ∷ []) (fronts ++ length h ∷ [])) (sym more) (entered reply f is after done prints t.0.next t.0.made t.0.is))

      turned : (reply : Reply) → AnswersLine b.setting h pending line reply → now ≡ pending_after request reply pending → new.entries ≡ entries_after b.author h (edit_made pending request) reply
          → Going b new.entries (length (held_after reply old new).entries) now (lines ++ line ∷ []) (replies ++ reply ∷ []) (fronts ++ length h ∷ [])
      unfolding TellsOf request
      turned reply is after entries = in_turn reply is after entries (done_front reply) (front_of reply) refl refl (tells_line b.setting h pending line (spoken line) reply is)

-- ---- a line that was served

-- a journal that begins with another has its setting, and its entries begin with the other's
pub prefix_setting : (x y : Journal) → IsPrefix x y → setting x ≡ setting y
prefix_setting x y p = ap setting (sym p.1)

prefix_entries : (x y : Journal) → IsPrefix x y → take (length x.entries) y.entries ≡ x.entries
prefix_entries x y p = ap (λ (j : Journal). take (length x.entries) j.entries) p.1 ∙ take-append_seam x.entries p.0

module _ (b : Start) (change : Position × Position) (lines : List (List ℕ)) (replies : List Reply) (fronts : List ℕ) (line : List ℕ) (reply : Reply) (own : List ℕ)
    (going : Going b change.0.seen.entries (length change.0.held.entries) change.0.pending lines replies fronts) (same : setting change.0.seen ≡ b.setting) (holds : IsPrefix change.0.held change.0.seen) where
  -- the request of the line, by the setting that the session began with
  asked : request_of change.0.held.head.origin line ≡ request_of b.setting.head.origin line
  asked = ap (λ (set : Setting). request_of set.head.origin line) (prefix_setting change.0.held change.0.seen holds ∙ same)

  by_held : HeldStep change (request_of change.0.held.head.origin line) reply own (λ j. AnswersLine (setting j) j.entries change.0.pending line reply) → Going b change.1.seen.entries (length change.1.held.entries) change.1.pending (lines ++ line ∷ []) (replies ++ reply ∷ []) (fronts ++ own)
  unfolding request
  by_held s =
      let is = subst (λ (set : Setting). AnswersLine set change.0.held.entries change.0.pending line reply) (prefix_setting change.0.held change.0.seen holds ∙ same) s.is in
      let at = subst (λ (k : List Entry). AnswersLine b.setting k change.0.pending line reply) (sym (prefix_entries change.0.held change.0.seen holds)) is in
      let quiet = subst (λ (r : Option Request). (asks_turn change.0.pending r ≡ false) ⊎ LacksRoom r reply) asked s.quiet in
      let g = at_held b change.0.seen.entries (length change.0.held.entries) change.0.pending change.1.pending lines replies fronts line going reply at quiet (s.pending ∙ ap (λ r. pending_after r reply change.0.pending) asked) in
      subst (λ (j : Journal). Going b j.entries (length change.1.held.entries) change.1.pending (lines ++ line ∷ []) (replies ++ reply ∷ []) (fronts ++ own)) (sym s.seen)
      (subst (λ (j : Journal). Going b change.0.seen.entries (length j.entries) change.1.pending (lines ++ line ∷ []) (replies ++ reply ∷ []) (fronts ++ own)) (sym s.held)
      (subst (λ fs. Going b change.0.seen.entries (length change.0.held.entries) change.1.pending (lines ++ line ∷ []) (replies ++ reply ∷ []) (fronts ++ fs)) (sym s.own) g))

  by_turn : FoundStep b.author change (request_of change.0.held.head.origin line) reply own (λ j. AnswersLine (setting j) j.entries change.0.pending line reply) → Going b change.1.seen.entries (length change.1.held.entries) change.1.pending (lines ++ line ∷ []) (replies ++ reply ∷ []) (fronts ++ own)
  unfolding request
  by_turn s =
      let more = s.added.prefix.0 in
      let found : s.found.entries ≡ change.0.seen.entries ++ more = ap (λ (j : Journal). j.entries) s.added.prefix.1 in
      let others : entries_by b.author (change.0.seen.entries ++ more) ≡ entries_by b.author change.0.seen.entries = ap (entries_by b.author) (sym found) ∙ s.added.own b.author (0, omega arith, refl) in
      let g = subst (λ k. Going b k (length change.0.held.entries) change.0.pending lines replies fronts) (sym found) (over_others b change.0.seen.entries (length change.0.held.entries) change.0.pending change.1.pending lines replies fronts line going more others) in
      let is = subst (λ (set : Setting). AnswersLine set s.found.entries change.0.pending line reply) (sym (prefix_setting change.0.seen s.found s.added.prefix) ∙ same) s.is in
      let turn = ap (asks_turn change.0.pending) (sym asked) ∙ s.turn in
      let entries = s.entries ∙ ap (λ r. entries_after b.author s.found.entries (edit_made change.0.pending r) reply) asked in
      let now = turned b s.found.entries (length change.0.held.entries) change.0.pending change.1.pending lines replies fronts line g turn change.0.held change.1.seen refl reply is (s.pending ∙ ap (λ r. pending_after r reply change.0.pending) asked) entries in
      subst (λ (j : Journal). Going b change.1.seen.entries (length j.entries) change.1.pending (lines ++ line ∷ []) (replies ++ reply ∷ []) (fronts ++ own)) (sym s.held)
      (subst (λ fs. Going b change.1.seen.entries (length (held_after reply change.0.held change.1.seen).entries) change.1.pending (lines ++ line ∷ []) (replies ++ reply ∷ []) (fronts ++ fs)) (sym s.own) now)

  -- The session goes on by one line.
  pub answered : ServesLine b.author change line reply own → Going b change.1.seen.entries (length change.1.held.entries) change.1.pending (lines ++ line ∷ []) (replies ++ reply ∷ []) (fronts ++ own)
  answered (inl s) = by_held s
  answered (inr s) = by_turn s
