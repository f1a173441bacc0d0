-- Lines that ask to quit, and the farewell that answers them.
use Rattle.std.proofs.Common.{◌≡◌, ℕ, suc, zero, inl, inr, Bool, true, false, cond, ◌||◌, List, [], ◌∷◌, ◌++◌, length, take, Option, None, Some, refl, sym, ap, ◌∙◌, arith, length-append}
use Rattle.std.specs.Prelude.{option_map, MatchOption}
use Rattle.std.specs.List.{slice_get}
use Rattle.ground_model.specs.declared.edit.Edit.{Edit}
use Rattle.ground_model.specs.declared.entry.Entry.{Entry}
use Rattle.ground_model.specs.declared.refusal.Refusal.{Refusal}
use Rattle.ground_model.specs.History.{content_of}
use Rattle.ground_model.specs.Refusal.{refusal}
use Rattle.ground_model.specs.declared.limits.Limits.{Limits}
use Rattle.ground_model.specs.Answer.{Pending, Answer, Conflict, Refused, Done, answer, by_refusal}
use Rattle.ground_model.proofs.Newest.{answer-newest}
use Rattle.line_protocol.specs.declared.reply.Reply.{Reply}
use Rattle.line_protocol.specs.declared.request.Request.{Request}
use Rattle.line_protocol.specs.declared.request.Request.TheVariants as asks
use Rattle.line_protocol.specs.Spoken.{Spoken, Sync, Plan, Commit, Apply, Level, Contour, Volume, Stat, Export, Quit}
use Rattle.line_protocol.specs.Grammar.{spoken}
use Rattle.line_protocol.specs.Within.{request_within, edit_within, place_within, level_within}
use Rattle.turn_lock.specs.Setting.{Setting, setting}
use Rattle.session.specs.Table.{to_edit, to_plan, to_commit, IsReply}
use Rattle.session.specs.Transcript.{takes_memory, IsFaultReply, IsAnswerWithin, QuitIsLast}
use Rattle.session.specs.Talk.{asks_quit, is_quit, up_to_quit, has_quit}
use Rattle.session.specs.Talking.{Position, is_bye, ServesLine}
use Rattle.store.proofs.Journals.{get_more}

or_none : (a b : Bool) → a || b ≡ false → (a ≡ false) × (b ≡ false)
or_none true b e = cc
or_none false b e = (refl, e)

-- ---- lines up to one that asks to quit

pub up_to_quit_at : (ls : List (List ℕ)) (l : List ℕ) (ms : List (List ℕ)) → has_quit ls ≡ false → is_quit l ≡ true → up_to_quit (ls ++ l ∷ ms) ≡ ls ++ l ∷ []
up_to_quit_at [] l ms none quits = rw quits refl
up_to_quit_at (x ∷ ls) l ms none quits =
    let each = or_none (is_quit x) (has_quit ls) none in
    rw each.0 (ap (λ zs. x ∷ zs) (up_to_quit_at ls l ms each.1 quits))

pub up_to_quit_front : (ls : List (List ℕ)) (l : List ℕ) (ms : List (List ℕ)) → has_quit ls ≡ false → ls ++ l ∷ [] ≡ take (suc (length ls)) (up_to_quit (ls ++ l ∷ ms))
up_to_quit_front [] l ms none = elim (is_quit l) as (λ t. l ∷ [] ≡ take (suc 0) (cond t (l ∷ []) (l ∷ up_to_quit ms))) [ true ↦ refl | false ↦ refl ]
up_to_quit_front (x ∷ ls) l ms none =
    let each = or_none (is_quit x) (has_quit ls) none in
    rw each.0 (ap (λ zs. x ∷ zs) (up_to_quit_front ls l ms each.1))

pub has_quit_none : (ls : List (List ℕ)) → has_quit ls ≡ false → up_to_quit ls ≡ ls
has_quit_none [] none = refl
has_quit_none (x ∷ ls) none =
    let each = or_none (is_quit x) (has_quit ls) none in
    rw each.0 (ap (λ zs. x ∷ zs) (has_quit_none ls each.1))

pub has_quit_at : (ls : List (List ℕ)) (l : List ℕ) (ms : List (List ℕ)) → is_quit l ≡ true → has_quit (ls ++ l ∷ ms) ≡ true
has_quit_at [] l ms quits = rw quits refl
has_quit_at (x ∷ ls) l ms quits = rw (has_quit_at ls l ms quits) (or_true (is_quit x))
  where
    or_true : (b : Bool) → b || true ≡ true
    or_true true = refl
    or_true false = refl

pub no_quit_more : (ls : List (List ℕ)) (l : List ℕ) → has_quit ls ≡ false → is_quit l ≡ false → has_quit (ls ++ l ∷ []) ≡ false
no_quit_more [] l none stays = rw stays refl
no_quit_more (x ∷ ls) l none stays =
    let each = or_none (is_quit x) (has_quit ls) none in
    rw each.0 (no_quit_more ls l each.1 stays)

-- no line among these asks to quit
none_asks : (ls : List (List ℕ)) (k : ℕ) (l : List ℕ) → has_quit ls ≡ false → slice_get ls k ≡ Some l → spoken l ≡ Some Quit → ⊥
none_asks [] k l none there asks = cc
none_asks (x ∷ ls) zero l none there asks =
    let each = or_none (is_quit x) (has_quit ls) none in
    quits x l each.0 (some_is x l there) asks
  where
    some_is : (x y : List ℕ) → Some x ≡ Some y → x ≡ y
    some_is x y e = cc

    quits : (x l : List ℕ) → is_quit x ≡ false → x ≡ l → spoken l ≡ Some Quit → ⊥
    quits x l stays same asks = true_false (sym (rw (same, asks) at stays))
      where
        true_false : false ≡ true → ⊥
        true_false e = cc
none_asks (x ∷ ls) (suc k) l none there asks = none_asks ls k l (or_none (is_quit x) (has_quit ls) none).1 there asks

pub quit_is_none : (ls : List (List ℕ)) → has_quit ls ≡ false → QuitIsLast ls
quit_is_none ls none k l there asks = absurd (none_asks ls k l none there asks)

pub quit_is_last : (ls : List (List ℕ)) (last : List ℕ) → has_quit ls ≡ false → QuitIsLast (ls ++ last ∷ [])
quit_is_last ls last none k l there asks =
    elim (get_more ls last l k there) [
      | inl before ↦ absurd (none_asks ls k l none before asks)
      | inr here ↦ rw (length-append ls (last ∷ [])) (omega (arith, here.0))
    ]

-- ---- the farewell comes exactly where a line asks to quit

bye_edit : (h : List Entry) (e : Edit) (cause : Option Refusal) → is_bye (to_edit (by_refusal h e cause)) ≡ false
bye_edit h e None = refl
bye_edit h e (Some cause) = refl

bye_applied : (set : Setting) (h : List Entry) (e : Edit) (reply : Reply) → reply ≡ to_edit (answer set.limits h (length h) e) → is_bye reply ≡ false
bye_applied set h e reply is = rw (is ∙ ap to_edit (answer-newest set.limits h e)) (bye_edit h e (refusal (content_of h) (length h) set.limits e))

bye_plan : (h : List Entry) (e : Edit) (cause : Option Refusal) → is_bye (to_plan h e cause) ≡ false
bye_plan h e None = refl
bye_plan h e (Some cause) = refl

bye_answer : (a : Answer) → is_bye (to_edit a) ≡ false
bye_answer (Conflict front m) = refl
bye_answer (Refused front cause) = refl
bye_answer (Done front line) = refl

bye_commit : (set : Setting) (h : List Entry) (pending : Option Pending) → is_bye (to_commit set h pending) ≡ false
bye_commit set h None = refl
bye_commit set h (Some plan) = bye_answer (answer set.limits h plan.base plan.edit)

asks_bye : Option Request → Bool
asks_bye (Some asks.Quit) = true
asks_bye request = false

bye_request : (set : Setting) (h : List Entry) (pending : Option Pending) (r : Request) (reply : Reply) → IsReply set h pending r reply → is_bye reply ≡ asks_bye (Some r)
unfolding asks_bye
bye_request set h pending (asks.Apply e) reply is = bye_applied set h e reply is
bye_request set h pending asks.Stat reply is = rw is refl
bye_request set h pending asks.Quit reply is = rw is refl
bye_request set h pending asks.Sync reply is = rw is refl
bye_request set h pending (asks.Plan e) reply is = ap is_bye is ∙ bye_plan h e (refusal (content_of h) (length h) set.limits e)
bye_request set h pending asks.Commit reply is = ap is_bye is ∙ bye_commit set h pending
bye_request set h pending (asks.Level p) reply is = rw is refl
bye_request set h pending (asks.Contour z) reply is = rw is refl
bye_request set h pending (asks.Volume z) reply is = rw is refl
bye_request set h pending asks.Export reply is = rw is refl

-- a request that takes memory doesn't ask to quit
lacking_stays : (limits : Limits) (h : List Entry) (pending : Option Pending) (r : Request) → takes_memory limits h pending r ≡ true → false ≡ asks_bye (Some r)
unfolding asks_bye
lacking_stays limits h pending asks.Quit e = cc
lacking_stays limits h pending (asks.Apply edit) e = refl
lacking_stays limits h pending asks.Stat e = refl
lacking_stays limits h pending asks.Sync e = refl
lacking_stays limits h pending (asks.Plan edit) e = refl
lacking_stays limits h pending asks.Commit e = refl
lacking_stays limits h pending (asks.Level p) e = refl
lacking_stays limits h pending (asks.Contour z) e = refl
lacking_stays limits h pending (asks.Volume z) e = refl
lacking_stays limits h pending asks.Export e = refl

bye_within : (set : Setting) (h : List Entry) (pending : Option Pending) (r : Option Request) (reply : Reply) → IsAnswerWithin set h pending r reply → is_bye reply ≡ asks_bye r
unfolding asks_bye
bye_within set h pending None reply is = rw is refl
bye_within set h pending (Some r) reply a =
    elim a [
      | inl is ↦ bye_request set h pending r reply is
      | inr lacks ↦ ap is_bye lacks.1 ∙ lacking_stays set.limits h pending r lacks.0
    ]

no_bye : {X : Type 0} (f : X → Request) (found : Option X) → ((x : X) → asks_bye (Some (f x)) ≡ false) → asks_bye (option_map f found) ≡ false
unfolding asks_bye
no_bye f None other = refl
no_bye f (Some x) other = other x

-- only a line that asks to quit is that request
within_bye : (set : Setting) (s : Spoken) → asks_bye (request_within set.head.origin s) ≡ asks_quit (Some s)
unfolding asks_bye request_within
within_bye set Sync = refl
within_bye set (Plan e) = no_bye asks.Plan (edit_within set.head.origin e) (λ x. refl)
within_bye set Commit = refl
within_bye set (Apply e) = no_bye asks.Apply (edit_within set.head.origin e) (λ x. refl)
within_bye set (Level p) = no_bye asks.Level (place_within set.head.origin p) (λ x. refl)
within_bye set (Contour z) = no_bye asks.Contour (level_within z) (λ x. refl)
within_bye set (Volume z) = no_bye asks.Volume (level_within z) (λ x. refl)
within_bye set Stat = refl
within_bye set Export = refl
within_bye set Quit = refl

bye_line : (set : Setting) (h : List Entry) (pending : Option Pending) (line : List ℕ) (s : Option Spoken) (reply : Reply) → MatchOption s (IsFaultReply line reply) (λ s. IsAnswerWithin set h pending (request_within set.head.origin s) reply) → is_bye reply ≡ asks_quit s
bye_line set h pending line None reply a = rw a.2 refl
bye_line set h pending line (Some s) reply a = bye_within set h pending (request_within set.head.origin s) reply a ∙ within_bye set s

pub bye_is : (author : ℕ) (change : Position × Position) (line : List ℕ) (reply : Reply) (own : List ℕ) → ServesLine author change line reply own → is_bye reply ≡ is_quit line
bye_is author change line reply own (inl s) = bye_line (setting change.0.held) change.0.held.entries change.0.pending line (spoken line) reply s.is
bye_is author change line reply own (inr s) = bye_line (setting s.found) s.found.entries change.0.pending line (spoken line) reply s.is
