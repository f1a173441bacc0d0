-- From what a request did to what its line did.
use Rattle.std.proofs.Common.{◌≡◌, ℕ, ◌⊎◌, inl, inr, Bool, true, false, length, List, [], Option, None, Some, refl, sym, ap, subst, ◌∙◌}
use Rattle.std.specs.Prelude.{◌||◌, MatchOption, option_map, option_and_then, is_some, is_none}
use Rattle.ground_model.specs.declared.entry.Entry.{Entry}
use Rattle.ground_model.specs.declared.limits.Limits.{Limits}
use Rattle.ground_model.specs.Refusal.{refusal}
use Rattle.ground_model.specs.Answer.{Pending}
use Rattle.ground_model.specs.History.{content_of}
use Rattle.line_protocol.specs.declared.reply.Reply.{Reply}
use Rattle.line_protocol.specs.declared.reply.Reply.TheVariants.{Syntax, Range, Memory}
use Rattle.line_protocol.specs.declared.request.Request.{Request}
use Rattle.line_protocol.specs.declared.request.Request.TheVariants as asks
use Rattle.line_protocol.specs.Spoken.{Spoken}
use Rattle.line_protocol.specs.Grammar.{spoken}
use Rattle.line_protocol.specs.Fault.{IsFaultOffset}
use Rattle.line_protocol.specs.Within.{request_within, request_of}
use Rattle.line_protocol.specs.Reading.{takes_memory_early}
use Rattle.turn_lock.specs.Journal.{IsPrefix}
use Rattle.turn_lock.specs.Setting.{Setting, setting}
use Rattle.ground_model.specs.Content.{is_new_line}
use Rattle.session.specs.Told.{pending_after, edit_made, entries_after}
use Rattle.session.specs.Fronts.{asks_turn, LacksRoom}
use Rattle.session.proofs.Exchanges.{prefix_setting}
use Rattle.session.specs.Transcript.{IsFaultReply, takes_memory, IsAnswer, IsAnswerWithin, AnswersLine}
use Rattle.session.specs.Talking.{Position, Serves, ServesLine}

-- the answer to a line, by what it spells
by_spoken : (set : Setting) (h : List Entry) (pending : Option Pending) (line : List ℕ) (reply : Reply) → Option Spoken → Type 0
by_spoken set h pending line reply s = MatchOption s (IsFaultReply line reply) (λ s. IsAnswerWithin set h pending (request_within set.head.origin s) reply)

within_by : (set : Setting) (h : List Entry) (pending : Option Pending) (line : List ℕ) (reply : Reply) (s : Option Spoken) (request : Request) → option_and_then (request_within set.head.origin) s ≡ Some request → IsAnswer set h pending request reply → by_spoken set h pending line reply s
unfolding by_spoken
within_by set h pending line reply None request e answer = cc
within_by set h pending line reply (Some s) request e answer = rw e answer

-- a line's request was served
pub serves_line : (author : ℕ) (change : Position × Position) (line : List ℕ) (request : Request) (reply : Reply) (own : List ℕ) → IsPrefix change.0.held change.0.seen → request_of change.0.held.head.origin line ≡ Some request → Serves author change request reply own → ServesLine author change line reply own
unfolding by_spoken
serves_line author change line request reply own holds is (inl s) = inl (record {
  is = within_by (setting change.0.held) change.0.held.entries change.0.pending line reply (spoken line) request is s.is;
  quiet = subst (λ (r : Option Request). (asks_turn change.0.pending r ≡ false) ⊎ LacksRoom r reply) (sym is) s.quiet;
  pending = s.pending ∙ ap (λ r. pending_after r reply change.0.pending) (sym is);
  seen = s.seen;
  held = s.held;
  own = s.own;
})
serves_line author change line request reply own holds is (inr s) =
    let same : setting change.0.held ≡ setting s.found = prefix_setting change.0.held change.0.seen holds ∙ prefix_setting change.0.seen s.found s.added.prefix in
    inr (record {
      found = s.found;
      added = s.added;
      is = within_by (setting s.found) s.found.entries change.0.pending line reply (spoken line) request (ap (λ (set : Setting). request_of set.head.origin line) (sym same) ∙ is) s.is;
      turn = ap (asks_turn change.0.pending) is ∙ s.turn;
      pending = s.pending ∙ ap (λ r. pending_after r reply change.0.pending) (sym is);
      entries = s.entries ∙ ap (λ r. entries_after author s.found.entries (edit_made change.0.pending r) reply) (sym is);
      stays = s.stays;
      legal = s.legal;
      held = s.held;
      own = s.own;
    })

-- a line that nothing comes of
unserved : (author : ℕ) (at : Position) (line : List ℕ) (reply : Reply) → (asks_turn at.pending (request_of at.held.head.origin line) ≡ false) ⊎ LacksRoom (request_of at.held.head.origin line) reply → at.pending ≡ pending_after (request_of at.held.head.origin line) reply at.pending
    → AnswersLine (setting at.held) at.held.entries at.pending line reply → ServesLine author (at, at) line reply []
unserved author at line reply quiet after is = inl (record { is = is; quiet = quiet; pending = after; seen = refl; held = refl; own = refl })

range_by : (set : Setting) (h : List Entry) (pending : Option Pending) (line : List ℕ) (s : Option Spoken) → is_some s ≡ true → option_and_then (request_within set.head.origin) s ≡ None → by_spoken set h pending line Range s
unfolding by_spoken
range_by set h pending line None there outside = cc
range_by set h pending line (Some s) there outside = rw outside refl

-- a line whose request is outside its limits
pub range_line : (author : ℕ) (at : Position) (line : List ℕ) → is_some (spoken line) ≡ true → request_of at.held.head.origin line ≡ None → ServesLine author (at, at) line Range []
unfolding by_spoken
range_line author at line there outside =
    unserved author at line Range (inl (ap (asks_turn at.pending) outside)) (sym (ap (λ r. pending_after r Range at.pending) outside)) (range_by (setting at.held) at.held.entries at.pending line (spoken line) there outside)

fault_by : (set : Setting) (h : List Entry) (pending : Option Pending) (line : List ℕ) (s : Option Spoken) (k : ℕ) → s ≡ None → IsFaultOffset line k → by_spoken set h pending line (Syntax k) s
unfolding by_spoken
fault_by set h pending line None k e at = (k, at, refl)
fault_by set h pending line (Some s) k e at = cc

-- a line that is no request
pub fault_line : (author : ℕ) (at : Position) (line : List ℕ) (k : ℕ) → spoken line ≡ None → IsFaultOffset line k → ServesLine author (at, at) line (Syntax k) []
unfolding by_spoken
fault_line author at line k none offset =
    unserved author at line (Syntax k) (inl (ap (λ s. asks_turn at.pending (option_and_then (request_within at.held.head.origin) s)) none))
    (sym (ap (λ s. pending_after (option_and_then (request_within at.held.head.origin) s) (Syntax k) at.pending) none)) (fault_by (setting at.held) at.held.entries at.pending line (spoken line) k none offset)

or_first : (x y : Bool) → x ≡ true → (x || y) ≡ true
or_first true y e = refl
or_first false y e = cc

-- a request for which memory is taken while its line is read takes memory
early_takes : (limits : Limits) (h : List Entry) (pending : Option Pending) (request : Request) → takes_memory_early request ≡ true → takes_memory limits h pending request ≡ true
early_takes limits h pending (asks.Plan edit) e = or_first (is_new_line edit) (is_none (refusal (content_of h) (length h) limits edit)) e
early_takes limits h pending (asks.Apply edit) e = refl
early_takes limits h pending asks.Sync e = cc
early_takes limits h pending asks.Commit e = cc
early_takes limits h pending (asks.Level p) e = cc
early_takes limits h pending (asks.Contour z) e = cc
early_takes limits h pending (asks.Volume z) e = cc
early_takes limits h pending asks.Stat e = cc
early_takes limits h pending asks.Export e = cc
early_takes limits h pending asks.Quit e = cc

memory_within : (set : Setting) (h : List Entry) (pending : Option Pending) (r : Option Request) → option_map takes_memory_early r ≡ Some true → IsAnswerWithin set h pending r Memory
memory_within set h pending None early = cc
memory_within set h pending (Some request) early = inr (early_takes set.limits h pending request cc, refl)

memory_by : (set : Setting) (h : List Entry) (pending : Option Pending) (line : List ℕ) (s : Option Spoken) → option_map takes_memory_early (option_and_then (request_within set.head.origin) s) ≡ Some true → by_spoken set h pending line Memory s
unfolding by_spoken
memory_by set h pending line None early = cc
memory_by set h pending line (Some s) early = memory_within set h pending (request_within set.head.origin s) early

-- a line whose places are read leaves the pending plan where memory runs out
memory_pending : (r : Option Request) (pending : Option Pending) → option_map takes_memory_early r ≡ Some true → pending ≡ pending_after r Memory pending
memory_pending None pending early = cc
memory_pending (Some (asks.Plan edit)) pending early = refl
memory_pending (Some (asks.Apply edit)) pending early = refl
memory_pending (Some asks.Sync) pending early = refl
memory_pending (Some asks.Commit) pending early = refl
memory_pending (Some (asks.Level p)) pending early = refl
memory_pending (Some (asks.Contour z)) pending early = refl
memory_pending (Some (asks.Volume z)) pending early = refl
memory_pending (Some asks.Stat) pending early = refl
memory_pending (Some asks.Export) pending early = refl
memory_pending (Some asks.Quit) pending early = refl

-- a line for whose places there was no room
pub memory_line : (author : ℕ) (at : Position) (line : List ℕ) → option_map takes_memory_early (request_of at.held.head.origin line) ≡ Some true → ServesLine author (at, at) line Memory []
unfolding by_spoken
memory_line author at line early = unserved author at line Memory (inr (early, refl)) (memory_pending (request_of at.held.head.origin line) at.pending early) (memory_by (setting at.held) at.held.entries at.pending line (spoken line) early)
