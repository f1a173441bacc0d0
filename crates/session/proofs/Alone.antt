-- A session that has the store to itself.
use Rattle.std.proofs.Common.{◌≡◌, ℕ, suc, ◌<◌, ◌==◌, inl, inr, Bool, true, false, cond, List, [], ◌∷◌, ◌++◌, length, drop, Option, None, Some, is_some, refl, sym, ap, subst, ◌∙◌, arith, length-append}
use Rattle.std.proofs.lemmas.Bool.Decides.{eqb_tells}
use Rattle.std.proofs.Math.Seq.{drop-append_seam}
use Rattle.std.proofs.lemmas.List.{append-nil}
use Rattle.std.proofs.lemmas.List.Elements.{All-nil, All-cons, recursion_from_All}
use Rattle.std.specs.List.{All, AllByRecursion, Contains}
use Rattle.std.specs.Prelude.{slice_index_or}
use Rattle.ground_model.specs.declared.edit.Edit.{Edit}
use Rattle.ground_model.specs.declared.entry.Entry.{Entry}
use Rattle.ground_model.specs.Answer.{next_entry}
use Rattle.ground_model.specs.History.{IsLegal}
use Rattle.ground_io.specs.Wires.{WireView}
use Rattle.line_protocol.specs.declared.reply.Reply.{Reply}
use Rattle.line_protocol.specs.declared.request.Request.{Request}
use Rattle.turn_lock.specs.Journal.{AddedBy}
use Rattle.turn_lock.specs.Setting.{setting}
use Rattle.turn_lock.specs.declared.journal.Journal.{Journal}
use Rattle.turn_lock.proofs.Prefix.{prefix_refl}
use Rattle.session.specs.Told.{done_front, edit_made, with_entry, entries_after, fronts_told}
use Rattle.session.specs.Transcript.{fronts_by}
use Rattle.session.specs.Sessions.{SessionView, TurnStep}
use Rattle.session.specs.Turns.{TakesTurn, Converses, LacksMemory, Conversed}
use Rattle.session.specs.Talk.{line_limit, Visit, Talk}
use Rattle.session.specs.declared.conversation.Ended.{Ended}
use Rattle.session.specs.declared.conversation.Ended.TheVariants.{Quit, End, Cut, LongLine, Spent, ReadFault, WriteFault, Memory}
use Rattle.session.proofs.Consumed.{consumes_none}
use Rattle.session.proofs.Ends.{ends_memory, visit_in}
use Rattle.session.proofs.Exchanges.{prefix_setting}
use Rattle.session.proofs.Sessions.{starts_after}

-- all that a turn adds is the author's
added_in_turn : (author : ℕ) (old new : Journal) (edit : Option Edit) (reply : Reply) → setting new ≡ setting old → new.entries ≡ entries_after author old.entries edit reply → AddedBy (author ∷ []) old new
added_in_turn author old new edit reply same entries = by (is_some (done_front reply)) edit entries
  where
    whole : (past : List Entry) → new.entries ≡ old.entries ++ past → All (λ (e : Entry). Contains (author ∷ []) e.author) past → AddedBy (author ∷ []) old new
    whole past longer named = record { past = past; began = λ i. record { head = (same i).head; limits = (same i).limits; entries = longer i }; named = named }

    none : new.entries ≡ old.entries → AddedBy (author ∷ []) old new
    none kept = whole [] (kept ∙ sym (append-nil old.entries)) (All-nil (λ (e : Entry). Contains (author ∷ []) e.author))

    by : (made : Bool) (edit : Option Edit) → new.entries ≡ cond made (with_entry author old.entries edit) old.entries → AddedBy (author ∷ []) old new
    by false edit kept = none kept
    by true None kept = none kept
    by true (Some e) longer = whole (next_entry author old.entries e ∷ []) longer (All-cons (λ (e : Entry). Contains (author ∷ []) e.author) (next_entry author old.entries e) [] (0, omega arith, refl) (All-nil (λ (e : Entry). Contains (author ∷ []) e.author)))

pub turn_alone : (author : ℕ) (before after : Journal) (old new : SessionView) (request : Request) (reply : Reply) → old.author ≡ author → TurnStep (before, after) old new request reply → IsLegal after.limits after.entries
    → TakesTurn author (before, after) old new request reply (λ fronts. AddedBy (author ∷ []) before after)
turn_alone author before after old new request reply mine step legal = record {
  found = before;
  added = record { prefix = prefix_refl before; own = λ a is. refl };
  step = step;
  legal = legal;
  finds = added_in_turn author before after (edit_made old.pending (Some request)) reply step.stays (step.entries ∙ ap (λ a. entries_after a before.entries (edit_made old.pending (Some request)) reply) mine);
}

-- where all entries are the author's, each has its front
all_mine : (author place : ℕ) (past : List Entry) → AllByRecursion (λ (e : Entry). Contains (author ∷ []) e.author) past → length (fronts_by author place past) ≡ length past
all_mine author place [] named = refl
all_mine author place (e ∷ past) named =
    let mine : (e.author == author) ≡ true = same e.author named.0 in
    ap (λ t. length (cond t (suc place ∷ fronts_by author (suc place) past) (fronts_by author (suc place) past))) mine ∙ ap suc (all_mine author (suc place) past named.1)
  where
    same : (a : ℕ) → Contains (author ∷ []) a → (a == author) ≡ true
    same a found =
        let first : found.0 ≡ 0 = omega (arith, found.1) in
        let is : author ≡ a = ap (λ k. slice_index_or (author ∷ []) k a) (sym first) ∙ found.2 in
        elim (eqb_tells a author) [ inl t ↦ t.0 | inr t ↦ absurd (t.1 (sym is)) ]

-- a session all of whose entries are its own has nobody else's
talk_alone : (author : ℕ) (old new : Journal) (first : ℕ) (own : List ℕ) (budget : ℕ) (wire wire' : WireView) (end : Ended)
    → AddedBy (author ∷ []) old new → Visit (record { setting = setting old; author = author; start = length old.entries }) first own budget (record { entries = old.entries; wire = wire }) (record { entries = new.entries; wire = wire' }) end
    → Talk (record { setting = setting old; author = author; start = length old.entries }) budget (record { entries = old.entries; wire = wire }) (record { entries = new.entries; wire = wire' }) end
talk_alone author old new first own budget wire wire' end added visit = record {
  first = first;
  fronts = own;
  visit = visit;
  alone =
      let longer : new.entries ≡ old.entries ++ added.past = ap (λ (j : Journal). j.entries) added.began in
      let dropped : drop (length old.entries) new.entries ≡ added.past = ap (drop (length old.entries)) longer ∙ drop-append_seam old.entries added.past in
      let told : length added.past ≡ length (fronts_told visit.replies) =
      sym (all_mine author (length old.entries) added.past (recursion_from_All (λ (e : Entry). Contains (author ∷ []) e.author) added.past added.named))
      ∙ ap (λ es. length (fronts_by author (length old.entries) es)) (sym dropped) ∙ ap length visit.transcript.each_once in
      omega (arith, ap length longer, length-append old.entries added.past, told);
}

module _ (author : ℕ) (old new : Journal) (budget : ℕ) (wire wire' : WireView) (legal : IsLegal new.limits new.entries) where
  out_of_memory : LacksMemory author (old, new) (λ fronts. AddedBy (author ∷ []) old new) (wire, wire') → Talk (record { setting = setting old; author = author; start = length old.entries }) budget (record { entries = old.entries; wire = wire }) (record { entries = new.entries; wire = wire' }) Memory
  out_of_memory l =
      let visit = ends_memory (setting new) author (length new.entries) budget (record { entries = old.entries; wire = wire }) (record { entries = new.entries; wire = wire }) [] []
      (consumes_none wire.left) (omega arith) (All-nil (λ (line : List ℕ). length line < line_limit)) (starts_after author new old (record { written = wire.written; order = wire.order }) legal l.added) refl in
      subst (λ (w : WireView). Talk (record { setting = setting old; author = author; start = length old.entries }) budget (record { entries = old.entries; wire = wire }) (record { entries = new.entries; wire = w }) Memory) (sym l.same)
      (talk_alone author old new (length new.entries) [] budget wire wire Memory l.finds (visit_in _ _ author _ _ _ _ _ _ _ (sym (prefix_setting old new l.added.prefix)) visit))

  by_turns : (end : Ended) → Converses author (old, new) (λ fronts. AddedBy (author ∷ []) old new) budget (wire, wire') end → Talk (record { setting = setting old; author = author; start = length old.entries }) budget (record { entries = old.entries; wire = wire }) (record { entries = new.entries; wire = wire' }) end
  by_turns end v = talk_alone author old new v.front v.own budget wire wire' end v.finds v.visit

  pub talk_of : (end : Ended) → Conversed author (old, new) (λ fronts. AddedBy (author ∷ []) old new) budget (wire, wire') end → Talk (record { setting = setting old; author = author; start = length old.entries }) budget (record { entries = old.entries; wire = wire }) (record { entries = new.entries; wire = wire' }) end
  talk_of Memory v = out_of_memory v
  talk_of Quit v = by_turns Quit v
  talk_of End v = by_turns End v
  talk_of Cut v = by_turns Cut v
  talk_of LongLine v = by_turns LongLine v
  talk_of Spent v = by_turns Spent v
  talk_of ReadFault v = by_turns ReadFault v
  talk_of WriteFault v = by_turns WriteFault v

-- a session that was not out of memory
pub conversed_by : (author : ℕ) (seen : Journal × Journal) (Finds : List ℕ → Type 0) (budget : ℕ) (wires : WireView × WireView) (end : Ended) → (end ≡ Memory → ⊥) → Converses author seen Finds budget wires end → Conversed author seen Finds budget wires end
conversed_by author seen Finds budget wires Memory some v = absurd (some refl)
conversed_by author seen Finds budget wires Quit some v = v
conversed_by author seen Finds budget wires End some v = v
conversed_by author seen Finds budget wires Cut some v = v
conversed_by author seen Finds budget wires LongLine some v = v
conversed_by author seen Finds budget wires Spent some v = v
conversed_by author seen Finds budget wires ReadFault some v = v
conversed_by author seen Finds budget wires WriteFault some v = v
