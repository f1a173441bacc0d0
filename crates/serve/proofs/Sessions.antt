-- A session at a desk, as its pass sees it.
use Rattle.std.proofs.Common.{◌≡◌, ℕ, List, ◌∷◌, Option, Some, sym, ap, subst, ◌∙◌}
use Rattle.ground_io.specs.Wires.{WireView}
use Rattle.turn_lock.specs.Journal.{IsPrefix}
use Rattle.turn_lock.specs.Seat.{Seat}
use Rattle.turn_lock.specs.Setting.{setting}
use Rattle.turn_lock.specs.declared.journal.Journal.{Journal}
use Rattle.session.specs.Turns.{Converses, Conversed}
use Rattle.session.specs.declared.conversation.Ended.{Ended}
use Rattle.session.specs.declared.conversation.Ended.TheVariants.{Quit, End, Cut, LongLine, Spent, ReadFault, WriteFault, Memory}
use Rattle.serve.specs.AtDesk.{Goes, number_of, seen_of, GoesBy}
use Rattle.serve.specs.Served.{Served}

module _ (author : ℕ) (seen : Journal × Journal) (Finds : List ℕ → Type 0) (budget : ℕ) (wires : WireView × WireView) (same : setting seen.1 ≡ setting seen.0) where
  by-turns : (end : Ended) → Converses author seen Finds budget wires end → IsPrefix seen.0 seen.1
  by-turns end v = (v.visit.begins.0, λ i. record { head = (same i).head; limits = (same i).limits; entries = v.visit.begins.1 i })

  -- the history goes on from what was seen
  goes-on : (end : Ended) → Conversed author seen Finds budget wires end → IsPrefix seen.0 seen.1
  goes-on Memory v = v.added.prefix
  goes-on Quit v = by-turns Quit v
  goes-on End v = by-turns End v
  goes-on Cut v = by-turns Cut v
  goes-on LongLine v = by-turns LongLine v
  goes-on Spent v = by-turns Spent v
  goes-on ReadFault v = by-turns ReadFault v
  goes-on WriteFault v = by-turns WriteFault v

-- the fronts that were found
found : (author : ℕ) (seen : Journal × Journal) (Finds : List ℕ → Type 0) (budget : ℕ) (wires : WireView × WireView) (end : Ended) → Conversed author seen Finds budget wires end → (fronts : List ℕ) × Finds fronts
found author seen Finds budget wires Memory v = (v.fronts, v.finds)
found author seen Finds budget wires Quit v = (v.front ∷ v.own, v.finds)
found author seen Finds budget wires End v = (v.front ∷ v.own, v.finds)
found author seen Finds budget wires Cut v = (v.front ∷ v.own, v.finds)
found author seen Finds budget wires LongLine v = (v.front ∷ v.own, v.finds)
found author seen Finds budget wires Spent v = (v.front ∷ v.own, v.finds)
found author seen Finds budget wires ReadFault v = (v.front ∷ v.own, v.finds)
found author seen Finds budget wires WriteFault v = (v.front ∷ v.own, v.finds)

-- a session of one who has these passes before and after: what was served, the fronts that the pass found, and that its history goes on
pub served-by : (first last : Journal) (before after : Option Seat) (p q : Seat) (budget : ℕ) (wires : WireView × WireView) (end : Ended) → before ≡ Some p → after ≡ Some q
    → Conversed (number_of before) (seen_of first before, seen_of last after) (GoesBy before after) budget wires end → setting (seen_of last after) ≡ setting (seen_of first before)
    → Served p q budget wires end × ((fronts : List ℕ) × Goes p q fronts) × IsPrefix p.seen q.seen
served-by first last before after p q budget wires end was is v stays =
    let served : Served p q budget wires end =
    subst (λ (b : Option Seat). Conversed (number_of b) (seen_of first b, q.seen) (GoesBy b (Some q)) budget wires end) was
    (subst (λ (a : Option Seat). Conversed (number_of before) (seen_of first before, seen_of last a) (GoesBy before a) budget wires end) is v) in
    let same : setting q.seen ≡ setting p.seen = sym (ap (λ (a : Option Seat). setting (seen_of last a)) is) ∙ stays ∙ ap (λ (b : Option Seat). setting (seen_of first b)) was in
    (served, found p.number (p.seen, q.seen) (Goes p q) budget wires end served, goes-on p.number (p.seen, q.seen) (Goes p q) budget wires same end served)
