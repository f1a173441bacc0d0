-- What a seat's stage says, when another seat steps.
use Rattle.std.proofs.Common.{◌≡◌, ◌≢◌, ℕ, zero, suc, ◌+◌, Bool, true, false, eqb, List, [], ◌∷◌, ◌++◌, length, refl, sym, ap, ◌∙◌, subst, arith}
use mathlib.Core.Option.{some, some-injective, some-ne-none}
use mathlib.Core.Logic.{dite}
use native.Mathlib.Decide.{ℕ_discrete}
use lib.ListN.{get_elem?}
use Rattle.std.specs.List.{list_any}
use Rattle.atomic_table.proofs.Lists.{at_longer}
use Rattle.turn_lock.specs.declared.journal.Journal.{Journal}
use Rattle.turn_lock.specs.declared.view.Known.{Known}
use Rattle.turn_lock.specs.declared.view.View.{View}
use Rattle.turn_lock.specs.declared.view.Stage.{Stage}
use Rattle.turn_lock.specs.declared.view.Stage.TheVariants.{Idle, Joined, Waits, Holds}
use Rattle.turn_lock.specs.Rule.{ticket, AtStage, IsHolding, IsSeat}
use Rattle.turn_lock.proofs.Queue.{at_one, or_right, in_pushed}

-- when the seat id goes to the end of the queue
pub stage_pushed : (log : Journal) (first : ℕ) (queue : List ℕ) (out : Bool) (j id : ℕ) (seen : Journal) (st : Stage) → j ≢ id → AtStage log first queue out j seen st → AtStage log first (queue ++ id ∷ []) out j seen st
stage_pushed log first queue out j id seen Idle ne h = in_pushed queue id j ne ∙ h
stage_pushed log first queue out j id seen (Joined x y) ne h = (in_pushed queue id j ne ∙ h.0, h.1, h.2)
stage_pushed log first queue out j id seen (Waits n) ne h = (h.0, h.1, at_longer queue (id ∷ []) h.0 j h.2, h.3)
stage_pushed log first queue out j id seen (Holds n) ne h = (h.0, at_longer queue (id ∷ []) 0 j h.1, h.2, h.3)

-- when the seat id at the head of the queue takes the slot, or notes
pub stage_other : (log log' : Journal) (first : ℕ) (queue : List ℕ) (out : Bool) (j id : ℕ) (seen : Journal) (st : Stage) → j ≢ id → get_elem? queue 0 ≡ some id → AtStage log first queue out j seen st → AtStage log' first queue true j seen st
stage_other log log' first queue out j id seen Idle ne head h = h
stage_other log log' first queue out j id seen (Joined x y) ne head h = h
stage_other log log' first queue out j id seen (Waits n) ne head h = (h.0, h.1, h.2, λ z. absurd (ne (at_one queue 0 j id (subst (λ k. get_elem? queue k ≡ some j) z h.2) head)))
stage_other log log' first queue out j id seen (Holds n) ne head h = absurd (ne (at_one queue 0 j id h.1 head))

waits_passed : (first : ℕ) (rest : List ℕ) (j id n k : ℕ) → j ≢ id → n ≡ first + k → get_elem? (id ∷ rest) k ≡ some j → (k' : ℕ) × (n ≡ first + 1 + k') × (get_elem? rest k' ≡ some j) × (k' ≡ 0 → false ≡ false)
waits_passed first rest j id n zero ne f e = absurd (ne (sym (some-injective id j e)))
waits_passed first rest j id n (suc k) ne f e = (k, omega arith, e, λ _. refl)

-- when the seat id at the head of the queue goes
pub stage_passed : (log : Journal) (first : ℕ) (rest : List ℕ) (out : Bool) (j id : ℕ) (seen : Journal) (st : Stage) → j ≢ id → AtStage log first (id ∷ rest) out j seen st → AtStage log (first + 1) rest false j seen st
stage_passed log first rest out j id seen Idle ne h = or_right (eqb j id) (list_any (eqb j) rest) h
stage_passed log first rest out j id seen (Joined x y) ne h = (or_right (eqb j id) (list_any (eqb j) rest) h.0, h.1, h.2)
stage_passed log first rest out j id seen (Waits n) ne h = waits_passed first rest j id n h.0 ne h.1 h.2
stage_passed log first rest out j id seen (Holds n) ne h = absurd (ne (sym (some-injective id j h.1)))

pub head_of : (queue : List ℕ) (id : ℕ) → get_elem? queue 0 ≡ some id → (rest : List ℕ) × (queue ≡ id ∷ rest)
head_of [] id e = absurd (some-ne-none id (sym e))
head_of (q ∷ rest) id e = (rest, ap (λ x. x ∷ rest) (some-injective q id e))

pub idle_not_holding : (v : View) → v.stage ≡ Idle → ¬ IsHolding v
idle_not_holding v is h = let e : Idle ≡ Holds (ticket v.stage) = sym is ∙ h in cc

pub waiting_not_holding : (v : View) → v.stage ≡ Waits (ticket v.stage) → ¬ IsHolding v
waiting_not_holding v is h = let e : Waits (ticket v.stage) ≡ Holds (ticket v.stage) = sym is ∙ h in cc

pub joined_not_holding : (v : View) (x y : Known) → v.stage ≡ Joined x y → ¬ IsHolding v
joined_not_holding v x y is h = let e : Joined x y ≡ Holds (ticket v.stage) = sym is ∙ h in cc

-- a seat that does something was not joined into another
busy_seat : (v : View) → (length v.numbers ≡ 0 → v.stage ≡ Idle) → ¬ (v.stage ≡ Idle) → IsSeat v
busy_seat v spent busy = dite (ℕ_discrete (length v.numbers) 0) (λ z. absurd (busy (spent z))) (λ nz. omega arith)

pub holding_seat : (v : View) → (length v.numbers ≡ 0 → v.stage ≡ Idle) → IsHolding v → IsSeat v
holding_seat v spent h = busy_seat v spent (λ is. idle_not_holding v is h)

pub waiting_seat : (v : View) → (length v.numbers ≡ 0 → v.stage ≡ Idle) → v.stage ≡ Waits (ticket v.stage) → IsSeat v
waiting_seat v spent h = busy_seat v spent (λ is. let e : Waits (ticket v.stage) ≡ Idle = sym h ∙ is in cc)

pub joined_seat : (v : View) (x y : Known) → (length v.numbers ≡ 0 → v.stage ≡ Idle) → v.stage ≡ Joined x y → IsSeat v
joined_seat v x y spent h = busy_seat v spent (λ is. let e : Joined x y ≡ Idle = sym h ∙ is in cc)
