-- What a seat between two turns says of its view, and of the lock once it is the last.
use Rattle.std.proofs.Common.{◌≡◌, ◌∙◌, ◌∷◌, [], List, ℕ, ◌<◌, ◌≤◌, length, ap, sym, subst, arith, Option, Some}
use mathlib.Core.Option.{some}
use lib.ListN.{get_elem?}
use Rattle.std.specs.List.{Contains}
use Rattle.atomic_table.specs.Table.{State}
use Rattle.atomic_table.specs.Seated.{TableId}
use Rattle.turn_lock.specs.declared.journal.Journal.{Journal}
use Rattle.turn_lock.specs.declared.view.View.{View}
use Rattle.turn_lock.specs.declared.view.Stage.TheVariants.{Idle}
use Rattle.turn_lock.specs.Journal.{AddedBy}
use Rattle.turn_lock.specs.Seat.{Seat, Lock, numbers_of, IsLast}
use Rattle.turn_lock.specs.Rule.{IsSeat, InTurn}
use Rattle.turn_lock.specs.Insides.{view_of, seat_of, IsAtRest}
use Rattle.turn_lock.proofs.Seats.{settles}

module _ (views : List View) (front number : ℕ) (v : View) (rest : IsAtRest views front number) (same : views ≡ v ∷ []) where
  pub rest_idle : v.stage ≡ Idle
  rest_idle = ap (λ vs. (view_of vs).stage) (sym same) ∙ rest.idle

  pub rest_seat : IsSeat v
  rest_seat = let l = ap length rest.numbered in subst (λ vs. IsSeat (view_of vs)) same (omega arith)

  -- the last seat has seen what the value at home has
  pub rest_settles : {S : Type 0} (journal : S → Journal) (seats : ℕ) (origin : Journal) (lock : Lock) (table : TableId) (seat : Seat) → seat_of table number (view_of views) ≡ seat → seats ≡ lock.seats → origin ≡ lock.opening → IsLast lock seat
      → (s : State (Option S) View) → InTurn journal seats origin s → (id : ℕ) → get_elem? s.views id ≡ some v
      → (x : S) × (s.homes ≡ some (Some x) ∷ []) × (journal x ≡ seat.seen) × AddedBy (numbers_of seat) lock.opening seat.seen
  rest_settles journal seats origin lock table seat shown count begin last s rule id at =
      let numbers : v.numbers ≡ numbers_of seat = ap (λ vs. (view_of vs).numbers) (sym same) ∙ (rest.numbered ∙ ap numbers_of shown) in
      let seen : v.seen ≡ seat.seen = ap (λ vs. (view_of vs).seen) (sym same) ∙ ap (λ (t : Seat). t.seen) shown in
      let all : (k : ℕ) → 0 < k → k ≤ seats → Contains v.numbers k = (λ k low high. subst (λ ns. Contains ns k) (sym numbers) (last k low (subst (λ n. k ≤ n) count high))) in
      let home = settles journal seats origin s rule id v at rest_idle rest_seat all in
      (home.0, home.1, home.2 ∙ seen, subst (λ (t : List ℕ × Journal × Journal). AddedBy t.0 t.1 t.2) (λ i. (numbers i, begin i, seen i)) home.3)
