use Rattle.std.proofs.Common.{rules, ◌∙◌, ap, sym}
use Rattle.turn_lock.specs.Rule.{ticket}
use Rattle.turn_lock.specs.declared.view.Stage.TheVariants.{Holds}
use Rattle.turn_lock.proofs.Moves.{draws, looks}
use Rattle.turn_lock.proofs.Rests.{rest_idle, rest_seat}
use Rattle.turn_lock.proofs.lock.TurnLock.take.Goals as goal

pub fetch_add-ticket-requires : goal.fetch_add-ticket-requires
fetch_add-ticket-requires g c =
    let same = c.into_seat-table_seat.ensures.2 in
    let idle = rest_idle _ _ _ _ c.seat.invariant same in
    let seat = rest_seat _ _ _ _ c.seat.invariant same in
    (search rules, search rules, draws g.S.Filed.journal _ _ _ _ _ _ idle seat)

pub load-requires : goal.load-requires
load-requires g c =
    let now = c.wait_for-value.ensures.seat in
    let is = ap (λ m. m.0.stage) now ∙ ap (λ m. Holds (ticket m.0.stage)) (sym now) in
    (search rules, search rules, looks g.S.Filed.journal _ _ _ _ _ _ is)
