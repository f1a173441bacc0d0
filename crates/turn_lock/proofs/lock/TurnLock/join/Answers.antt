use Rattle.std.proofs.Common.{rules, ap}
use Rattle.turn_lock.proofs.Seats.{joins}
use Rattle.turn_lock.proofs.Moves.{recalls}
use Rattle.turn_lock.proofs.Rests.{rest_idle, rest_seat}
use Rattle.turn_lock.proofs.lock.TurnLock.join.Goals as goal

pub join_seat-requires : goal.join_seat-requires
join_seat-requires g c =
    let a = c.into_seat-table_seat.ensures.2 in
    let b = c.into_seat.ensures.2 in (
      search rules,
      search rules,
      search rules,
      search rules,
      joins g.S.Filed.journal _ _ _ _ _ _ (rest_idle _ _ _ _ c.a.invariant a) (rest_idle _ _ _ _ c.b.invariant b) (rest_seat _ _ _ _ c.a.invariant a) (rest_seat _ _ _ _ c.b.invariant b),
    )

pub load-requires : goal.load-requires
load-requires g c = (search rules, search rules, recalls g.S.Filed.journal _ _ _ _ _ _ _ _ (ap (λ m. m.0.stage) c.join_seat.ensures.2))
