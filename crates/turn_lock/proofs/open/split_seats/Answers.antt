use Rattle.std.proofs.Common.{rules, arith, length, ap}
use Rattle.turn_lock.proofs.Seats.{splits}
use Rattle.turn_lock.proofs.open.split_seats.Goals as goal

pub split_seat-requires : goal.split_seat-requires
split_seat-requires g c =
    let count = ap (λ m. m.0.given) c.loop-i.invariant.1 in
    let numbers = ap (λ m. length m.0.numbers) c.loop-i.invariant.1 in
    (search rules, search rules, splits g.S.Filed.journal _ _ _ _ (omega arith) (omega arith) (omega arith))
