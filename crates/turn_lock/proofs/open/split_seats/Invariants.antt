use Rattle.std.proofs.Common.{◌≡◌, ◌+◌, ◌<◌, [], ℕ, Some, vec_len, vec_capacity, slice_get}
use Rattle.turn_lock.specs.Seat.{fresh_seat}
use Rattle.turn_lock.proofs.open.split_seats.Given as goal

abbrev pub invariant-loop-i : goal.invariant-loop-i
invariant-loop-i g l =
    (l.table_seat.table_id ≡ l.initial.table_seat.table_id)
    × (l.table_seat.me ≡ (record l.initial.table_seat.me.0 { given = 1 + l.i }, []))
    × (vec_len l.others ≡ l.i)
    × (vec_capacity l.others ≡ vec_capacity l.initial.others)
    × ((k : ℕ) → k < l.i → slice_get l.others.items k ≡ Some (fresh_seat l.board.table_id l.initial.table_seat.me.0.seen (k + 2)))
