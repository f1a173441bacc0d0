use Rattle.std.proofs.Common.{rules, subst}
use Rattle.std.specs.List.{Contains}
use Rattle.ground_model.specs.declared.entry.Entry.{Entry}
use Rattle.turn_lock.proofs.Moves.{notes}
use Rattle.turn_lock.proofs.turn.note_entry.Goals as goal

pub store-requires : goal.store-requires
store-requires g c =
    let own = subst (λ (e : Entry). Contains c.args.table_seat.now.me.0.numbers e.author) c.requires.picked c.requires.own in
    (search rules, search rules, notes g.S.Filed.journal _ _ _ _ _ _ g.J.Noted.entry _ c.requires.seat.0 own (search rules))
