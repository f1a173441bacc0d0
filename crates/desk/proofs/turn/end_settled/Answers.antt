use Rattle.desk.proofs.Settling.{settled-next}
use Rattle.desk.proofs.turn.end_settled.Goals as goal

pub note_last-requires : goal.note_last-requires
note_last-requires c = settled-next c.args.turn c.args.store.journal c.args.settled.now _ _ _ c.in-Done.is c.requires
